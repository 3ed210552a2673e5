use Rattle.std.proofs.Common.{min, length, ◌∙◌, rules}
use Rattle.book.specs.Books.{register_of, rows_of}
use Rattle.book.proofs.Standing.{lawful_calls, promised}
use Rattle.book.proofs.Turns.{turned}
use Rattle.book.proofs.running.run.Goals as goal

pub returns-in_err-replies-clause-promise : goal.returns-in_err-replies-clause-promise
returns-in_err-replies-clause-promise g c = promised c.args.terms.blend (min 60 (length c.args.rows.now)) _ (lawful_calls g.K.Instrument.means g.met.K.Instrument.lawful c.args.calls.now)

pub loop-call-preserved : goal.loop-call-preserved
loop-call-preserved g c =
    let read = g.K.Instrument.read in
    let l = c.loop-call in
    let so = l.invariant in
    let later = c.call.new.self in
    let kept = c.call.ensures.kept in
    let turn = turned g.K.Instrument.row g.K.Instrument.means c.args.calls.now l.call-index c.call-item.result c.loop-call-test.true c.call-item.is (register_of read l.book) (register_of read later)
    (rows_of l.book) (rows_of later) l.replies.items c.push.new.self.items c.call.result kept.register kept.replied c.call.ensures.places c.in_ok-push.ensures.items in
    (turn.replied ∙ so.0, turn.placed ∙ so.1, turn.told ∙ so.2, search rules, search rules, search rules)

pub returns-clause-promise : goal.returns-clause-promise
returns-clause-promise g c = promised c.args.terms.blend (min 60 (length c.args.rows.now)) _ (lawful_calls g.K.Instrument.means g.met.K.Instrument.lawful c.args.calls.now)
