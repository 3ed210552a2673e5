use Rattle.std.proofs.Common.{refl, ap, ◌∙◌}
use Rattle.book.specs.Books.{register_of}
use Rattle.frames.specs.Reads.{kind_by}
use Rattle.frames.specs.Sessions.{frame_call, call_outcome, read_outcome}
use Rattle.frames.proofs.session.Session.answer.Goals as goal

pub returns-in-Err-call_of : goal.returns-in-Err-call_of
returns-in-Err-call_of g c =
    let k = kind_by g.K.Instrument c.args.self.now.class in
    let R = register_of g.K.Instrument.read c.args.self.now.book in
    let l = c.in-Ok.read.0 in
    let called = c.in-Err-call_of.ensures ∙ ap (frame_call k l) c.deref.ensures.0 in
    record { class = refl; outcome = ap (λ a. (R, a)) c.refused.ensures ∙ ap (call_outcome R l) called ∙ ap (read_outcome k R) c.in-Ok.ensures }
