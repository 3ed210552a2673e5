use Rattle.std.proofs.Common.{◌≡◌, ℕ, ◌+◌, ◌<◌, ◌≤◌, List, map, length, get_or, drop, Ok, Result, sym, ap, ◌∙◌}
use Rattle.std.proofs.lemmas.List.{at_drop_more, at_drop_all}
use Rattle.std.proofs.lemmas.Result.{err_from_is_err_and}
use Rattle.instruments.specs.Law.{Meaning}
use Rattle.instruments.specs.declared.refusal.Refusal.{Refusal}
use Rattle.curve.specs.Gaps.{held_on}
use Rattle.curve.specs.Market.{and_then, strip_from, with_gap}
use Rattle.curve.specs.declared.tables.Tables.{Tables}
use Rattle.curve.proofs.Held.{gap_held}
use Rattle.curve.proofs.strip.strip_on.Goals as goal

-- the next row's gap, and what it leaves
turn : {Row : Type 0} (read : Row → Meaning) (T : Tables) (rows : List Row) (i : ℕ) (row : Row) (x : Meaning) (v : Result Tables Refusal)
    → T.last ≤ 120 → i < length rows → row ≡ get_or rows i row → x ≡ read row → v ≡ with_gap T x
    → and_then v (λ N. strip_from N (map read (drop (i + 1) rows))) ≡ strip_from (held_on T) (map read (drop i rows))
unfolding strip_from
turn read T rows i row x v ends h is means e =
    ap (λ w. and_then w (λ N. strip_from N (map read (drop (i + 1) rows)))) (e ∙ sym (gap_held T ends x) ∙ ap (with_gap (held_on T)) (means ∙ ap read is))
    ∙ sym (at_drop_more (λ rest. strip_from (held_on T) (map read rest)) rows i row h)

pub returns-in_err-extend : goal.returns-in_err-extend
returns-in_err-extend g c =
    let p = err_from_is_err_and c.from_residual.result c.from_residual.ensures.1 in
    let all = turn g.K.Instrument.read c.loop-row.curve.tables c.args.rows.now c.loop-row.row-index c.row-item.result (g.K.Instrument.means c.of_row.result) _ c.loop-row.curve.ordered.ends c.loop-row-test.true c.row-item.is c.of_row.ensures c.in_err-extend.ensures
    ∙ c.loop-row.invariant in
    rw (p.1, p.2) all

pub loop-row-preserved : goal.loop-row-preserved
loop-row-preserved g c =
    turn g.K.Instrument.read c.loop-row.curve.tables c.args.rows.now c.loop-row.row-index c.row-item.result (g.K.Instrument.means c.of_row.result) _ c.loop-row.curve.ordered.ends c.loop-row-test.true c.row-item.is c.of_row.ensures c.in_ok-extend.ensures
    ∙ c.loop-row.invariant

pub returns : goal.returns
unfolding strip_from
returns g c =
    ap Ok c.hold_on.ensures ∙ sym (at_drop_all (λ rest. strip_from (held_on c.loop-row.curve.tables) (map g.K.Instrument.read rest)) c.args.rows.now c.loop-row.row-index c.loop-row-test.false) ∙ c.loop-row.invariant
