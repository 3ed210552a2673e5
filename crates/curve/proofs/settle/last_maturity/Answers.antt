use Rattle.std.proofs.Common.{◌≡◌, ℕ, ◌-◌, ◌≤◌, ltb, List, [], length, map, get_or, Some, None, Option, Bor, sym, ap, ◌∙◌, rules, arith}
use Rattle.std.proofs.lemmas.List.{nil_from_length}
use Rattle.std.proofs.lemmas.Bool.{ltb-true, ltb-false}
use Rattle.std.specs.Option.{MatchOption, IfSome, is_some}
use Rattle.instruments.specs.Law.{Meaning}
use Rattle.curve.specs.Settling.{last_from}
use Rattle.curve.proofs.Settlement.{last_at}
use Rattle.curve.proofs.settle.last_maturity.Goals as goal

-- the maturity of the last row, if there is one
last_is : {Row : Type 0} (read : Row → Meaning) (rows : List Row) (r : ℕ) (Post : Bor Row → Type 0) → ((row : Bor Row) → Post row → r ≡ (read row.now).maturity) → (o : Option (Bor Row))
    → MatchOption o (r ≡ 0) Post → is_some o ≡ ltb 0 (length rows) → IfSome o (λ x. x.now ≡ get_or rows (length rows - 1) x.now) → r ≡ last_from 0 (map read rows)
unfolding last_from
last_is read rows r Post post None h none i =
    let empty : rows ≡ [] = nil_from_length rows (omega (arith, ltb-false _ _ (sym none))) in
    h ∙ ap (λ rows. last_from 0 (map read rows)) (sym empty)
last_is read rows r Post post (Some x) h some i =
    let one : 1 ≤ length rows = omega (arith, ltb-true _ _ (sym some)) in
    post x h ∙ ap (λ row. (read row).maturity) i ∙ last_at read rows 0 x.now one

pub returns : goal.returns
returns g c = last_is g.K.Instrument.read c.args.rows.now c.map_or.result _ (λ row p. search rules) c.last.result c.map_or.ensures c.last.ensures.item.0 c.last.ensures.item.1
