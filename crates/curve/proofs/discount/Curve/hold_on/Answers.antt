use Rattle.std.proofs.Common.{◌≡◌, ◌+◌, ◌-◌, length, sym, ap, ◌∙◌, subst, arith, rules}
use borrow.Rule.Slice.PartMut.{put_mid, mid_of}
use Rattle.std.proofs.lemmas.List.{places}
use Rattle.curve.specs.Gaps.{held_on}
use Rattle.curve.specs.Market.{Ordered, entry}
use Rattle.curve.specs.declared.tables.Tables.{Tables}
use Rattle.curve.proofs.Extension.{spread_alike}
use Rattle.curve.proofs.Held.{held_ordered}
use Rattle.curve.proofs.discount.Curve.hold_on.Goals as goal
use Rattle.curve.proofs.discount.Curve.hold_on.Goals.{After-fill}

held : (c : After-fill)
    → ◌≡◌ {A = Tables} (record { last = c.args.self.now.tables.last; growths = put_mid (c.args.self.now.tables.last + 1) (121 - (c.args.self.now.tables.last + 1)) c.args.self.now.tables.growths c.fill.new.self; factors = c.args.self.now.tables.factors }) (held_on c.args.self.now.tables)
held c =
    let T = c.args.self.now.tables in
    let ends = c.args.self.now.ordered.ends in
    let long : length T.growths ≡ 121 = search rules in
    let rest : length (mid_of (T.last + 1) (121 - (T.last + 1)) T.growths) ≡ 121 - (T.last + 1) = grind (arith, places) in
    let over = ap (put_mid (T.last + 1) (121 - (T.last + 1)) T.growths) (c.fill.ensures.after (λ y e. λ i. (e.0 i, e.1 i))) in
    let all = over ∙ spread_alike T (entry T.growths T.last) (121 - (T.last + 1)) _ (omega (arith, ends)) long rest (omega (arith, ends)) in
    λ i. record { last = T.last; growths = all i; factors = T.factors }

pub invariant_of-self : goal.invariant_of-self
invariant_of-self c = record { ordered = subst Ordered (sym (held c)) (held_ordered c.args.self.now.tables c.args.self.now.ordered.ends c.args.self.now.ordered) }

pub returns : goal.returns
returns c = held (goal.at.returns c).After-fill
