use Rattle.std.proofs.Common.{◌≡◌, sym, ap, ◌∙◌, subst, arith}
use Rattle.curve.specs.Blending.{blended_growths, discount, weight}
use Rattle.curve.specs.Currencies.{span}
use Rattle.curve.specs.Market.{Ordered}
use Rattle.curve.specs.declared.tables.Tables.{Tables}
use Rattle.curve.proofs.Blended.{growths_range, discount_ordered, blended_growing, discount_is}
use Rattle.curve.proofs.discount.Curve.blend.Goals as goal
use Rattle.curve.proofs.discount.Curve.blend.Goals.{After-discount_on}

pub returns-in_default : goal.returns-in_default
unfolding discount
returns-in_default c = cc

pub narrow-requires : goal.narrow-requires
narrow-requires c =
    let T = c.args.self.now.tables in
    let year = c.loop-year.year in
    let market = c.wide.ensures ∙ c.loop-year.invariant.2 year (omega arith) in
    let is = c.growths.ensures ∙ ap (blended_growths (weight (span c.args.terms) year)) market in
    let range = growths_range c.args.terms.blend T c.args.self.now.ordered year (omega arith) in
    record { low_fits = omega (arith, ap (λ p. p.0) is, range); high_fits = omega (arith, ap (λ p. p.1) is, range) }

pub discount_on-requires-clause-growing : goal.discount_on-requires-clause-growing
discount_on-requires-clause-growing c =
    blended_growing c.args.terms.blend c.args.self.now.tables c.loop-year.growths-items (λ t h. c.loop-year.invariant.1 t (omega arith)) c.args.self.now.ordered

-- the tables are those of the discount curve
blends : (c : After-discount_on) → ◌≡◌ {A = Tables} (record { last = 120; growths = c.discount_on.new.self.growths; factors = c.discount_on.new.self.factors }) (discount (span c.args.terms) c.args.self.now.tables)
blends c =
    (λ i. record { last = 120; growths = c.discount_on.ensures.growths i; factors = c.discount_on.new.self.factors })
    ∙ discount_is c.args.terms.blend c.args.self.now.tables c.loop-year.growths-items (λ t h. c.loop-year.invariant.1 t (omega arith)) c.in-Some.blend c.in-Some.is c.min-known.result c.min-known.ensures
    c.discount_on.new.self.factors c.loop-year.invariant.0 c.discount_on.ensures.long c.discount_on.ensures.reached

pub invariant_of-self : goal.invariant_of-self
invariant_of-self c =
    let all = subst Ordered (sym (blends (goal.at.invariant_of-self c).After-discount_on)) (discount_ordered c.args.terms.blend c.args.self.now.tables c.args.self.now.ordered) in
    record { ordered = all }

pub returns : goal.returns
returns c = blends (goal.at.returns c).After-discount_on
