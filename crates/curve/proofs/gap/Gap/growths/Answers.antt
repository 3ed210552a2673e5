use Rattle.std.proofs.Common.{◌≡◌, ℕ, ◌+◌, ◌<◌, ◌≤◌, Ok, Err, sym, ap, ◌∙◌, arith}
use Rattle.instruments.specs.Law.{Meaning}
use Rattle.instruments.specs.declared.refusal.Refusal.TheVariants.{ForwardBelowRange, ForwardAboveRange, ForwardTooWide}
use Rattle.curve.specs.Range.{least, most}
use Rattle.curve.specs.Steps.{pair, reaching}
use Rattle.curve.specs.Market.{admitted, limit, found, found_growths}
use Rattle.curve.specs.Gaps.{worth_of}
use Rattle.curve.specs.declared.side.Side.{Side}
use Rattle.curve.specs.declared.side.Side.TheVariants.{Low, High}
use Rattle.curve.proofs.Edges.{edge_range}
use Rattle.curve.proofs.Verdict.{below_range, not_below, above_range, not_above, refused_below, refused_above, refused_wide, accepted_pair}
use Rattle.curve.proofs.gap.Gap.growths.Goals as goal

-- each answer, from the two growths that are found
module _ (w : Side → ℕ → ℕ) (x : Meaning) {m : ℕ} {growths : ℕ × ℕ} (m_is : m ≡ x.maturity) (are : growths ≡ pair (found w x.price)) where
  low_is : growths.0 ≡ found w x.price Low
  low_is = ap (λ p. p.0) are

  high_is : growths.1 ≡ found w x.price High
  high_is = ap (λ p. p.1) are

  small : growths.0 ≤ most
  small = omega (arith, low_is, (edge_range Low (reaching Low (w Low) (limit Low x.price))).1)

  below : growths.1 ≡ least → Err (ForwardBelowRange m) ≡ found_growths w x
  below e = ap (λ n. Err (ForwardBelowRange n)) m_is ∙ refused_below w x (below_range w x (sym high_is ∙ e))

  module _ (more : growths.1 ≡ least → ⊥) where
    enough : admitted Low x.price ≤ w High least
    enough = not_below w x (λ e. more (high_is ∙ e))

    above : growths.0 ≡ most → Err (ForwardAboveRange m) ≡ found_growths w x
    above e = ap (λ n. Err (ForwardAboveRange n)) m_is ∙ refused_above w x enough (above_range w x (sym low_is ∙ e))

    module _ (less : growths.0 ≡ most → ⊥) where
      not_more : w Low most ≤ admitted High x.price
      not_more = not_above w x (λ e. less (low_is ∙ e))

      wide : growths.0 + 1000 < growths.1 → Err (ForwardTooWide m) ≡ found_growths w x
      wide h = ap (λ n. Err (ForwardTooWide n)) m_is ∙ refused_wide w x enough not_more growths.0 growths.1 low_is high_is h

      taken : growths.1 ≤ growths.0 + 1000 → Ok (growths.0, growths.1) ≡ found_growths w x
      taken h = accepted_pair w x enough not_more growths.0 growths.1 low_is high_is h

pub returns-then-high-eq-LEAST : goal.returns-then-high-eq-LEAST
returns-then-high-eq-LEAST g c = below _ _ c.maturity-maturity.ensures c.furthest_growths-low.ensures c.if-high-eq-LEAST.true

pub returns-then-low-eq-MOST : goal.returns-then-low-eq-MOST
returns-then-low-eq-MOST g c = above _ _ c.maturity-maturity.ensures c.furthest_growths-low.ensures c.if-high-eq-LEAST.false c.if-low-eq-MOST.true

pub overflow_add-low : goal.overflow_add-low
overflow_add-low g c = record { fits = omega (arith, small (worth_of g.K.Instrument.means c.args.self.now) (g.K.Instrument.means c.args.self.now.instrument) c.maturity-maturity.ensures c.furthest_growths-low.ensures) }

pub returns-then-high-low : goal.returns-then-high-low
returns-then-high-low g c = wide _ _ c.maturity-maturity.ensures c.furthest_growths-low.ensures c.if-high-eq-LEAST.false c.if-low-eq-MOST.false c.if-high-low.true

pub returns : goal.returns
returns g c = taken _ _ c.maturity-maturity.ensures c.furthest_growths-low.ensures c.if-high-eq-LEAST.false c.if-low-eq-MOST.false c.if-high-low.false
