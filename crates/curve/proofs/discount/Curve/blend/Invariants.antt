use Rattle.std.proofs.Common.{◌≡◌, ℕ, ◌<◌, ◌≤◌, length}
use Rattle.curve.specs.Blending.{discount_growth}
use Rattle.curve.specs.Currencies.{span}
use Rattle.curve.specs.Market.{entry}
use Rattle.curve.specs.Steps.{pair}
use Rattle.curve.proofs.discount.Curve.blend.Given as goal

-- the growths before `year` are blended, the others are the market's
abbrev pub invariant-loop-year : goal.invariant-loop-year
invariant-loop-year l =
    (length l.growths-items ≡ 121) × ((t : ℕ) → t < l.year → entry l.growths-items t ≡ pair (λ σ. discount_growth (span l.terms) l.fn.self.tables σ t))
    × ((t : ℕ) → l.year ≤ t → entry l.growths-items t ≡ entry l.fn.self.tables.growths t)
