use Rattle.std.proofs.Common.{◌≡◌, ◌≤◌}
use Rattle.curve.specs.Range.{unit}
use Rattle.curve.specs.Rates.{compounded}
use Rattle.curve.proofs.rates.CompoundFalling.at.Given as goal

-- the factor after the years so far
abbrev pub invariant-loop-year : goal.invariant-loop-year
invariant-loop-year l = (l.factor ≡ compounded l._year l.side l.growth) × (l.factor ≤ unit)
