use Rattle.std.proofs.Common.{ℕ, ◌+◌, ◌-◌, ◌<◌, ◌≤◌}
use Rattle.curve.specs.Range.{least, most}
use Rattle.curve.proofs.search.first_below.Given as goal

-- all below `low` reach the limit, none from `high` on does, and the next growth asked lies between
abbrev pub invariant-loop-low : goal.invariant-loop-low
invariant-loop-low g l =
    (least ≤ l.low) × (l.low ≤ l.high) × (l.high ≤ most + 1) × (l.low < l.high → l.low ≤ l.at) × (l.low < l.high → l.at < l.high) × (l.stride ≤ most)
    × ((k : ℕ) → least ≤ k → k < l.low → l.limit ≤ g.F.Falling.value l.f l.side k)
    × ((k : ℕ) → l.high ≤ k → k ≤ most → g.F.Falling.value l.f l.side k < l.limit)

abbrev pub decreases-loop-low : goal.decreases-loop-low
decreases-loop-low g l = l.high - l.low
