-- The range of growths, and the furthest growth in it that passes a test.
use Rattle.std.specs.Prelude.{ℕ, zero, suc, ◌+◌, ◌-◌, Bool, cond}
use Rattle.curve.specs.declared.side.Side.{Side}
use Rattle.curve.specs.declared.side.Side.TheVariants.{Low, High}

-- 1 as a factor, in units of 10^-9
abbrev pub unit : ℕ
unit = 1000000000

-- the ends of the range of growths, which are 1 plus a forward of 0 to 25 per cent, in units
abbrev pub least : ℕ
least = 1000000000

abbrev pub most : ℕ
most = 1250000000

-- the k-th growth of the range: counted up from its lower end on the low side, down from its upper end on the high side
abbrev pub place : Side → ℕ → ℕ
place Low k = least + k
place High k = most - k

-- the last of the places 1 to k that passes the test, or place 0 if there is none
unfoldable pub furthest : Side → (ℕ → Bool) → ℕ → ℕ
furthest σ test zero = place σ 0
furthest σ test (suc k) = cond (test (place σ (suc k))) (place σ (suc k)) (furthest σ test k)

-- low side: the greatest growth of the range that passes the test, or the lower end; high side: the least that passes, or the upper end
unfoldable pub edge : Side → (ℕ → Bool) → ℕ
edge σ test = furthest σ test (most - least)
