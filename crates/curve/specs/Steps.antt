-- Figures of a side, divisions that round outwards, and one year's discounting.
use Rattle.std.specs.Prelude.{ℕ, ◌+◌, ◌-◌, ◌*◌, ◌/◌, ◌≤◌, Bool, nat_le, nat_lt}
use Rattle.curve.specs.Range.{unit}
use Rattle.curve.specs.declared.side.Side.{Side}
use Rattle.curve.specs.declared.side.Side.TheVariants.{Low, High}

abbrev pub opposite : Side → Side
opposite Low = High
opposite High = Low

-- the figure of a side, in a low/high pair
abbrev pub side_of : Side → ℕ × ℕ → ℕ
side_of Low p = p.0
side_of High p = p.1

-- the low/high pair of a figure for each side
abbrev pub pair : (Side → ℕ) → ℕ × ℕ
pair f = (f Low, f High)

-- a / n, rounded down on the low side and up on the high side
unfoldable pub quotient : Side → ℕ → ℕ → ℕ
quotient Low a n = a / n
quotient High a n = (a + (n - 1)) / n

-- one year's discounting of a factor by a growth: a down step on the low side, an up step on the high side
unfoldable pub step : Side → ℕ → ℕ → ℕ
step σ factor growth = quotient σ (factor * unit) growth

-- a value reaches a limit on the low side if it is at least as large, on the high side if it falls below it
abbrev pub reaches : Side → ℕ → ℕ → Bool
reaches Low value limit = nat_le limit value
reaches High value limit = nat_lt value limit

-- the growths at which a figure reaches the limit
abbrev pub reaching : Side → (ℕ → ℕ) → ℕ → ℕ → Bool
reaching σ value limit growth = reaches σ (value growth) limit

-- a figure does not rise with the growth
abbrev pub Falls : (ℕ → ℕ) → Type 0
Falls value = (g h : ℕ) → 1 ≤ g → g ≤ h → value h ≤ value g
