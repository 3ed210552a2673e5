-- Instruments that pay the same coupon each year, and the nominal at maturity.
use Rattle.std.specs.Prelude.{ℕ, ◌+◌, cond, ◌==◌}
use Rattle.instruments.specs.Law.{Meaning}
use Rattle.instruments.specs.Limits.{within}

-- the nominal, in ppm of itself
abbrev pub nominal : ℕ
nominal = 1000000

-- the payment of a year: the coupon in the years 1 to maturity, and the nominal more at maturity
abbrev pub level : ℕ → ℕ → ℕ → ℕ
level coupon maturity year = cond (within 1 maturity year) (coupon + cond (year == maturity) nominal 0) 0

-- what an instrument of level payments means, by its coupon, maturity and price
abbrev pub level_meaning : ℕ → ℕ → ℕ → Meaning
level_meaning coupon maturity price = record { maturity = maturity; price = price; payment = level coupon maturity }
