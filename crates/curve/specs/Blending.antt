-- Blending: the market's growths weighed with the ultimate forward rate, and the factors that follow.
use Rattle.std.specs.Prelude.{ℕ, ◌+◌, ◌-◌, ◌*◌, min, cond, Some, None, Option, nat_le}
use Rattle.curve.specs.Market.{by_year, growth_of, factor_of}
use Rattle.curve.specs.Steps.{side_of, opposite, pair, quotient, step}
use Rattle.curve.specs.Worths.{continued}
use Rattle.curve.specs.declared.side.Side.{Side}
use Rattle.curve.specs.declared.tables.Tables.{Tables}

-- the weight of the ultimate forward rate in a year, as numerator and denominator: 0 up to the last liquid point, then rising in equal parts, 1 after the convergence
abbrev pub weight : Option (ℕ × ℕ) → ℕ → ℕ × ℕ
weight None t = (0, 1)
weight (Some (liquid, convergence)) t = cond (nat_le t liquid) (0, 1) (cond (nat_le t convergence) (t - liquid, convergence - liquid + 1) (1, 1))

-- the growth of the ultimate forward rate, 4.2 per cent
abbrev pub ultimate : ℕ
ultimate = 1042000000

-- a growth of the market weighed with the ultimate one, which has k parts of n
unfoldable pub blended_growth : Side → ℕ × ℕ → ℕ → ℕ
blended_growth σ (k, n) growth = quotient σ ((n - k) * growth + k * ultimate) n

-- the same for a low/high pair
abbrev pub blended_growths : ℕ × ℕ → ℕ × ℕ → ℕ × ℕ
blended_growths share growths = pair (λ σ. blended_growth σ share (side_of σ growths))

-- one year's discounting of a low/high pair: a down step by the high growth, an up step by the low growth
abbrev pub discounted : ℕ × ℕ → ℕ × ℕ → ℕ × ℕ
discounted factors growths = pair (λ σ. step σ (side_of σ factors) (side_of (opposite σ) growths))

-- the discount curve's growth of a year
abbrev pub discount_growth : Option (ℕ × ℕ) → Tables → Side → ℕ → ℕ
discount_growth span T σ t = blended_growth σ (weight span t) (growth_of T σ t)

-- its factor of a year: the market's up to year s, later a step by the other side's growth
abbrev pub discount_factor : Option (ℕ × ℕ) → Tables → ℕ → Side → ℕ → ℕ
discount_factor span T s σ t = continued σ (factor_of T σ) s (discount_growth span T (opposite σ)) t

-- the curve of 120 years with a growth and a factor for each side and year
abbrev pub horizon_tables : (Side → ℕ → ℕ) → (Side → ℕ → ℕ) → Tables
horizon_tables growth factor = record { last = 120; growths = by_year (λ t. pair (λ σ. growth σ t)); factors = by_year (λ t. pair (λ σ. factor σ t)) }

-- the discount curve: the market's with no blend, else one of 120 years that takes the market's factors up to the last liquid point, or as far as there are any
unfoldable pub discount : Option (ℕ × ℕ) → Tables → Tables
discount None T = T
discount (Some (liquid, convergence)) T =
    let span = Some (liquid, convergence) in
    horizon_tables (discount_growth span T) (discount_factor span T (min liquid T.last))
