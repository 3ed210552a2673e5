-- Zero rates: the growth that gives a year's factor where every year up to it grows alike.
use Rattle.std.specs.Prelude.{ℕ, ◌+◌, ℤ, Result}
use Rattle.instruments.specs.declared.refusal.Refusal.{Refusal}
use Rattle.curve.specs.Range.{unit, edge}
use Rattle.curve.specs.Steps.{reaching}
use Rattle.curve.specs.Worths.{continued, level}
use Rattle.curve.specs.Market.{factor_of}
use Rattle.curve.specs.Questions.{asked, signed_pair, forward_of}
use Rattle.curve.specs.declared.side.Side.{Side}
use Rattle.curve.specs.declared.side.Side.TheVariants.{Low, High}
use Rattle.curve.specs.declared.tables.Tables.{Tables}

-- t steps from 1 by the growth g
abbrev pub compounded : ℕ → Side → ℕ → ℕ
compounded t σ g = continued σ (level unit) 0 (level g) t

-- what the steps are to reach: on the low side they give at least the high factor, on the high side less than one unit more than the low factor
abbrev pub rate_limit : Tables → ℕ → Side → ℕ
rate_limit T t Low = factor_of T High t
rate_limit T t High = factor_of T Low t + 1

-- the zero rate of year t as a growth: low, the greatest of the range whose down steps reach the limit; high, the least whose up steps do
abbrev pub rate_growth : Tables → ℕ → Side → ℕ
rate_growth T t σ = edge σ (reaching σ (compounded t σ) (rate_limit T t σ))

-- the zero rates of a year, from year 1 on
abbrev pub asked_rate : Tables → ℕ → Result (ℤ × ℤ) Refusal
asked_rate T t = asked T 1 t (signed_pair (λ σ. forward_of (rate_growth T t σ)))
