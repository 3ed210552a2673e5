-- What a curve answers for a year of its horizon.
use Rattle.std.specs.Prelude.{ℕ, ℤ, pos, ◌-ℤ◌, Ok, Result}
use Rattle.instruments.specs.Limits.{within, if_kept}
use Rattle.instruments.specs.declared.refusal.Refusal.{Refusal}
use Rattle.instruments.specs.declared.refusal.Refusal.TheVariants.{OutsideHorizon}
use Rattle.curve.specs.Range.{unit}
use Rattle.curve.specs.Market.{growth_of, factor_of}
use Rattle.curve.specs.declared.side.Side.{Side}
use Rattle.curve.specs.declared.side.Side.TheVariants.{Low, High}
use Rattle.curve.specs.declared.tables.Tables.{Tables}

-- the answer for a year from the first one asked for to the horizon; any other year is refused
abbrev pub asked : {A : Type 0} → Tables → ℕ → ℕ → A → Result A Refusal
asked T first t answer = if_kept (within first T.last t) (OutsideHorizon t) (Ok answer)

-- the low/high pair of a signed figure for each side
abbrev pub signed_pair : (Side → ℤ) → ℤ × ℤ
signed_pair f = (f Low, f High)

-- the forward of a growth, in units
abbrev pub forward_of : ℕ → ℤ
forward_of growth = pos growth -ℤ pos unit

-- the forwards of a year, from year 1 on
abbrev pub asked_forward : Tables → ℕ → Result (ℤ × ℤ) Refusal
asked_forward T t = asked T 1 t (signed_pair (λ σ. forward_of (growth_of T σ t)))

-- the discount factors of a year, from year 0 on
abbrev pub asked_factor : Tables → ℕ → Result (ℤ × ℤ) Refusal
asked_factor T t = asked T 0 t (signed_pair (λ σ. pos (factor_of T σ t)))
