-- A gap by the worth of its instrument, and the tables of a curve that is being stripped.
use Rattle.std.specs.Prelude.{◌≡◌, ℕ, ◌<◌, ◌≤◌}
use Rattle.instruments.specs.Law.{Meaning}
use Rattle.curve.specs.Market.{by_year, entry, extended_growths, factor_of}
use Rattle.curve.specs.Range.{unit}
use Rattle.curve.specs.Steps.{pair}
use Rattle.curve.specs.Worths.{gap_worth, worth}
use Rattle.curve.specs.declared.gap.Gap.{Gap}
use Rattle.curve.specs.declared.side.Side.{Side}
use Rattle.curve.specs.declared.tables.Tables.{Tables}

-- the worth of a gap's instrument at each growth
abbrev pub worth_of : {K : Type 0} → (K → Meaning) → Gap K → Side → ℕ → ℕ
worth_of means gap = gap_worth gap.known gap.start gap.last (means gap.instrument)

-- the tables with the growths of the last year in all later ones
abbrev pub held_on : Tables → Tables
held_on T = record { last = T.last; growths = by_year (extended_growths T (entry T.growths T.last)); factors = T.factors }

-- factors that go on from the last year of a curve to the maturity of x, whose payments up to that year are worth what is known
pub record GoesOn (T : Tables) (last : ℕ) (known : ℕ × ℕ) (x : Meaning) : Type 0 where
  pub rises : last < x.maturity
  pub small : (σ : Side) (t : ℕ) → t ≤ x.maturity → factor_of T σ t ≤ unit
  pub summed : known ≡ pair (λ σ. worth x.payment (factor_of T σ) last)
