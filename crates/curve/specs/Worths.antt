-- Factors that go on from a known year, and what payments are worth at them.
use Rattle.std.specs.Prelude.{◌≡◌, ℕ, zero, suc, ◌+◌, ◌*◌, ◌^◌, ◌<◌, cond, nat_le}
use Rattle.instruments.specs.Law.{Meaning}
use Rattle.curve.specs.Steps.{step, side_of}
use Rattle.curve.specs.declared.side.Side.{Side}

-- the factor of year t: as known up to year s, later a step from the year before by the year's growth
unfoldable pub continued : Side → (ℕ → ℕ) → ℕ → (ℕ → ℕ) → ℕ → ℕ
continued σ known s growth zero = known 0
continued σ known s growth (suc t) = cond (nat_le (suc t) s) (known (suc t)) (step σ (continued σ known s growth t) (growth (suc t)))

-- the same growth in every year
abbrev pub level : ℕ → ℕ → ℕ
level g t = g

-- the worth of the payments of years 1 to n at the factors, in products of a ppm and a unit
unfoldable pub worth : (ℕ → ℕ) → (ℕ → ℕ) → ℕ → ℕ
worth pay factor zero = 0
worth pay factor (suc t) = worth pay factor t + pay (suc t) * factor (suc t)

-- the payments after year s alone
unfoldable pub after : ℕ → (ℕ → ℕ) → ℕ → ℕ
after s pay t = cond (nat_le t s) 0 (pay t)

-- a worth in two parts: what the payments up to year s are worth, and the later ones at steps from the factor of s
unfoldable pub worth_from : Side → ℕ → ℕ → ℕ → (ℕ → ℕ) → ℕ → ℕ → ℕ
worth_from σ known start s pay m g = known + worth (after s pay) (continued σ (level start) s (level g)) m

-- the worth of x at a curve that is known up to year s, from the worth of its payments up to s and the factors of s
abbrev pub gap_worth : ℕ × ℕ → ℕ × ℕ → ℕ → Meaning → Side → ℕ → ℕ
gap_worth known start s x σ g = worth_from σ (side_of σ known) (side_of σ start) s x.payment x.maturity g

-- a gap of one year, at which x is worth less than the limit where the factor of that year is a single unit
abbrev pub IsShort : ℕ × ℕ → ℕ → Meaning → Side → ℕ → Type 0
IsShort known s x σ limit = (x.maturity ≡ s + 1) × (side_of σ known + x.payment x.maturity < limit) × (limit < 2 ^ 63)
