-- The reserve for a table of cash flows: what each is worth today, rounded outwards flow by flow.
use Rattle.std.specs.Prelude.{ℕ, suc, ◌+◌, ◌*◌, List, [], ◌∷◌, ℤ, pos, negsuc, ◌+ℤ◌, ◌≤ℤ◌, neg_ℤ, IfSome, Some, None, Ok, Option, Result, slice_index_or}
use Rattle.instruments.specs.Law.{ok_map}
use Rattle.instruments.specs.declared.refusal.Refusal.{Refusal}
use Rattle.curve.specs.Steps.{quotient, opposite, side_of}
use Rattle.curve.specs.Market.{entry, and_then}
use Rattle.curve.specs.Questions.{asked, signed_pair}
use Rattle.curve.specs.declared.side.Side.{Side}
use Rattle.curve.specs.declared.side.Side.TheVariants.{Low, High}
use Rattle.curve.specs.declared.tables.Tables.{Tables}

-- a hundredth of a krona, in products of a krona and a unit
abbrev pub hundredth : ℕ
hundredth = 10000000

-- what a whole amount of kronor is worth at the factors of its year, in hundredths of a krona
unfoldable pub portion : ℕ × ℕ → ℕ → Side → ℕ
portion factors amount σ = quotient σ (amount * side_of σ factors) hundredth

-- the same of a signed amount: a negative one takes the worth of the other side away
abbrev pub share : ℕ × ℕ → ℤ → Side → ℤ
share factors (pos a) σ = pos (portion factors a σ)
share factors (negsuc a) σ = neg_ℤ (pos (portion factors (suc a) (opposite σ)))

-- what the entry of a year adds to the reserve: nothing where no flow is held
abbrev pub flow_share : ℕ × ℕ → Option ℤ → Side → ℤ
flow_share factors None σ = pos 0
flow_share factors (Some a) σ = share factors a σ

-- the reserve for the flows of the years from t on
unfoldable pub reserve_from : Tables → ℕ → List (Option ℤ) → Side → ℤ
reserve_from T t [] σ = pos 0
reserve_from T t (x ∷ xs) σ = flow_share (entry T.factors t) x σ +ℤ reserve_from T (t + 1) xs σ

-- refuses a flow that is held after the horizon
abbrev pub flow_within : Tables → ℕ → Option ℤ → Result (Unit {0}) Refusal
flow_within T t None = Ok tt
flow_within T t (Some a) = asked T 0 t tt

-- refuses the first such flow of the years from t on
unfoldable pub flows_within : Tables → ℕ → List (Option ℤ) → Result (Unit {0}) Refusal
flows_within T t [] = Ok tt
flows_within T t (x ∷ xs) = and_then (flow_within T t x) (λ _. flows_within T (t + 1) xs)

-- the reserve for a table of flows by year
abbrev pub asked_reserve : Tables → List (Option ℤ) → Result (ℤ × ℤ) Refusal
asked_reserve T xs = ok_map (λ _. signed_pair (reserve_from T 0 xs)) (flows_within T 0 xs)

-- what the largest amount, 2^31 kronor, is worth at a factor of 1, in hundredths
abbrev pub largest : ℕ
largest = 214748364800

-- the figure of a side, in a low/high pair of signed figures
abbrev pub signed_of : Side → ℤ × ℤ → ℤ
signed_of Low p = p.0
signed_of High p = p.1

-- a signed figure is at most n either way
abbrev pub SizeWithin : ℕ → ℤ → Type 0
SizeWithin n z = (neg_ℤ (pos n) ≤ℤ z) × (z ≤ℤ pos n)

-- and so is every amount that is held
abbrev pub AllWithin : ℕ → List (Option ℤ) → Type 0
AllWithin n xs = (t : ℕ) → IfSome (slice_index_or xs t None) (SizeWithin n)
