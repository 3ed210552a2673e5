-- The marked figures of the product, as one list of statements about the definitions.
use Rattle.std.specs.Prelude.{◌≡◌, ℕ, true, List, [], ◌∷◌, replicate, ℤ, pos, neg_ℤ, is_ok, Some, None, Ok, Err, codes, Option, Result, slice_set}
use Rattle.instruments.specs.Bonds.{bond_fields, bond_read}
use Rattle.instruments.specs.Deductions.{adjusted}
use Rattle.instruments.specs.Law.{Meaning, ok_map}
use Rattle.instruments.specs.Refusals.{reported}
use Rattle.instruments.specs.Swaps.{swap_fields, swap_read}
use Rattle.instruments.specs.declared.class.Class.{Class}
use Rattle.instruments.specs.declared.class.Class.TheVariants.{OccupationalPension, OtherInsurance}
use Rattle.instruments.specs.declared.refusal.Refusal.{Refusal}
use Rattle.curve.specs.Blending.{weight, blended_growths}
use Rattle.curve.specs.Currencies.{span_of}
use Rattle.curve.specs.Market.{and_then, stripped}
use Rattle.curve.specs.Questions.{signed_pair, forward_of, asked_forward, asked_factor}
use Rattle.curve.specs.Rates.{asked_rate}
use Rattle.curve.specs.Reserve.{asked_reserve}
use Rattle.curve.specs.Steps.{side_of}
use Rattle.curve.specs.declared.tables.Tables.{Tables}

-- a figure of each sort: what it is a figure of, and then the figure
pub data Figure : Type 0 where
  -- a class and a quotation in ppm: the adjusted quotation
  adjusts : Class → ℤ → ℕ → Figure
  -- a currency and a year: the weight of the ultimate forward rate, as numerator and denominator
  weighs : List ℕ → ℕ → ℕ × ℕ → Figure
  -- a currency, a year and the market's growths: the blended forwards
  blends : List ℕ → ℕ → ℕ × ℕ → ℤ × ℤ → Figure
  -- the quotations that a curve is stripped from, and a year: the forwards, the factors or the zero rates
  has_forwards : List Meaning → ℕ → ℤ × ℤ → Figure
  has_factors : List Meaning → ℕ → ℤ × ℤ → Figure
  has_rates : List Meaning → ℕ → ℤ × ℤ → Figure
  -- the quotations and a table of flows by year: the reserve in hundredths
  has_reserve : List Meaning → List (Option ℤ) → ℤ × ℤ → Figure
  -- quotations that a curve is stripped from
  strips : List Meaning → Figure
  -- quotations that none is stripped from: the number and the year of the refusal
  refuses : List Meaning → ℕ → ℕ → Figure

-- a refusal with this number and year
abbrev pub RefusedAs : ℕ → ℕ → Result Tables Refusal → Type 0
RefusedAs number year (Ok T) = ⊥
RefusedAs number year (Err r) = ((reported r).number ≡ number) × ((reported r).year ≡ year)

-- what each figure says
abbrev pub Holds : Figure → Type 0
Holds (adjusts class quotation figure) = adjusted quotation class ≡ figure
Holds (weighs code year share) = ok_map (λ span. weight span year) (span_of code) ≡ Ok share
Holds (blends code year growths pair) = ok_map (λ span. signed_pair (λ σ. forward_of (side_of σ (blended_growths (weight span year) growths)))) (span_of code) ≡ Ok pair
Holds (has_forwards quotations year pair) = and_then (stripped quotations) (λ T. asked_forward T year) ≡ Ok pair
Holds (has_factors quotations year pair) = and_then (stripped quotations) (λ T. asked_factor T year) ≡ Ok pair
Holds (has_rates quotations year pair) = and_then (stripped quotations) (λ T. asked_rate T year) ≡ Ok pair
Holds (has_reserve quotations flows pair) = and_then (stripped quotations) (λ T. asked_reserve T flows) ≡ Ok pair
Holds (strips quotations) = is_ok (stripped quotations) ≡ true
Holds (refuses quotations number year) = RefusedAs number year (stripped quotations)

-- a swap of one year, by its quotation, for occupational pension; a bond of one year with coupon 0, by its price
abbrev pub one_swap : ℕ → Meaning
one_swap quotation = swap_read (swap_fields 1 (pos quotation) OccupationalPension)

abbrev pub one_bond : ℕ → Meaning
one_bond price = bond_read (bond_fields 1 0 price)

-- the table of a single flow in year 1
abbrev pub one_flow : ℤ → List (Option ℤ)
one_flow amount = slice_set (replicate 121 None) 1 (Some amount)

-- the marked figures
abbrev pub marked : List Figure
marked =
    -- the deduction
    adjusts OccupationalPension (pos 3500) 0
    ∷ adjusts OccupationalPension (pos 3501) 1
    ∷ adjusts OtherInsurance (pos 5500) 0
    ∷ adjusts OtherInsurance (pos 5501) 1
    -- the weights
    ∷ weighs (codes "SEK") 11 (1, 11)
    ∷ weighs (codes "SEK") 20 (10, 11)
    ∷ weighs (codes "EUR") 60 (40, 41)
    -- the blend
    ∷ blends (codes "SEK") 11 (1020000000, 1020000010) (pos 22000000, pos 22000010)
    ∷ blends (codes "SEK") 20 (1020000000, 1020000010) (pos 40000000, pos 40000001)
    -- a swap adjusted to 0
    ∷ has_forwards (one_swap 3500 ∷ []) 1 (pos 0, pos 3)
    ∷ has_factors (one_swap 3500 ∷ []) 1 (pos 999999999, pos 1000000000)
    -- a swap adjusted to 20,000
    ∷ has_forwards (one_swap 23500 ∷ []) 1 (pos 19999998, pos 20000002)
    ∷ has_factors (one_swap 23500 ∷ []) 1 (pos 980392155, pos 980392158)
    -- a flow of 1,000 and one of -1,000, at the same curve
    ∷ has_reserve (one_swap 23500 ∷ []) (one_flow (pos 1000)) (pos 98039, pos 98040)
    ∷ has_reserve (one_swap 23500 ∷ []) (one_flow (neg_ℤ (pos 1000))) (neg_ℤ (pos 98040), neg_ℤ (pos 98039))
    -- a bond near the upper end of the range
    ∷ has_forwards (one_bond 800000000 ∷ []) 1 (pos 249999996, pos 250000000)
    ∷ has_rates (one_bond 800000000 ∷ []) 1 (pos 249999998, pos 250000000)
    ∷ strips (one_bond 799999999 ∷ [])
    ∷ refuses (one_bond 799999998 ∷ []) 20 1
    -- and near the lower end
    ∷ strips (one_bond 1000000001 ∷ [])
    ∷ refuses (one_bond 1000000002 ∷ []) 19 1
    ∷ []

-- every figure of a list holds
abbrev pub AllHold : List Figure → Type 0
AllHold [] = Unit {0}
AllHold (f ∷ fs) = Holds f × AllHold fs
