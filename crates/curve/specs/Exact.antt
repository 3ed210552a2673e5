-- The exact model: curves in fractions with no rounding, what it is for a list of quotations to admit one, and what it is to lie between two whole figures.
use Rattle.std.specs.Prelude.{◌≡◌, ℕ, zero, suc, ◌+◌, ◌-◌, ◌*◌, ◌^◌, ◌<◌, ◌≤◌, List, [], ◌∷◌, ℤ, pos, negsuc, ◌+ℤ◌, ◌≤ℤ◌, Some, None, Ok, Err, Option, Result, ◌≢◌}
use Rattle.instruments.specs.Law.{Meaning}
use Rattle.instruments.specs.Refusals.{reported}
use Rattle.instruments.specs.declared.refusal.Refusal.{Refusal}
use Rattle.curve.specs.Range.{unit, least, most}
use Rattle.curve.specs.Blending.{ultimate, weight}
use Rattle.curve.specs.Market.{admitted, entry}
use Rattle.curve.specs.declared.side.Side.TheVariants.{Low, High}
use Rattle.curve.specs.declared.tables.Tables.{Tables}

-- top / bottom
pub record Fraction : Type 0 where
  pub top : ℕ
  pub bottom : ℕ

abbrev pub fraction : ℕ → ℕ → Fraction
fraction a b = record { top = a; bottom = b }

-- a fraction of 1 lies between two whole figures in units, ends included
abbrev pub Between : ℕ × ℕ → Fraction → Type 0
Between figures x = (figures.0 * x.bottom ≤ unit * x.top) × (unit * x.top ≤ figures.1 * x.bottom)

-- a curve with no rounding: the forward of year t is part t / whole
pub record ExactCurve : Type 0 where
  pub whole : ℕ
  pub part : ℕ → ℕ

-- 1 plus the forward of a year
abbrev pub exact_growth : ExactCurve → ℕ → Fraction
exact_growth c t = fraction (c.whole + c.part t) c.whole

-- the factor of year t: the product of the inverse growths of the years 1 to t
unfoldable pub exact_factor : (ℕ → Fraction) → ℕ → Fraction
exact_factor growth zero = fraction 1 1
exact_factor growth (suc t) = fraction ((exact_factor growth t).top * (growth (suc t)).bottom) ((exact_factor growth t).bottom * (growth (suc t)).top)

-- the worth of the payments of years 1 to n at the factors, in ppm
unfoldable pub exact_worth : (ℕ → ℕ) → (ℕ → Fraction) → ℕ → Fraction
exact_worth pay factor zero = fraction 0 1
exact_worth pay factor (suc t) =
    fraction ((exact_worth pay factor t).top * (factor (suc t)).bottom + pay (suc t) * (factor (suc t)).top * (exact_worth pay factor t).bottom) ((exact_worth pay factor t).bottom * (factor (suc t)).bottom)

-- the payments of x are worth its price to within one unit, both ends included
abbrev pub Priced : ExactCurve → Meaning → Type 0
Priced c x = Between (admitted Low x.price, admitted High x.price) (exact_worth x.payment (exact_factor (exact_growth c)) x.maturity)

-- the forward is the same in each year of the gap up to a maturity, and goes on after the last
abbrev pub Level : ExactCurve → ℕ → List Meaning → Type 0
Level c s [] = (t : ℕ) → s < t → c.part t ≡ c.part s
Level c s (x ∷ xs) = ((t : ℕ) → s < t → t ≤ x.maturity → c.part t ≡ c.part x.maturity) × Level c x.maturity xs

-- each quotation of a list is priced
abbrev pub AllPriced : ExactCurve → List Meaning → Type 0
AllPriced c [] = Unit {0}
AllPriced c (x ∷ xs) = Priced c x × AllPriced c xs

-- a curve that the quotations admit: its forwards lie in the range, hold over the gaps, and price every quotation
pub record Admitted (xs : List Meaning) (c : ExactCurve) : Type 0 where
  pub one_whole : 1 ≤ c.whole
  pub in_range : (t : ℕ) → 1 ≤ t → Between (least, most) (exact_growth c t)
  pub level : Level c 0 xs
  pub priced : AllPriced c xs

-- growths that an exact curve may have: fractions in the range
pub record Possible (growth : ℕ → Fraction) : Type 0 where
  pub solid : (t : ℕ) → 1 ≤ (growth t).bottom
  pub ranged : (t : ℕ) → 1 ≤ t → Between (least, most) (growth t)

-- a curve's figures enclose exact growths: the forward of each year (where a quotation is held), and the factor of each year up to the last
pub record Encloses (T : Tables) (growth : ℕ → Fraction) : Type 0 where
  pub forwards : 1 ≤ T.last → (t : ℕ) → 1 ≤ t → t ≤ 120 → Between (entry T.growths t) (growth t)
  pub factors : (t : ℕ) → t ≤ T.last → Between (entry T.factors t) (exact_factor growth t)

-- what stripping tells of an admitted curve: its figures enclose it; and there is none if no growth of the range was small enough (19) or large enough (20)
abbrev pub Tells : (ℕ → Fraction) → Result Tables Refusal → Type 0
Tells growth (Ok T) = Encloses T growth
Tells growth (Err r) = ((reported r).number ≢ 19) × ((reported r).number ≢ 20)

-- a growth weighed with the ultimate one, which has k parts of n, with no rounding
abbrev pub exact_blend : ℕ × ℕ → Fraction → Fraction
exact_blend share x = fraction ((share.1 - share.0) * x.top * unit + share.0 * ultimate * x.bottom) (share.1 * x.bottom * unit)

-- the growths of the discount curve
abbrev pub exact_discount : Option (ℕ × ℕ) → (ℕ → Fraction) → ℕ → Fraction
exact_discount None growth t = growth t
exact_discount (Some span) growth t = exact_blend (weight (Some span) t) (growth t)

-- 1 plus a rate in units
abbrev pub one_plus : ℤ → ℕ
one_plus (pos z) = unit + z
one_plus (negsuc z) = unit - suc z

-- a figure that is not below zero
abbrev pub natural : ℤ → ℕ
natural (pos n) = n
natural (negsuc n) = 0

-- low is never above high
abbrev pub Rising : ℤ × ℤ → Type 0
Rising p = p.0 ≤ℤ p.1

-- nor, for forwards, more than 1,000 below it
abbrev pub Narrow : ℤ × ℤ → Type 0
Narrow p = (p.0 ≤ℤ p.1) × (p.1 ≤ℤ (p.0 +ℤ pos 1000))

-- the forward of year t lies between two figures in units
abbrev pub ForwardBetween : (ℕ → Fraction) → ℕ → ℤ × ℤ → Type 0
ForwardBetween growth t p = Between (one_plus p.0, one_plus p.1) (growth t)

-- the factor of year t does
abbrev pub FactorBetween : (ℕ → Fraction) → ℕ → ℤ × ℤ → Type 0
FactorBetween growth t p = Between (natural p.0, natural p.1) (exact_factor growth t)

-- the zero rate of year t does: compounded with the low figure its factor comes to at most 1, with the high one to at least 1
abbrev pub RateBetween : (ℕ → Fraction) → ℕ → ℤ × ℤ → Type 0
RateBetween growth t p =
    (one_plus p.0 ^ t * (exact_factor growth t).top ≤ unit ^ t * (exact_factor growth t).bottom)
    × (unit ^ t * (exact_factor growth t).bottom ≤ one_plus p.1 ^ t * (exact_factor growth t).top)

-- the parts of a figure above and below zero
abbrev pub gain : ℤ → ℕ
gain (pos a) = a
gain (negsuc a) = 0

abbrev pub loss : ℤ → ℕ
loss (pos a) = 0
loss (negsuc a) = suc a

-- a part of the flow of a year: nothing where none is held
abbrev pub part_of : (ℤ → ℕ) → Option ℤ → ℕ
part_of side None = 0
part_of side (Some a) = side a

-- what one side of the flows of the years from t on is worth at the factors, in hundredths of a krona
unfoldable pub exact_total : (ℤ → ℕ) → (ℕ → Fraction) → ℕ → List (Option ℤ) → Fraction
exact_total side factor t [] = fraction 0 1
exact_total side factor t (x ∷ xs) =
    fraction (part_of side x * 100 * (factor t).top * (exact_total side factor (t + 1) xs).bottom + (exact_total side factor (t + 1) xs).top * (factor t).bottom) ((factor t).bottom * (exact_total side factor (t + 1) xs).bottom)

-- a figure in hundredths is at most, or at least, what the gains leave over the losses
abbrev pub AtMost : ℤ → Fraction → Fraction → Type 0
AtMost z gains losses = gain z * (gains.bottom * losses.bottom) + losses.top * gains.bottom ≤ gains.top * losses.bottom + loss z * (gains.bottom * losses.bottom)

abbrev pub AtLeast : ℤ → Fraction → Fraction → Type 0
AtLeast z gains losses = gains.top * losses.bottom + loss z * (gains.bottom * losses.bottom) ≤ gain z * (gains.bottom * losses.bottom) + losses.top * gains.bottom

-- the reserve for a table of flows lies between two figures in hundredths
abbrev pub ReserveBetween : (ℕ → Fraction) → List (Option ℤ) → ℤ × ℤ → Type 0
ReserveBetween growth flows p =
    AtMost p.0 (exact_total gain (exact_factor growth) 0 flows) (exact_total loss (exact_factor growth) 0 flows)
    × AtLeast p.1 (exact_total gain (exact_factor growth) 0 flows) (exact_total loss (exact_factor growth) 0 flows)
