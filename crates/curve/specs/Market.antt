-- Stripping: the market's growths and factors from a list of quotations, by the gaps between their maturities.
use Rattle.std.specs.Prelude.{ℕ, ◌+◌, ◌-◌, ◌*◌, ◌≤◌, min, max, cond, ◌&&◌, List, [], ◌∷◌, map, replicate, Ok, Err, Result, ◌==◌, nat_le, nat_lt, slice_index_or}
use Rattle.std.specs.List.{range_with_len}
use Rattle.instruments.specs.Law.{Meaning, ok_map}
use Rattle.instruments.specs.declared.refusal.Refusal.{Refusal}
use Rattle.instruments.specs.declared.refusal.Refusal.TheVariants.{ForwardBelowRange, ForwardAboveRange, ForwardTooWide}
use Rattle.curve.specs.Range.{unit, least, most, edge}
use Rattle.curve.specs.Steps.{side_of, opposite, pair, quotient, reaches, reaching}
use Rattle.curve.specs.Worths.{continued, level, worth}
use Rattle.curve.specs.declared.side.Side.{Side}
use Rattle.curve.specs.declared.side.Side.TheVariants.{Low, High}
use Rattle.curve.specs.declared.tables.Tables.{Tables}

-- the table whose entry of year t is f t, for the years 0 to 120
unfoldable pub by_year : (ℕ → ℕ × ℕ) → List (ℕ × ℕ)
by_year f = map f (range_with_len 0 121)

-- the entry of a year
abbrev pub entry : List (ℕ × ℕ) → ℕ → ℕ × ℕ
entry table t = slice_index_or table t (0, 0)

-- a curve's growth and factor of a year, on one side
abbrev pub growth_of : Tables → Side → ℕ → ℕ
growth_of T σ t = side_of σ (entry T.growths t)

abbrev pub factor_of : Tables → Side → ℕ → ℕ
factor_of T σ t = side_of σ (entry T.factors t)

-- the curve before any quotation: nothing known after year 0
unfoldable pub unstripped : Tables
unstripped = record { last = 0; growths = replicate 121 (least, least); factors = replicate 121 (unit, unit) }

-- what a worth within one unit of the price p lies between, in products of a ppm and a unit
abbrev pub admitted : Side → ℕ → ℕ
admitted Low p = p * 1000000 - 1000000
admitted High p = p * 1000000 + 1000000

-- from this on a low worth is more than is admitted; below this a high worth is less
abbrev pub limit : Side → ℕ → ℕ
limit Low p = admitted High p + 1
limit High p = admitted Low p

-- the worth of x where the gap up to its maturity has the growth g
unfoldable pub worth_at : Tables → Meaning → Side → ℕ → ℕ
worth_at T x σ g = worth x.payment (continued σ (factor_of T σ) T.last (level g)) x.maturity

-- the growth of a gap at which x is worth w: low, the greatest at which even the low worth is more than is admitted; high, the least at which even the high worth is less
abbrev pub found : (Side → ℕ → ℕ) → ℕ → Side → ℕ
found w price σ = edge σ (reaching σ (w σ) (limit σ price))

-- the two growths, or why there are none: no growth of the range is small enough, none is large enough, or the two differ by more than 1,000
unfoldable pub found_growths : (Side → ℕ → ℕ) → Meaning → Result (ℕ × ℕ) Refusal
found_growths w x =
    cond (reaches High (w High least) (limit High x.price)) (Err (ForwardBelowRange x.maturity))
    (cond (reaches Low (w Low most) (limit Low x.price)) (Err (ForwardAboveRange x.maturity))
    (cond (nat_lt (found w x.price Low + 1000) (found w x.price High)) (Err (ForwardTooWide x.maturity)) (Ok (pair (found w x.price)))))

-- the factors of a gap with the given growths: down steps by the high growth, up steps by the low growth
unfoldable pub stepped : Tables → ℕ × ℕ → Side → ℕ → ℕ
stepped T growths σ t = continued σ (factor_of T σ) T.last (level (side_of (opposite σ) growths)) t

-- the pair of factors of year t where those up to year s are known, and each later year discounts the one before by its own growths
abbrev pub discounted_on : Tables → ℕ → ℕ → ℕ × ℕ
discounted_on T s t = pair (λ σ. continued σ (factor_of T σ) s (growth_of T (opposite σ)) t)

-- the inner one of two figures: the larger on the low side, the smaller on the high side
abbrev pub inner : Side → ℕ → ℕ → ℕ
inner Low a b = max a b
inner High a b = min a b

-- the factor at maturity: the step's, or what the price leaves for it where the years before take `rest`, if that lies further in
abbrev pub tightened_by : Meaning → Side → ℕ → ℕ → ℕ
tightened_by x σ step rest = inner σ step (quotient σ (admitted σ x.price - rest) (x.payment x.maturity))

-- the years before maturity are taken at the other side's factors
unfoldable pub tightened : Tables → Meaning → ℕ × ℕ → Side → ℕ
tightened T x growths σ = tightened_by x σ (stepped T growths σ x.maturity) (worth x.payment (stepped T growths (opposite σ)) (x.maturity - 1))

-- the entries of a curve with the gap up to the maturity of x: the growths hold from there on
abbrev pub extended_growths : Tables → ℕ × ℕ → ℕ → ℕ × ℕ
extended_growths T growths t = cond (nat_le t T.last) (entry T.growths t) growths

abbrev pub extended_factors : Tables → Meaning → ℕ × ℕ → ℕ → ℕ × ℕ
extended_factors T x growths t =
    cond (t == x.maturity) (pair (tightened T x growths))
    (cond (nat_lt T.last t && nat_le t x.maturity) (pair (λ σ. stepped T growths σ t)) (entry T.factors t))

unfoldable pub extended : Tables → Meaning → ℕ × ℕ → Tables
extended T x growths = record { last = x.maturity; growths = by_year (extended_growths T growths); factors = by_year (extended_factors T x growths) }

-- the curve with one quotation more, or why there is none
unfoldable pub with_gap : Tables → Meaning → Result Tables Refusal
with_gap T x = ok_map (extended T x) (found_growths (worth_at T x) x)

-- the curve that is held, whatever else a result has
abbrev pub const_of : {A : Type 0} → Tables → A → Tables
const_of T a = T

-- goes on with what a result holds
abbrev pub and_then : {A B E : Type 0} → Result A E → (A → Result B E) → Result B E
and_then (Ok a) f = f a
and_then (Err e) f = Err e

unfoldable pub strip_from : Tables → List Meaning → Result Tables Refusal
strip_from T [] = Ok T
strip_from T (x ∷ xs) = and_then (with_gap T x) (λ N. strip_from N xs)

-- the market curve of a list of quotations, or the first refusal
abbrev pub stripped : List Meaning → Result Tables Refusal
stripped xs = strip_from unstripped xs

-- a pair of growths of the range
abbrev pub InRange : ℕ × ℕ → Type 0
InRange growths = (least ≤ growths.0) × (growths.0 ≤ growths.1) × (growths.1 ≤ most)

-- what holds of every curve: its last year is at most 120,
abbrev pub Ends : Tables → Type 0
Ends T = T.last ≤ 120

-- its growths lie in the range, low at most high,
abbrev pub Growing : Tables → Type 0
Growing T = (t : ℕ) → t ≤ 120 → InRange (entry T.growths t)

-- and at most 1,000 apart,
abbrev pub Near : Tables → Type 0
Near T = (t : ℕ) → t ≤ 120 → growth_of T High t ≤ growth_of T Low t + 1000

-- its factors are at most 1, low at most high
abbrev pub Discounting : Tables → Type 0
Discounting T = (t : ℕ) → t ≤ 120 → (factor_of T Low t ≤ factor_of T High t) × (factor_of T High t ≤ unit)

pub record Ordered (T : Tables) : Type 0 where
  pub ends : Ends T
  pub growing : Growing T
  pub near : Near T
  pub discounting : Discounting T
