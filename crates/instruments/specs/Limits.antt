-- The limits that a maturity, a quotation, a coupon and a price keep.
use Rattle.std.specs.Prelude.{ℕ, min, max, Bool, cond, ◌&&◌, ℤ, Err, Result, int_le, nat_le}
use Rattle.std.specs.Int.{int_max, int_min}
use Rattle.instruments.specs.declared.refusal.Refusal.{Refusal}

-- the longest maturity, in years
abbrev pub longest : ℕ
longest = 90

-- the highest quotation or coupon, in ppm of nominal
abbrev pub highest_coupon : ℕ
highest_coupon = 100000

-- the highest price, in units
abbrev pub highest_price : ℕ
highest_price = 2000000000

-- whether a number is at least low and at most high
abbrev pub within : ℕ → ℕ → ℕ → Bool
within low high n = nat_le low n && nat_le n high

-- the same of a signed number
abbrev pub withinℤ : ℤ → ℤ → ℤ → Bool
withinℤ low high z = int_le low z && int_le z high

-- the number nearest to n that is at least low and at most high
abbrev pub clamped : ℕ → ℕ → ℕ → ℕ
clamped low high n = max low (min n high)

-- the same of a signed number
abbrev pub clampedℤ : ℤ → ℤ → ℤ → ℤ
clampedℤ low high z = int_max low (int_min z high)

-- what is made where a limit is kept, and the refusal where it is not
abbrev pub if_kept : {A : Type 0} → Bool → Refusal → Result A Refusal → Result A Refusal
if_kept kept refusal made = cond kept made (Err refusal)
