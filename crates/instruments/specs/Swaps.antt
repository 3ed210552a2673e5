-- What a swap is made from, and what it means.
use Rattle.std.specs.Prelude.{ℕ, List, length, ℤ, pos, Ok, Result, ◌==◌, slice_index}
use Rattle.std.specs.Int.{w32, cast_signed}
use Rattle.instruments.specs.Deductions.{adjusted}
use Rattle.instruments.specs.Frames.{big_endian}
use Rattle.instruments.specs.Law.{Meaning}
use Rattle.instruments.specs.Levels.{level_meaning}
use Rattle.instruments.specs.Limits.{longest, highest_coupon, within, withinℤ, clamped, clampedℤ, if_kept}
use Rattle.instruments.specs.declared.class.Class.{Class}
use Rattle.instruments.specs.declared.refusal.Refusal.{Refusal}
use Rattle.instruments.specs.declared.refusal.Refusal.TheVariants.{WrongLength, BadMaturity, BadQuotation}
use Rattle.instruments.specs.declared.swap.Swap.{Swap}
use Rattle.instruments.specs.declared.swap.SwapRow.{SwapRow}

-- the price of a swap, in units: par
abbrev pub par : ℕ
par = 1000000000

-- the row of a maturity, a quotation and a class
abbrev pub swap_fields : ℕ → ℤ → Class → SwapRow
swap_fields maturity quotation class = record { maturity = maturity; quotation = quotation; class = class }

-- the row of a swap
abbrev pub swap_row : Swap → SwapRow
swap_row s = swap_fields s.maturity s.quotation s.class

-- what a swap means: at par, it pays its adjusted quotation each year
abbrev pub swap_means : Swap → Meaning
swap_means s = level_meaning (adjusted s.quotation s.class) s.maturity par

-- what a row means: its maturity and quotation are brought to their limits first
abbrev pub swap_read : SwapRow → Meaning
swap_read r = level_meaning (adjusted (clampedℤ (pos 0) (pos highest_coupon) r.quotation) r.class) (clamped 1 longest r.maturity) par

-- the row of the swap that is made, or the first limit that is not kept
abbrev pub swap_making : ℕ → ℤ → Class → Result SwapRow Refusal
swap_making maturity quotation class =
    if_kept (within 1 longest maturity) (BadMaturity maturity)
    (if_kept (withinℤ (pos 0) (pos highest_coupon) quotation) (BadQuotation maturity) (Ok (swap_fields maturity quotation class)))

-- the same from the body of a frame: a byte for the maturity, and four for the signed quotation
abbrev pub swap_body : Class → List ℕ → Result SwapRow Refusal
swap_body class body =
    if_kept (length body == 5) WrongLength (swap_making (slice_index body 0) (cast_signed w32 (big_endian body 1)) class)
