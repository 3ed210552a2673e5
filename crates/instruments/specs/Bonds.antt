-- What a bond is made from, and what it means.
use Rattle.std.specs.Prelude.{ℕ, List, length, Ok, Result, ◌==◌, nat_le, slice_index}
use Rattle.instruments.specs.Frames.{big_endian}
use Rattle.instruments.specs.Law.{Meaning}
use Rattle.instruments.specs.Levels.{level_meaning}
use Rattle.instruments.specs.Limits.{longest, highest_coupon, highest_price, within, clamped, if_kept}
use Rattle.instruments.specs.declared.bond.Bond.{Bond}
use Rattle.instruments.specs.declared.bond.BondRow.{BondRow}
use Rattle.instruments.specs.declared.class.Class.{Class}
use Rattle.instruments.specs.declared.refusal.Refusal.{Refusal}
use Rattle.instruments.specs.declared.refusal.Refusal.TheVariants.{WrongLength, BadMaturity, BadQuotation, BadPrice}

-- the row of a maturity, a coupon and a price
abbrev pub bond_fields : ℕ → ℕ → ℕ → BondRow
bond_fields maturity coupon price = record { maturity = maturity; coupon = coupon; price = price }

-- the row of a bond
abbrev pub bond_row : Bond → BondRow
bond_row b = bond_fields b.maturity b.coupon b.price

-- what a bond means: at its price, it pays its coupon each year
abbrev pub bond_means : Bond → Meaning
bond_means b = level_meaning b.coupon b.maturity b.price

-- what a row means: each of its numbers is brought to its limits first
abbrev pub bond_read : BondRow → Meaning
bond_read r = level_meaning (clamped 0 highest_coupon r.coupon) (clamped 1 longest r.maturity) (clamped 1 highest_price r.price)

-- the row of the bond that is made, or the first limit that is not kept
abbrev pub bond_making : ℕ → ℕ → ℕ → Result BondRow Refusal
bond_making maturity coupon price =
    if_kept (within 1 longest maturity) (BadMaturity maturity)
    (if_kept (nat_le coupon highest_coupon) (BadQuotation maturity)
    (if_kept (within 1 highest_price price) (BadPrice maturity) (Ok (bond_fields maturity coupon price))))

-- the same from the body of a frame, whatever the class: a byte for the maturity, four for the coupon and four for the price
abbrev pub bond_body : Class → List ℕ → Result BondRow Refusal
bond_body class body =
    if_kept (length body == 9) WrongLength (bond_making (slice_index body 0) (big_endian body 1) (big_endian body 5))
