-- The deduction from a quotation (FFFS 2013:23, chapter 2, section 4).
use Rattle.std.specs.Prelude.{ℕ, ◌-◌, min, ℤ, pos, negsuc}
use Rattle.instruments.specs.declared.class.Class.{Class}
use Rattle.instruments.specs.declared.class.Class.TheVariants.{OccupationalPension, OtherInsurance}

-- the deduction of a class, in ppm: 35 basis points for occupational pension, 55 for other insurance
abbrev pub deduction : Class → ℕ
deduction OccupationalPension = 3500
deduction OtherInsurance = 5500

-- the adjusted quotation: less the deduction, and never below 0
abbrev pub adjusted : ℤ → Class → ℕ
adjusted (pos n) class = n - deduction class
adjusted (negsuc n) class = 0

-- the part of the deduction that is made: all of it, or the whole of a lower quotation
abbrev pub taken : ℤ → Class → ℕ
taken (pos n) class = min n (deduction class)
taken (negsuc n) class = 0
