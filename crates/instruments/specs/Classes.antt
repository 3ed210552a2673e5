-- The bytes of the classes of insurance.
use Rattle.std.specs.Prelude.{ℕ, cond, Some, None, Option, ◌==◌}
use Rattle.instruments.specs.declared.class.Class.{Class}
use Rattle.instruments.specs.declared.class.Class.TheVariants.{OccupationalPension, OtherInsurance}

-- the class of a byte: 0 for occupational pension, 1 for other insurance
abbrev pub class_named : ℕ → Option Class
class_named b = cond (b == 0) (Some OccupationalPension) (cond (b == 1) (Some OtherInsurance) None)
