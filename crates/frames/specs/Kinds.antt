-- The letters of kinds of instrument.
use Rattle.std.specs.Prelude.{ℕ, cond, Some, None, Option, ◌==◌}
use Rattle.frames.specs.declared.opening.Named.{Named}
use Rattle.frames.specs.declared.opening.Named.TheVariants.{Swap, Bond}

-- the kind of a byte: S or B
abbrev pub kind_named : ℕ → Option Named
kind_named b = cond (b == 83) (Some Swap) (cond (b == 66) (Some Bond) None)
