-- The stage at which a responder stands.
use Rattle.std.specs.Prelude.{Some, None, Option}
use Rattle.instruments.specs.Bonds.{bond_read}
use Rattle.instruments.specs.Swaps.{swap_read}
use Rattle.book.specs.Books.{register_of}
use Rattle.frames.specs.Inputs.{Stage, kind_for}
use Rattle.frames.specs.declared.opening.Named.{Named}
use Rattle.frames.specs.declared.opening.Named.TheVariants.{Swap, Bond}
use Rattle.frames.specs.declared.responder.Responder.{Responder}

-- the book in use, by its kind
abbrev pub stage_in : Option Named → Responder → Stage
stage_in None r = None
stage_in (Some Swap) r = Some (kind_for Swap r.swaps.class, register_of swap_read r.swaps.book)
stage_in (Some Bond) r = Some (kind_for Bond r.bonds.class, register_of bond_read r.bonds.book)

abbrev pub stage_of : Responder → Stage
stage_of r = stage_in r.in_use r
