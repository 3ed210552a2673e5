use Rattle.curve.specs.Reserve.{SizeWithin}
use Rattle.book.proofs.Worths.{none_held}
use Rattle.book.proofs.table.Table.empty.Goals as goal

pub invariant_of-result : goal.invariant_of-result
invariant_of-result c = record { small = λ t. none_held 121 t (SizeWithin 1000000000) }
