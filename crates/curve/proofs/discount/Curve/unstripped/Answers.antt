use Rattle.std.proofs.Common.{refl}
use Rattle.curve.specs.Market.{unstripped}
use Rattle.curve.proofs.Bounds.{start_ordered}
use Rattle.curve.proofs.discount.Curve.unstripped.Goals as goal

pub invariant_of-result : goal.invariant_of-result
unfolding unstripped
invariant_of-result c = record { ordered = start_ordered }

pub returns : goal.returns
unfolding unstripped
returns c = refl
