use Rattle.std.proofs.Common.{arith}
use Rattle.std.proofs.lemmas.Int.{ints, to_z-of_z}
use Rattle.curve.specs.Reserve.{signed_of, largest, SizeWithin}
use Rattle.curve.specs.declared.side.Side.TheVariants.{Low, High}
use Rattle.curve.proofs.reserve.share.Goals as goal

pub returns-else-amount-lt0-clause-value : goal.returns-else-amount-lt0-clause-value
returns-else-amount-lt0-clause-value c = grind (arith, ints, to_z-of_z, c.portion-worth-else-amount-lt0.ensures.small Low, c.portion-worth-else-amount-lt0.ensures.small High)

pub returns-else-amount-lt0-clause-small : goal.returns-else-amount-lt0-clause-small
returns-else-amount-lt0-clause-small c = λ σ. elim σ as (λ σ. SizeWithin largest (signed_of σ c.both-else-amount-lt0.result)) [ Low ↦ grind (arith, ints, c.portion-worth-else-amount-lt0.ensures.small Low) | High ↦ grind (arith, ints, c.portion-worth-else-amount-lt0.ensures.small High) ]
