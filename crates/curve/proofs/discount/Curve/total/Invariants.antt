use Rattle.std.proofs.Common.{length}
use Rattle.curve.proofs.Shares.{Summed}
use Rattle.curve.proofs.discount.Curve.total.Given as goal

abbrev pub invariant-loop-flow : goal.invariant-loop-flow
invariant-loop-flow l = Summed l.self.tables l.flows (length l.yielded) l.total
