use Rattle.std.proofs.Common.{Ok, rules}
use Rattle.curve.specs.Exact.{Narrow}
use Rattle.curve.specs.Questions.{asked_forward}
use Rattle.curve.proofs.Answered.{follows, forward_ordered}
use Rattle.curve.proofs.discount.Curve.forward.Goals as goal

pub returns-clause-ordered : goal.returns-clause-ordered
returns-clause-ordered c = follows (Ok c.both.result) (asked_forward c.args.self.now.tables c.args.year) (search rules) Narrow (forward_ordered c.args.self.now.tables c.args.self.now.ordered c.args.year)
