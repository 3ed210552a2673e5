use Rattle.std.proofs.Common.{sym, ◌∙◌, arith}
use Rattle.curve.proofs.Shares.{flows_refused}
use Rattle.curve.proofs.discount.Curve.flows_within.Goals as goal

pub returns-in-Some : goal.returns-in-Some
returns-in-Some c = flows_refused c.args.self.now.tables c.args.flows.now c.args.self.now.ordered.ends (omega arith) _ (sym c.in-Some.is ∙ c.first_held.ensures)

pub returns-in-None : goal.returns-in-None
returns-in-None c = flows_refused c.args.self.now.tables c.args.flows.now c.args.self.now.ordered.ends (omega arith) _ (sym c.in-None.is ∙ c.first_held.ensures)
