use Rattle.std.proofs.Common.{Ok, rules}
use Rattle.curve.specs.Exact.{Rising, RateBetween}
use Rattle.curve.specs.Rates.{asked_rate}
use Rattle.curve.proofs.Answered.{follows, rate_ordered, rate_between}
use Rattle.curve.proofs.discount.Curve.rate.Goals as goal

pub returns-clause-ordered : goal.returns-clause-ordered
returns-clause-ordered c =
    let T = c.args.self.now.tables in
    follows (Ok c.both.result) (asked_rate T c.args.year) (search rules) Rising (rate_ordered T c.args.self.now.ordered c.args.year)

pub returns-clause-encloses : goal.returns-clause-encloses
returns-clause-encloses c growth possible e =
    let T = c.args.self.now.tables in
    follows (Ok c.both.result) (asked_rate T c.args.year) (search rules) (RateBetween growth c.args.year) (rate_between T c.args.year growth possible e)
