use Rattle.std.proofs.Common.{Ok}
use Rattle.curve.specs.Exact.{Rising, ReserveBetween}
use Rattle.curve.specs.Reserve.{asked_reserve}
use Rattle.curve.proofs.Answered.{follows}
use Rattle.curve.proofs.ReserveBounds.{reserve_ordered, reserve_between}
use Rattle.curve.proofs.Shares.{reserve_made}
use Rattle.curve.proofs.discount.Curve.reserve.Goals as goal

-- the answer is the one defined, so what holds of that holds of it
pub returns : goal.returns
returns c =
    let k = c.args.self.now in
    let xs = c.args.flows.now in
    let made = reserve_made k.tables xs _ c.total.ensures c.in_ok-flows_within.ensures in
    record {
      value = made;
      ordered = follows (Ok c.total.result) (asked_reserve k.tables xs) made Rising (reserve_ordered k.tables k.ordered xs);
      encloses = λ growth enclosed. follows (Ok c.total.result) (asked_reserve k.tables xs) made (ReserveBetween growth xs) (reserve_between k.tables xs growth enclosed);
    }
