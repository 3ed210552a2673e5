use Rattle.std.proofs.Common.{IfSome, subst, arith, w32, SFits, rules}
use Rattle.std.proofs.lemmas.Int.{to_z-of_z}
use Rattle.book.proofs.Worths.{KeptWorth, room, was_free, kept_posted}
use Rattle.book.proofs.volume.Book.post.Goals as goal

pub add-requires : goal.add-requires
add-requires g c =
    let flows = c.args.self.now.flows in
    let kept = subst (λ o. IfSome o (λ s. KeptWorth s flows.amounts)) c.in-Some.is c.args.self.now.worth in
    record { room = room c.in-Some.settled flows.amounts kept (omega arith) flows.small }

pub invariant_of-self-in-Some-clause-worth : goal.invariant_of-self-in-Some-clause-worth
invariant_of-self-in-Some-clause-worth g c =
    let xs = c.args.self.now.flows.amounts in
    let flow = c.in_ok-flow.flow in
    let kept = subst (λ o. IfSome o (λ s. KeptWorth s xs)) c.in-Some.is c.args.self.now.worth in
    let posted = c.in_ok-post.ensures in
    let fits : SFits w32 flow.amount = search rules in
    kept_posted c.in-Some.settled xs kept flow.year flow.amount c.add.new.self c.post.new.self.amounts c.add.ensures.curve (omega (arith, flow.ends)) (simp to_z-of_z at c.add.ensures.worth) posted.amounts (was_free _ _ posted.answer)
