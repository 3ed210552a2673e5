use Rattle.std.proofs.Common.{IfSome, subst, arith, w32, SFits, rules}
use Rattle.std.proofs.lemmas.Int.{to_z-of_z}
use Rattle.book.proofs.Worths.{KeptWorth, room, was_held, held_below, kept_struck}
use Rattle.book.proofs.volume.Book.strike.Goals as goal

pub take-requires : goal.take-requires
take-requires g c =
    let flows = c.args.self.now.flows in
    let kept = subst (λ o. IfSome o (λ s. KeptWorth s flows.amounts)) c.in-Some.is c.args.self.now.worth in
    record { room = room c.in-Some.settled flows.amounts kept (omega arith) flows.small }

pub invariant_of-self-in-Some-clause-worth : goal.invariant_of-self-in-Some-clause-worth
invariant_of-self-in-Some-clause-worth g c =
    let xs = c.args.self.now.flows.amounts in
    let t = c.args.year in
    let a = c.in_ok-amount.amount in
    let kept = subst (λ o. IfSome o (λ s. KeptWorth s xs)) c.in-Some.is c.args.self.now.worth in
    let struck = c.in_ok-amount.ensures in
    let fits : SFits w32 a = search rules in
    let held = was_held _ a _ struck.answer in
    kept_struck c.in-Some.settled xs kept t a c.take.new.self c.strike.new.self.amounts c.take.ensures.curve (held_below xs t a held) (simp to_z-of_z at c.take.ensures.worth) struck.amounts held
