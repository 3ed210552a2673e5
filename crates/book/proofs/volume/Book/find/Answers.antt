use Rattle.std.proofs.Common.{arith}
use Rattle.std.proofs.lemmas.List.{length-take-le}
use Rattle.std.proofs.lemmas.Bool.Decides.{nat_tests}
use Rattle.book.proofs.Ranks.{stands, not_found}
use Rattle.book.proofs.volume.Book.find.Goals as goal

pub returns-in-Some : goal.returns-in-Some
returns-in-Some g c =
    let there = stands g.K.Instrument.read c.args.maturity c.held-held.result.now c.in-Some.at c.in-Some.ensures c.index-held-at.result c.index-held-at.is in
    grind (arith, nat_tests, length-take-le, there)

pub returns-in-Some-2 : goal.returns-in-Some-2
returns-in-Some-2 g c =
    let there = stands g.K.Instrument.read c.args.maturity c.held-held.result.now c.in-Some.at c.in-Some.ensures c.index-held-at.result c.index-held-at.is in
    grind (arith, nat_tests, length-take-le, there)

pub returns-in-None : goal.returns-in-None
returns-in-None g c = grind (arith, length-take-le, not_found g.K.Instrument.read c.args.maturity c.held-held.result.now c.in-None.ensures)
