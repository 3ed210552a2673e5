use Rattle.std.proofs.Common.{◌≡◌, ap, ◌∙◌, arith, w32}
use Rattle.std.proofs.lemmas.Int.{ints, to_z-of_z}
use Rattle.curve.specs.Market.{entry}
use Rattle.curve.specs.Questions.{signed_pair}
use Rattle.curve.specs.Reserve.{share}
use Rattle.curve.specs.declared.side.Side.TheVariants.{Low, High}
use Rattle.curve.proofs.Shares.{by_side}
use Rattle.book.proofs.settled.Settled.add.Goals as goal

pub overflow_add-self : goal.overflow_add-self
overflow_add-self c = omega (arith, ints, c.requires.room Low, c.share-share.ensures.small Low)

pub overflow_add-self-2 : goal.overflow_add-self-2
overflow_add-self-2 c = omega (arith, ints, c.requires.room High, c.share-share.ensures.small High)

pub returns-clause-worth : goal.returns-clause-worth
returns-clause-worth c =
    let factors = entry c.args.self.now.curve.tables.factors c.args.year in
    let room = c.requires.room in
    let more = c.share-share.ensures in
    let value : c.share-share.result ≡ signed_pair (share factors c.args.amount) = more.value ∙ ap (λ a. signed_pair (share factors a)) (to_z-of_z w32 c.args.amount c.ranges.amount) in
    by_side c.args.self.now.worth _ (share factors c.args.amount) (omega (arith, ints, ap (λ p. p.0) value, room Low, more.small Low)) (omega (arith, ints, ap (λ p. p.1) value, room High, more.small High))
