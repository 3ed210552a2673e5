use Rattle.std.proofs.Common.{◌≡◌, length, length-append, Some, None, sym, ap, subst, ◌∙◌, arith, w32, SFits, rules}
use Rattle.std.proofs.lemmas.Int.{ints, to_z-of_z}
use Rattle.std.proofs.lemmas.Slice.Zip.{zip_turn, zip_end}
use Rattle.curve.specs.Questions.{signed_pair}
use Rattle.curve.specs.Reserve.{share, largest, SizeWithin}
use Rattle.curve.specs.declared.side.Side.{Side}
use Rattle.curve.specs.declared.side.Side.TheVariants.{Low, High}
use Rattle.curve.proofs.Shares.{by_side, of_pair, summed_more, summed_all}
use Rattle.curve.proofs.discount.Curve.total.Goals as goal

pub overflow_add-total : goal.overflow_add-total
overflow_add-total c =
    let small = (c.loop-flow.invariant Low).1 in
    let more = c.share-share.ensures.small Low in
    let t = zip_turn c.args.flows.now c.args.self.now.tables.factors c.loop-flow.yielded _ _ c.next.new.self _ (search rules) (search rules) c.loop-flow.yielded_by _ c.in-Some.is c.next.ensures.steps in
    omega (arith, ints, small, more, t.0)

pub overflow_add-total-in-Some-flow : goal.overflow_add-total-in-Some-flow
overflow_add-total-in-Some-flow c =
    let small = (c.loop-flow.invariant High).1 in
    let more = c.share-share.ensures.small High in
    let t = zip_turn c.args.flows.now c.args.self.now.tables.factors c.loop-flow.yielded _ _ c.next.new.self _ (search rules) (search rules) c.loop-flow.yielded_by _ c.in-Some.is c.next.ensures.steps in
    omega (arith, ints, small, more, t.0)

pub loop-flow-preserved-in-Some-flow : goal.loop-flow-preserved-in-Some-flow
loop-flow-preserved-in-Some-flow c =
    let T = c.args.self.now.tables in
    let xs = c.args.flows.now in
    let i = length c.loop-flow.yielded in
    let z = c.in-Some-flow.amount in
    let factors = c.in-Some.factors.now in
    let more = c.share-share.ensures in
    let so = c.loop-flow.invariant in
    let fits : SFits w32 z = search rules in
    let value : c.share-share.result ≡ signed_pair (share factors z) = more.value ∙ ap (λ a. signed_pair (share factors a)) (to_z-of_z w32 z fits) in
    let small : (σ : Side) → SizeWithin largest (share factors z σ) = λ σ. subst (SizeWithin largest) (of_pair _ (share factors z) value σ) (more.small σ) in
    let t = zip_turn xs T.factors c.loop-flow.yielded _ _ c.next.new.self _ (search rules) (search rules) c.loop-flow.yielded_by _ c.in-Some.is c.next.ensures.steps in
    summed_more T xs i c.loop-flow.total c.loop-flow.invariant (Some z) factors t.0 (sym c.in-Some-flow.is ∙ t.2 None) (t.3 (0, 0)) _ _ (simp length-append)
    (by_side c.loop-flow.total _ (share factors z) (omega (arith, ints, ap (λ p. p.0) value, (so Low).1, more.small Low, t.0)) (omega (arith, ints, ap (λ p. p.1) value, (so High).1, more.small High, t.0)))
    (λ σ. small σ)

pub loop-flow-preserved : goal.loop-flow-preserved
loop-flow-preserved c =
    let T = c.args.self.now.tables in
    let xs = c.args.flows.now in
    let so = c.loop-flow.invariant in
    let i = length c.loop-flow.yielded in
    let t = zip_turn xs T.factors c.loop-flow.yielded _ _ c.next.new.self _ (search rules) (search rules) c.loop-flow.yielded_by _ c.in-Some.is c.next.ensures.steps in
    summed_more T xs i c.loop-flow.total so None c.in-Some.factors.now t.0 (sym c.in_default.is ∙ t.2 None) (t.3 (0, 0)) c.loop-flow.total _ (simp length-append) (λ σ. omega (arith, ints)) (λ σ. (omega (arith, ints), omega (arith, ints)))

pub returns : goal.returns
returns c =
    let end = zip_end c.args.flows.now c.args.self.now.tables.factors c.loop-flow.yielded _ _ c.next.new.self _ (search rules) (search rules) c.loop-flow.yielded_by c.in-None.is c.next.ensures.steps in
    summed_all c.args.self.now.tables c.args.flows.now (length c.loop-flow.yielded) c.loop-flow.total c.loop-flow.invariant (omega arith)
