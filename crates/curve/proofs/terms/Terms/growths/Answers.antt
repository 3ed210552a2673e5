use Rattle.std.proofs.Common.{sym, ap, ◌∙◌}
use Rattle.curve.specs.Blending.{blended_growths}
use Rattle.curve.specs.declared.side.Side.TheVariants.{Low, High}
use Rattle.curve.proofs.Weights.{weight_late, blended_ultimate, blended_market}
use Rattle.curve.proofs.terms.Terms.growths.Goals as goal

pub returns-then-converged : goal.returns-then-converged
returns-then-converged c =
    let all = ap (λ w. blended_growths w c.args.market) (sym (weight_late c.args.self.now.blend c.args.year (sym c.if-converged.ensures))) in
    (λ i. (sym (blended_ultimate Low c.args.market.0) i, sym (blended_ultimate High c.args.market.1) i)) ∙ all

pub returns-then-share-eq0 : goal.returns-then-share-eq0
returns-then-share-eq0 c =
    let share = c.share-share.result in
    let none = ap (λ k. blended_growths (k, share.whole) c.args.market) (sym c.if-share-eq0.true) ∙ ap (λ w. blended_growths w c.args.market) c.share-share.ensures in
    (λ i. (sym (blended_market Low share.whole c.args.market.0 share.some) i, sym (blended_market High share.whole c.args.market.1 share.some) i)) ∙ none
