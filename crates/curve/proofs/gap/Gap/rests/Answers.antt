use Rattle.std.proofs.Common.{◌≡◌, ◌+◌, ◌-◌, ap, ◌∙◌, arith}
use Rattle.curve.specs.Market.{factor_of}
use Rattle.curve.specs.Steps.{side_of}
use Rattle.curve.specs.Worths.{worth}
use Rattle.curve.specs.declared.side.Side.{Side}
use Rattle.curve.specs.declared.side.Side.TheVariants.{Low, High}
use Rattle.curve.proofs.Shares.{pair_side}
use Rattle.curve.proofs.Sums.{known_fits, known_more}
use Rattle.curve.proofs.gap.Gap.rests.Goals as goal

pub loop-year-init : goal.loop-year-init
loop-year-init g c =
    let x = g.K.Instrument.means c.args.self.now.instrument in
    let last = c.args.self.now.last in
    let e : last + 1 - 1 ≡ last = omega arith in
    record {
      later = omega arith;
      within = omega (arith, c.requires.rises);
      known = λ σ. rw e (ap (side_of σ) c.requires.summed ∙ pair_side (λ τ. worth x.payment (factor_of c.args.tables.now τ) last) σ);
    }

pub with_payment-rests-requires : goal.with_payment-rests-requires
with_payment-rests-requires g c =
    let x = g.K.Instrument.means c.args.self.now.instrument in
    let law = g.met.K.Instrument.lawful c.args.self.now.instrument in
    record { fits = known_fits c.args.tables.now law x.maturity (omega (arith, law.ninety_years)) c.requires.small c.loop-year.year _ _ c.loop-year.invariant.within c.payment.ensures c.loop-year.invariant.known }

pub loop-year-preserved : goal.loop-year-preserved
loop-year-preserved g c =
    let x = g.K.Instrument.means c.args.self.now.instrument in
    record {
      later = omega (arith, c.loop-year.invariant.later);
      within = omega (arith, c.maturity-year-end.ensures);
      known = known_more c.args.tables.now x _ _ c.loop-year.rests _ (omega (arith, c.loop-year.invariant.later)) c.payment.ensures c.loop-year.invariant.known c.with_payment-rests.ensures;
    }

pub returns : goal.returns
returns g c =
    let x = g.K.Instrument.means c.args.self.now.instrument in
    let end : c.loop-year.year ≡ x.maturity = omega (arith, c.maturity-year-end.ensures, c.loop-year.invariant.within) in
    let side = λ (σ : Side). (c.loop-year.invariant.known σ ∙ ap (λ t. worth x.payment (factor_of c.args.tables.now σ) (t - 1)) end) in
    λ k. (side Low k, side High k)
