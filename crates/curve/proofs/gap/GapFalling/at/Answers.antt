use Rattle.std.proofs.Common.{arith}
use Rattle.curve.specs.Steps.{side_of}
use Rattle.curve.proofs.Bounds.{payment_small}
use Rattle.curve.proofs.Sums.{gone_none, gone_more, gone_all}
use Rattle.curve.proofs.gap.GapFalling.at.Goals as goal

pub loop-year-init : goal.loop-year-init
loop-year-init g c =
    let x = c.args.self.now in
    let σ = c.args.side in
    record {
      gone = rw (c.of-factor.ensures, c.of-worth.ensures) (gone_none σ (side_of σ x.known) (side_of σ x.start) x.last (g.K.Instrument.means x.instrument).payment c.args.growth);
      factor_small = omega (arith, c.of-factor.ensures, x.started σ);
      worth_small = omega (arith, c.of-worth.ensures, x.small σ);
    }

pub loop-year-preserved : goal.loop-year-preserved
loop-year-preserved g c =
    let x = c.args.self.now in
    let σ = c.args.side in
    let law = g.met.K.Instrument.lawful x.instrument in
    let i = c.loop-year.invariant in
    record {
      gone = gone_more σ (side_of σ x.known) (side_of σ x.start) x.last (g.K.Instrument.means x.instrument).payment c.args.growth c.loop-year.year c.payment.result c.loop-year.factor c.loop-year.worth c.discount-factor.result i.gone c.payment.ensures c.discount-factor.ensures.value;
      factor_small = c.discount-factor.ensures.upper_bound;
      worth_small = omega (arith, payment_small c.payment.result c.discount-factor.result (omega (arith, law.payment_limit c.loop-year.year, c.payment.ensures)) c.discount-factor.ensures.upper_bound);
    }

pub returns : goal.returns
returns g c =
    let x = c.args.self.now in
    let σ = c.args.side in
    let means = g.K.Instrument.means x.instrument in
    gone_all σ (side_of σ x.known) (side_of σ x.start) x.last means.payment c.args.growth c.loop-year.year means.maturity c.loop-year.factor c.loop-year.worth c.loop-year.invariant.gone (g.met.K.Instrument.lawful x.instrument).none_after (omega (arith, c.maturity-year-end.ensures))
