use Rattle.std.proofs.Common.{arith}
use Rattle.curve.specs.declared.side.Side.TheVariants.{Low, High}
use Rattle.curve.proofs.gap.Gap.furthest_growths.Goals as goal

pub overflow_add-max : goal.overflow_add-max
overflow_add-max g c =
    let x = c.args.self.now in
    record { fits = omega (arith, x.small Low, x.small High, c.max.ensures, c.payment-payment.ensures, (g.met.K.Instrument.lawful x.instrument).payment_limit c.maturity-maturity.result) }
