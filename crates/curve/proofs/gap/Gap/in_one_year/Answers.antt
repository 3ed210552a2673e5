use Rattle.std.proofs.Common.{◌≡◌, ◌-◌, ◌/◌, sym, ap, ◌∙◌}
use Rattle.curve.specs.Steps.{side_of}
use Rattle.curve.proofs.OneYear.{divisor, one_year_edge}
use Rattle.curve.proofs.gap.Gap.in_one_year.Goals as goal
use Rattle.curve.proofs.gap.Gap.in_one_year.Goals.{in-Low, in-High}

pub returns : goal.returns
returns g c =
    let x = c.args.self.now in
    let σ = c.args.side in
    let means = g.K.Instrument.means x.instrument in
    let law = g.met.K.Instrument.lawful x.instrument in
    let payment = c.payment-payment.ensures ∙ ap means.payment c.maturity.ensures in
    let parted : c.match-side.divisor ≡ divisor σ ((c.args.limit - c.of.result - 1) / c.payment-payment.result) = elim c.match-side.branch [
      | in-Low w ↦ w.divisor-is ∙ ap (λ s. divisor s ((c.args.limit - c.of.result - 1) / c.payment-payment.result)) (sym w.in-Low.is)
      | in-High w ↦ w.divisor-is ∙ ap (λ s. divisor s ((c.args.limit - c.of.result - 1) / c.payment-payment.result)) (sym w.in-High.is)
    ] in
    let all = one_year_edge (side_of σ x.known) (side_of σ x.start) x.last means.payment means.maturity c.requires.0 law.pays c.args.limit c.requires.1 σ in
    cc
