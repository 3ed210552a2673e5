use Rattle.std.proofs.Common.{◌≡◌, ◌+◌, subst, arith}
use Rattle.curve.proofs.Bounds.{factor_small}
use Rattle.curve.proofs.Sums.{Known, Whole, known_none, known_fits, known_more, known_whole}
use Rattle.curve.proofs.gap.Gap.new.Given.{Over}
use Rattle.curve.proofs.gap.Gap.new.Goals as goal
use Rattle.curve.proofs.gap.Gap.new.Goals.{After-wide, then-maturity-last, else-maturity-last}

pub loop-year-init : goal.loop-year-init
loop-year-init g c =
    record { within = omega (arith, c.maturity-maturity.ensures, (g.met.K.Instrument.lawful c.args.instrument).one_year); known = known_none c.args.curve.now.tables (g.K.Instrument.means c.args.instrument) }

pub with_payment-known-requires : goal.with_payment-known-requires
with_payment-known-requires g c =
    let T = c.args.curve.now.tables in
    let o = c.args.curve.now.ordered in
    record { fits = known_fits T (g.met.K.Instrument.lawful c.args.instrument) T.last o.ends (λ σ t h. factor_small T o σ t (omega (arith, h, o.ends))) c.loop-year.year _ _ (omega arith) c.payment.ensures c.loop-year.invariant.known }

pub loop-year-preserved : goal.loop-year-preserved
loop-year-preserved g c = record {
  within = omega (arith, c.maturity-maturity.ensures);
  known = known_more c.args.curve.now.tables (g.K.Instrument.means c.args.instrument) _ _ c.loop-year.known _ c.loop-year.auto.year c.payment.ensures c.loop-year.invariant.known c.with_payment-known.ensures;
}

pub with_payment-known-requires-then-maturity-last : goal.with_payment-known-requires-then-maturity-last
with_payment-known-requires-then-maturity-last g c =
    let T = c.args.curve.now.tables in
    let o = c.args.curve.now.ordered in
    let end : c.loop-year.year ≡ c.maturity-maturity.result = omega arith in
    record {
      fits = known_fits T (g.met.K.Instrument.lawful c.args.instrument) T.last o.ends (λ σ t h. factor_small T o σ t (omega (arith, h, o.ends))) c.maturity-maturity.result _ _ c.if-maturity-last.true c.payment-then-maturity-last.ensures
          (subst (λ t. Known T (g.K.Instrument.means c.args.instrument) t c.loop-year.known) end c.loop-year.invariant.known);
    }

-- the worths are those of the years up to the curve's last
whole : (g : Over) (c : After-wide g) → Whole c.args.curve.now.tables (g.K.Instrument.means c.args.instrument) c.if-maturity-last.known
whole g c =
    let T = c.args.curve.now.tables in
    let o = c.args.curve.now.ordered in
    let x = g.K.Instrument.means c.args.instrument in
    let law = g.met.K.Instrument.lawful c.args.instrument in
    let so = c.loop-year.invariant.known in
    elim c.if-maturity-last.branch [
      | then-maturity-last w ↦
          let end : c.loop-year.year ≡ c.maturity-maturity.result = omega arith in
          let before = subst (λ t. Known T x t c.loop-year.known) end so in
          let more = known_more T x c.maturity-maturity.result w.payment-then-maturity-last.result c.loop-year.known w.with_payment-known-then-maturity-last.result (omega arith) w.payment-then-maturity-last.ensures before
          w.with_payment-known-then-maturity-last.ensures in
          rw w.known-is (known_whole o law (c.maturity-maturity.result + 1) _ (omega (arith, c.maturity-maturity.ensures)) more)
      | else-maturity-last w ↦ rw w.known-is (known_whole o law c.loop-year.year _ (omega (arith, c.maturity-maturity.ensures)) so)
    ]

pub invariant_of-result : goal.invariant_of-result
invariant_of-result g c =
    let T = c.args.curve.now.tables in
    let o = c.args.curve.now.ordered in
    record { year = o.ends; started = λ σ. rw c.wide.ensures (factor_small T o σ T.last o.ends); small = (whole g (goal.at.invariant_of-result g c).After-wide).small }

pub returns-clause-summed : goal.returns-clause-summed
returns-clause-summed g c = (whole g (goal.at.returns-clause-summed g c).After-wide).all
