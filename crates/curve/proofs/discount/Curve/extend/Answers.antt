use Rattle.std.proofs.Common.{◌≡◌, ℕ, ◌+◌, ◌-◌, ◌<◌, ◌≤◌, length, set, Ok, sym, ap, ◌∙◌, subst, arith, rules}
use borrow.Rule.Slice.PartMut.{put_mid, mid_of}
use Rattle.std.proofs.lemmas.Result.{err_from_is_err_and}
use Rattle.std.proofs.lemmas.List.{places}
use Rattle.instruments.specs.Law.{Meaning}
use Rattle.curve.specs.Gaps.{worth_of, held_on}
use Rattle.curve.specs.Market.{InRange, entry, factor_of, extended, stepped, tightened, worth_at}
use Rattle.curve.specs.Worths.{worth}
use Rattle.curve.specs.Steps.{pair}
use Rattle.curve.specs.declared.side.Side.{Side}
use Rattle.curve.specs.declared.tables.Tables.{Tables}
use Rattle.curve.proofs.Extension.{Opened, opened, refused_alike, accepted_alike, extends_alike, known_alike, step_is, tightened_alike, Spread, spread, spread_all, spread_over, steps_alike, tables_alike, tables_ordered}
use Rattle.curve.proofs.Gaps.{growths_range, gap_rises, stepped_unit, tightened_order, extended_ordered}
use Rattle.curve.proofs.Verdict.{Accepted}
use Rattle.curve.proofs.discount.Curve.extend.Given.{Over}
use Rattle.curve.proofs.discount.Curve.extend.Goals as goal
use Rattle.curve.proofs.discount.Curve.extend.Goals.{After-maturity-maturity, After-fill, After-discount_on, After-tightened, After-narrow-2}

pub returns-in_err-growths : goal.returns-in_err-growths
returns-in_err-growths g c =
    let gap = opened g.K.Instrument.means c.args.self.now c.args.instrument (g.met.K.Instrument.lawful c.args.instrument) c.new-gap.result c.new-gap.ensures in
    let p = err_from_is_err_and c.from_residual.result c.from_residual.ensures.1 in
    rw (p.1, p.2) (refused_alike gap c.in_err-growths.field-0.0 c.in_err-growths.ensures)

-- the gap is one at the curve, whose growths are answered
record Taken (T : Tables) (x : Meaning) (w : Side → ℕ → ℕ) (y : Meaning) (growths : ℕ × ℕ) (m : ℕ) : Type 0 where
  gap : Opened T x w y
  accepts : Accepted (worth_at T x) x growths
  range : InRange growths
  ends : m ≡ x.maturity
  rises : T.last < m
  ninety : m ≤ 90

taken : (g : Over) (c : After-maturity-maturity g)
    → Taken c.args.self.now.tables (g.K.Instrument.means c.args.instrument) (worth_of g.K.Instrument.means c.new-gap.result) (g.K.Instrument.means c.new-gap.result.instrument) c.in_ok-growths.growths c.maturity-maturity.result
taken g c =
    let T = c.args.self.now.tables in
    let o = c.args.self.now.ordered in
    let x = g.K.Instrument.means c.args.instrument in
    let law = g.met.K.Instrument.lawful c.args.instrument in
    let growths = c.in_ok-growths.growths in
    let gap = opened g.K.Instrument.means c.args.self.now c.args.instrument law c.new-gap.result c.new-gap.ensures in
    let accepts = accepted_alike gap growths c.in_ok-growths.ensures in
    let ends = c.maturity-maturity.ensures ∙ ap (λ y. y.maturity) gap.same in
    record { gap = gap; accepts = accepts; range = growths_range T o x law growths accepts; ends = ends; rises = omega (arith, ends, gap_rises T o x law growths accepts); ninety = omega (arith, ends, law.ninety_years) }

pub narrow-requires : goal.narrow-requires
narrow-requires g c =
    let range = (taken g (goal.at.narrow-requires g c).After-maturity-maturity).range in
    record { low_fits = omega (arith, range); high_fits = omega (arith, range) }

pub slice_bounds-fill-start : goal.slice_bounds-fill-start
slice_bounds-fill-start g c = omega (arith, (taken g (goal.at.slice_bounds-fill-start g c).After-maturity-maturity).rises)

pub slice_bounds-fill-count : goal.slice_bounds-fill-count
slice_bounds-fill-count g c = omega (arith, (taken g (goal.at.slice_bounds-fill-count g c).After-maturity-maturity).rises)

-- its growths fill its years
over : (g : Over) (c : After-fill g)
    → Spread c.args.self.now.tables c.in_ok-growths.growths c.maturity-maturity.result
    (put_mid (c.args.self.now.tables.last + 1) (c.maturity-maturity.result + 1 - (c.args.self.now.tables.last + 1)) c.args.self.now.tables.growths c.fill.new.self)
over g c =
    let T = c.args.self.now.tables in
    let growths = c.in_ok-growths.growths in
    let m = c.maturity-maturity.result in
    let k = m + 1 - (T.last + 1) in
    let t = taken g (goal.at.After-fill g c).After-maturity-maturity in
    let long : length T.growths ≡ 121 = search rules in
    let rest : length (mid_of (T.last + 1) k T.growths) ≡ k = grind (arith, places, t.rises, t.ninety) in
    let filled = ap (put_mid (T.last + 1) k T.growths) (c.fill.ensures.after (λ y e. λ i. (e.0 i, e.1 i))) ∙ ap (λ pair. spread T pair k (length (mid_of (T.last + 1) k T.growths))) c.narrow.ensures in
    subst (Spread T growths m) (sym filled) (spread_over T growths k _ (omega (arith, t.rises, t.ninety)) long rest m t.rises (omega (arith, t.rises)))

pub discount_on-requires-clause-growing : goal.discount_on-requires-clause-growing
discount_on-requires-clause-growing g c =
    let at = goal.at.discount_on-requires-clause-growing g c in
    spread_all (over g at.After-fill) InRange c.args.self.now.ordered.growing (taken g at.After-maturity-maturity).range

-- the tables before the factors at maturity are tightened: the factors go on by the gap's steps
record Stepped (T : Tables) (growths : ℕ × ℕ) (m : ℕ) (D : Tables) : Type 0 where
  over : Spread T growths m D.growths
  reached : (t : ℕ) → t ≤ m → entry D.factors t ≡ pair (λ σ. stepped T growths σ t)

goes_on : (g : Over) (c : After-discount_on g) → Stepped c.args.self.now.tables c.in_ok-growths.growths c.maturity-maturity.result c.discount_on.new.self
goes_on g c =
    let at = goal.at.After-discount_on g c in
    let T = c.args.self.now.tables in
    let growths = c.in_ok-growths.growths in
    let f = over g at.After-fill in
    let step : (t : ℕ) → t ≤ c.maturity-maturity.result → entry c.discount_on.new.self.factors t ≡ pair (λ σ. stepped T growths σ t)
    = λ t h. c.discount_on.ensures.reached t h ∙ steps_alike T growths _ t (λ u late b. f.late u late (omega (arith, h, b))) in
    record {
      over = subst (Spread T growths c.maturity-maturity.result) (sym c.discount_on.ensures.growths) f;
      reached = step;
    }

pub tightened-requires : goal.tightened-requires
tightened-requires g c =
    let at = goal.at.tightened-requires g c in
    let T = c.args.self.now.tables in
    let o = c.args.self.now.ordered in
    let x = g.K.Instrument.means c.args.instrument in
    let law = g.met.K.Instrument.lawful c.args.instrument in
    let growths = c.in_ok-growths.growths in
    let f = taken g at.After-maturity-maturity in
    let d = goes_on g at.After-discount_on in
    let n = c.new-gap.ensures in
    let on : (t : ℕ) → t ≤ x.maturity → entry c.discount_on.new.self.factors t ≡ pair (λ σ. stepped T growths σ t) = λ t h. d.reached t (omega (arith, h, f.ends)) in
    record {
      rises = omega (arith, n.year, f.rises, c.maturity-maturity.ensures);
      small = λ σ t h. let fits : t ≤ x.maturity = omega (arith, h, ap (λ y. y.maturity) f.gap.same) in rw (step_is f.gap growths c.discount_on.new.self on σ t fits) (stepped_unit T o x law growths f.accepts σ t);
      summed = known_alike f.gap growths c.discount_on.new.self on (omega (arith, f.rises, f.ends)) c.new-gap.result.known n.summed
          ∙ sym (λ i. pair (λ σ. worth (g.K.Instrument.means (n.same i)).payment (factor_of c.discount_on.new.self σ) (n.year i)));
    }

-- the factors at maturity
tight : (g : Over) (c : After-tightened g) → c.tightened.result ≡ pair (tightened c.args.self.now.tables (g.K.Instrument.means c.args.instrument) c.in_ok-growths.growths)
tight g c =
    let at = goal.at.After-tightened g c in
    c.tightened.ensures ∙ tightened_alike (taken g at.After-maturity-maturity).gap c.in_ok-growths.growths c.discount_on.new.self (λ t h. (goes_on g at.After-discount_on).reached t (omega (arith, h, (taken g at.After-maturity-maturity).ends)))

pub narrow-requires-2 : goal.narrow-requires-2
narrow-requires-2 g c =
    let at = goal.at.narrow-requires-2 g c in
    let is = tight g at.After-tightened in
    let order = tightened_order c.args.self.now.tables c.args.self.now.ordered (g.K.Instrument.means c.args.instrument) (g.met.K.Instrument.lawful c.args.instrument) c.in_ok-growths.growths (taken g at.After-maturity-maturity).accepts in
    record { low_fits = omega (arith, ap (λ p. p.0) is, order); high_fits = omega (arith, ap (λ p. p.1) is, order) }

-- they are the gap's, if their last growths hold on
extends : (g : Over) (c : After-narrow-2 g)
    → held_on (record { last = c.maturity-maturity.result; growths = c.discount_on.new.self.growths; factors = set c.discount_on.new.self.factors c.maturity-maturity.result c.narrow-2.result })
    ≡ extended c.args.self.now.tables (g.K.Instrument.means c.args.instrument) c.in_ok-growths.growths
extends g c =
    let at = goal.at.After-narrow-2 g c in
    let d = goes_on g at.After-discount_on in
    tables_alike c.args.self.now.tables (g.K.Instrument.means c.args.instrument) (g.met.K.Instrument.lawful c.args.instrument) c.in_ok-growths.growths c.discount_on.new.self c.maturity-maturity.result c.narrow-2.result
    (taken g at.After-maturity-maturity).ends d.over c.discount_on.ensures.long d.reached c.discount_on.ensures.later (c.narrow-2.ensures ∙ tight g at.After-tightened)

pub invariant_of-self : goal.invariant_of-self
invariant_of-self g c =
    let at = goal.at.invariant_of-self g c in
    let T = c.args.self.now.tables in
    let o = c.args.self.now.ordered in
    let x = g.K.Instrument.means c.args.instrument in
    let law = g.met.K.Instrument.lawful c.args.instrument in
    let growths = c.in_ok-growths.growths in
    let t = taken g at.After-maturity-maturity in
    record { ordered = tables_ordered T x law growths o t.range t.accepts.near _ (goes_on g at.After-discount_on).over (extends g at.After-narrow-2) (extended_ordered T o x law growths t.accepts) }

pub returns : goal.returns
returns g c =
    let at = goal.at.returns g c in
    ap Ok (extends g at.After-narrow-2) ∙ extends_alike (taken g at.After-maturity-maturity).gap c.in_ok-growths.growths c.in_ok-growths.ensures
