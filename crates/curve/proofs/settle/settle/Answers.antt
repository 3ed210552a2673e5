use Rattle.std.proofs.Common.{◌≡◌, Ok, Err, sym, ap, ◌∙◌, subst, map, arith}
use Rattle.std.proofs.lemmas.Result.{err_from_is_err_and}
use Rattle.instruments.specs.Law.{ok_map}
use Rattle.instruments.specs.declared.refusal.Refusal.TheVariants.{TooShort}
use Rattle.curve.specs.Blending.{discount}
use Rattle.curve.specs.Currencies.{span}
use Rattle.curve.specs.Exact.{exact_growth, exact_discount, Encloses}
use Rattle.curve.specs.Gaps.{held_on}
use Rattle.curve.specs.Market.{Ordered, strip_from}
use Rattle.curve.proofs.Stripped.{promised}
use Rattle.curve.proofs.Settlement.{settled_short, settled_long, settled_encloses}
use Rattle.curve.proofs.settle.settle.Goals as goal

pub returns-then-last-needed : goal.returns-then-last-needed
returns-then-last-needed g c = record {
  curve = ap (λ t. Err (TooShort t)) c.last_maturity-last.ensures ∙ settled_short _ _ (omega (arith, c.if-last-needed.true, c.last_maturity-last.ensures, c.needed.ensures.value));
  encloses = λ d a. ((λ e. omega (arith, e)), (λ e. omega (arith, e)));
}

pub returns-in_err-strip_on : goal.returns-in_err-strip_on
returns-in_err-strip_on g c =
    let p = err_from_is_err_and c.from_residual.result c.from_residual.ensures.1 in
    let all = promised g.K.Instrument.read g.met.K.Instrument.rows c.args.rows.now (Err c.in_err-strip_on.field-0.0)
    (c.in_err-strip_on.ensures ∙ ap (λ T. strip_from (held_on T) (map g.K.Instrument.read c.args.rows.now)) c.unstripped-curve.ensures) in
    rw (p.1, p.2) (record {
      curve = ap (ok_map (discount (span c.args.terms.now))) all.curve ∙ settled_long _ _ (omega (arith, c.if-last-needed.false, c.last_maturity-last.ensures, c.needed.ensures.value));
      encloses = λ d a. all.encloses d a;
    })

pub returns : goal.returns
returns g c =
    let terms = span c.args.terms.now in
    let all = promised g.K.Instrument.read g.met.K.Instrument.rows c.args.rows.now (Ok c.strip_on.new.curve.tables)
    (c.in_ok-strip_on.ensures ∙ ap (λ T. strip_from (held_on T) (map g.K.Instrument.read c.args.rows.now)) c.unstripped-curve.ensures) in
    let made = c.blend.new.self in
    let is : made.tables ≡ discount terms c.strip_on.new.curve.tables = c.blend.ensures in
    record {
      curve = ap Ok is ∙ ap (ok_map (discount terms)) all.curve ∙ settled_long _ _ (omega (arith, c.if-last-needed.false, c.last_maturity-last.ensures, c.needed.ensures.value));
      encloses = λ d a. subst (λ T. Encloses T (exact_discount terms (exact_growth d))) (sym is)
          (settled_encloses terms _ _ all.curve (omega (arith, c.if-last-needed.false, c.last_maturity-last.ensures, c.needed.ensures.value, c.needed.ensures.positive))
          (subst Ordered is made.ordered) d a (all.encloses d a));
    }
