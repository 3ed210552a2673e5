use Rattle.std.proofs.Common.{map, Ok, Err, ap, ◌∙◌}
use Rattle.std.proofs.lemmas.Result.{err_from_is_err_and}
use Rattle.curve.specs.Gaps.{held_on}
use Rattle.curve.specs.Market.{strip_from}
use Rattle.curve.proofs.Stripped.{promised}
use Rattle.curve.proofs.strip.strip.Goals as goal

pub returns-in_err-strip_on : goal.returns-in_err-strip_on
returns-in_err-strip_on g c =
    let p = err_from_is_err_and c.from_residual.result c.from_residual.ensures.1 in
    let all = promised g.K.Instrument.read g.met.K.Instrument.rows c.args.rows.now (Err c.in_err-strip_on.field-0.0)
    (c.in_err-strip_on.ensures ∙ ap (λ T. strip_from (held_on T) (map g.K.Instrument.read c.args.rows.now)) c.unstripped-curve.ensures) in
    rw (p.1, p.2) (record { curve = all.curve; encloses = all.encloses })

pub returns : goal.returns
returns g c =
    let all = promised g.K.Instrument.read g.met.K.Instrument.rows c.args.rows.now (Ok c.strip_on.new.curve.tables)
    (c.in_ok-strip_on.ensures ∙ ap (λ T. strip_from (held_on T) (map g.K.Instrument.read c.args.rows.now)) c.unstripped-curve.ensures) in
    record { curve = all.curve; encloses = all.encloses }
