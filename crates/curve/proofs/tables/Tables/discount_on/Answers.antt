use Rattle.std.proofs.Common.{◌≡◌, ◌+◌, ◌-◌, ◌<◌, ◌≢◌, length, set, refl, ap, ◌∙◌, arith, length-set, get_or-set_other}
use Rattle.std.proofs.lemmas.List.Edits.{fill_by_more}
use Rattle.curve.specs.Market.{discounted_on, entry}
use Rattle.curve.proofs.DiscountedOn.{known_on, turn_on, small_on}
use Rattle.curve.proofs.tables.Tables.discount_on.Goals as goal

pub loop-year-init : goal.loop-year-init
loop-year-init c =
    let T = c.args.self.now in
    let from = c.args.from in
    let e : from ≡ from + 1 - 1 = omega arith in
    (refl, refl, search, known_on T from from (omega arith) ∙ ap (discounted_on T from) e, (λ t h. known_on T from t (omega arith)), (λ t h. refl))

pub discounted-factors-requires : goal.discounted-factors-requires
discounted-factors-requires c =
    let i = c.loop-year.invariant in
    let small = small_on c.args.self.now c.args.from c.requires.growing c.requires.factors_le_unit (c.loop-year.year - 1) (omega (arith, c.loop-year-test.true, c.requires.ends_in_table)) in
    let range = c.requires.growing c.loop-year.year (omega (arith, c.loop-year-test.true, c.requires.ends_in_table)) in
    record { low_le_unit = omega (arith, ap (λ p. p.0) i.3, small.0); high_le_unit = omega (arith, ap (λ p. p.1) i.3, small.1); in_range = rw i.1 range }

pub loop-year-preserved : goal.loop-year-preserved
loop-year-preserved c =
    let T = c.args.self.now in
    let i = c.loop-year.invariant in
    let year = c.loop-year.year in
    let within : year < length c.loop-year.self.factors = omega (arith, i.2, c.loop-year-test.true, c.requires.ends_in_table) in
    let is = c.discounted-factors.ensures ∙ turn_on T c.args.from year (omega (arith, c.loop-year.auto.year)) _ _ i.3 (ap (λ growths. entry growths year) i.1) in
    let before : year ≡ year + 1 - 1 = omega arith in (
      i.0,
      i.1,
      length-set c.loop-year.self.factors year c.discounted-factors.result ∙ i.2,
      is ∙ ap (discounted_on T c.args.from) before,
      (λ t h. ap (λ v. entry (set c.loop-year.self.factors year v) t) is ∙ fill_by_more (discounted_on T c.args.from) c.loop-year.self.factors year (0, 0) within i.4 t h),
      (λ t h. let ne : t ≢ year = omega (arith, c.loop-year-test.true) in get_or-set_other c.loop-year.self.factors year t c.discounted-factors.result (0, 0) ne ∙ i.5 t h),
    )
