use Rattle.std.proofs.Common.{◌≡◌, length, get_or, pos, ap, ◌∙◌, arith, lit<, w64, SFits, of_z, rules}
use Rattle.std.proofs.lemmas.Int.{to_z-of_z}
use Rattle.frames.specs.Answers.{eight_bytes}
use Rattle.frames.proofs.Spelled.{line_length, figure_more}
use Rattle.frames.proofs.answer.write_line.Goals as goal

pub spell-requires-in-loop-figure : goal.spell-requires-in-loop-figure
spell-requires-in-loop-figure c =
    let three : length c.args.head.now ≡ 3 = search rules in
    let long = line_length c.args.head.now c.loop-figure.line.items c.args.figures.now c.loop-figure.figure-index c.loop-figure.invariant three (omega arith) in
    omega (arith, long, ap length c.to_be_bytes.ensures, c.requires)

pub push-requires : goal.push-requires
push-requires c =
    let three : length c.args.head.now ≡ 3 = search rules in
    let long = line_length c.args.head.now c.loop-figure.line.items c.args.figures.now c.loop-figure.figure-index c.loop-figure.invariant three (omega arith) in
    (lit< tt, omega (arith, long, c.requires))

pub loop-figure-preserved : goal.loop-figure-preserved
loop-figure-preserved c =
    let figures = c.args.figures.now in
    let i = c.loop-figure.figure-index in
    let fits : SFits w64 (get_or figures i (pos 0)) = search rules in
    figure_more c.args.head.now c.loop-figure.line.items c.spell-in-loop-figure.new.line.items c.to_be_bytes.result figures i (pos 0)
    c.loop-figure.invariant c.loop-figure-test.true (c.to_be_bytes.ensures ∙ ap (λ z. eight_bytes (of_z w64 z)) (to_z-of_z w64 (get_or figures i (pos 0)) fits)) c.spell-in-loop-figure.ensures
