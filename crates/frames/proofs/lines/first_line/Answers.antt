use Rattle.std.proofs.Common.{◌+◌, length, take, sym, refl, ◌∙◌, arith, rules}
use Rattle.std.proofs.lemmas.List.{take_all}
use Rattle.frames.proofs.Cut.{cut, ended, whole}
use Rattle.frames.proofs.lines.first_line.Goals as goal

pub returns-in-Some : goal.returns-in-Some
returns-in-Some c =
    let input = c.args.input.now in
    let end = c.in-Some.end in
    let places = ended input end c.in-Some.ensures in
    let p = cut input (take end input) end (end + 1) places.1 refl (places.2, places.3) in
    record { value = p.0; steps = p.1; forward = (omega arith, omega (arith, places.0)) }

pub returns-in-None-2 : goal.returns-in-None-2
returns-in-None-2 c =
    let input = c.args.input.now in
    let p = cut input input (length input) (length input) (sym c.is_empty.ensures ∙ c.if-is_empty.false) (sym (take_all (length input) input (omega arith))) (whole input c.in-None.ensures) in
    record { value = p.0; steps = p.1; forward = search rules }
