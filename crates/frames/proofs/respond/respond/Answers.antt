use Rattle.std.proofs.Common.{◌++◌, vec_items, None, sym, ap, ◌∙◌}
use Rattle.std.proofs.lemmas.List.{append-nil}
use Rattle.frames.specs.Inputs.{stage_answers}
use Rattle.frames.specs.Stages.{stage_of}
use Rattle.frames.proofs.Promised.{closed_promised}
use Rattle.frames.proofs.Served.{served_turn}
use Rattle.frames.proofs.respond.respond.Goals as goal

pub loop-line-preserved : goal.loop-line-preserved
loop-line-preserved c =
    served_turn (stage_of c.loop-line.responder) (stage_of c.answer.new.self) c.in-Some.line.now c.next.new.self c.loop-line.line-iterator (vec_items c.loop-line.out) (vec_items c.write.new.out) c.answer.result
    c.answer.ensures c.in-Some.ensures.steps c.in_ok-write.ensures
    ∙ c.loop-line.invariant

pub returns-clause-answers : goal.returns-clause-answers
unfolding stage_answers
returns-clause-answers c =
    sym (append-nil (vec_items c.loop-line.out)) ∙ ap (λ l. vec_items c.loop-line.out ++ stage_answers (stage_of c.loop-line.responder) l) (sym c.in-None.ensures.steps.0) ∙ c.loop-line.invariant
    ∙ (λ j. c.new-out.ensures.items j ++ stage_answers (c.new-responder.ensures.stage j) (c.into_iter-line-iterator.ensures.into_iter_gives j)) ∙ ap (stage_answers None) c.new-line-items.ensures

pub returns-clause-promise : goal.returns-clause-promise
returns-clause-promise c = closed_promised _
