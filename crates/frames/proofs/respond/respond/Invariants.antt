use Rattle.std.proofs.Common.{◌≡◌, ◌++◌, vec_items}
use Rattle.frames.specs.Inputs.{stage_answers}
use Rattle.frames.specs.Stages.{stage_of}
use Rattle.frames.proofs.respond.respond.Given as goal

-- what is written, and the answers to the lines left, are all the answers
abbrev pub invariant-loop-line : goal.invariant-loop-line
invariant-loop-line l = vec_items l.out ++ stage_answers (stage_of l.responder) l.line-iterator ≡ vec_items l.initial.out ++ stage_answers (stage_of l.initial.responder) l.initial.line-iterator
