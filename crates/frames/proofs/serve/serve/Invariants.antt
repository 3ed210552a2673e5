use Rattle.std.proofs.Common.{vec_items}
use Rattle.std.specs.Io.Buffered.{reader_remaining}
use Rattle.frames.specs.Stages.{stage_of}
use Rattle.frames.proofs.Dialogue.{Going}
use Rattle.frames.proofs.serve.serve.Given as goal

abbrev pub invariant-loop : goal.invariant-loop
invariant-loop g l =
    let left = reader_remaining g.R.Read.remaining in
    let known = g.W.Write.contents in
    Going (left l.initial.input) (known l.initial.out) (left l.input) (known l.out) (vec_items l.answers) (stage_of l.responder)
