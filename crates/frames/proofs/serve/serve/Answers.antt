use Rattle.std.proofs.Common.{vec_items, sym, ap, ◌∙◌, subst, take, eqb}
use Rattle.std.proofs.lemmas.List.{nil_from_length}
use Rattle.std.specs.Io.Buffered.{reader_buffer, reader_remaining}
use Rattle.std.specs.Io.KnownBytes.{Appends}
use Rattle.std.specs.List.{position}
use Rattle.frames.specs.Stages.{stage_of}
use Rattle.frames.proofs.Dialogue.{Going, answers_next, answers_more, taken, writes, ends, read_is, front_is, known_promised}
use Rattle.frames.proofs.serve.serve.Goals as goal
use Rattle.frames.proofs.serve.serve.Goals.{in-Some+in_ok-write, in_default+in_ok-write_all+in_ok-read_until+in-Some-first_line+in_ok-write-2}

pub returns-in_default-first_line-clause-answers : goal.returns-in_default-first_line-clause-answers
returns-in_default-first_line-clause-answers g c =
    let left = reader_remaining g.R.Read.remaining in
    let known = g.W.Write.contents in
    let line = c.deref-in_default.result.now in
    let read = read_is (left c.loop.input) (vec_items c.clear-in_default.new.self) (vec_items c.read_until.new.buf) line c.clear-in_default.ensures.items c.deref-in_default.ensures.value c.in_ok-read_until.ensures.bytes in
    ends (left c.args.input.now) (known c.args.out.now) (left c.loop.input) (left c.read_until.new.self) (known c.loop.out) (known c.write_all.new.self) line (vec_items c.loop.answers) (stage_of c.loop.responder)
    read c.in_ok-read_until.ensures.rest (nil_from_length line c.in_default-first_line.ensures.forward)
    (subst (λ p. Appends (known c.loop.out) (known c.write_all.new.self) p) c.deref.ensures.value c.in_ok-write_all.ensures.bytes) c.loop.invariant

pub returns-in_default-first_line-clause-promise : goal.returns-in_default-first_line-clause-promise
returns-in_default-first_line-clause-promise g c = known_promised (reader_remaining g.R.Read.remaining c.args.input.now)

pub loop-preserved : goal.loop-preserved
loop-preserved g c =
    let left = reader_remaining g.R.Read.remaining in
    let known = g.W.Write.contents in
    let s = stage_of c.loop.responder in
    let m = c.match-first_newline in
    elim c.match-first_newline.branch [
      | in-Some+in_ok-write w ↦
          let end = w.in-Some.end in
          let front = take end w.buffer-in-Some.result.now in
          let next = taken _ (reader_buffer c.loop.input) (g.R.Read.remaining c.loop.input.inner) (left w.consume.new.self) front end
          (w.in-Some.ensures ∙ ap (position (λ b. eqb b 10)) c.buffer.ensures) (ap (take end) w.buffer-in-Some.ensures) w.consume.ensures.bytes in
          let more = answers_next (left c.args.input.now) (known c.args.out.now) (left c.loop.input) (left w.consume.new.self) (known c.loop.out) front (vec_items c.loop.answers) (vec_items w.write.new.out)
          s (stage_of w.answer.new.self) w.answer.result next w.answer.ensures w.in_ok-write.ensures c.loop.invariant in
          subst (λ i. Going (left c.args.input.now) (known c.args.out.now) (left i) (known m.out) (vec_items m.answers) (stage_of m.responder)) (sym w.input-is)
          (subst (λ o. Going (left c.args.input.now) (known c.args.out.now) (left w.consume.new.self) (known o) (vec_items m.answers) (stage_of m.responder)) (sym w.out-is)
          (subst (λ a. Going (left c.args.input.now) (known c.args.out.now) (left w.consume.new.self) (known c.loop.out) (vec_items a) (stage_of m.responder)) (sym w.answers-is)
          (subst (λ r. Going (left c.args.input.now) (known c.args.out.now) (left w.consume.new.self) (known c.loop.out) (vec_items w.write.new.out) (stage_of r)) (sym w.responder-is) more)))
      | in_default+in_ok-write_all+in_ok-read_until+in-Some-first_line+in_ok-write-2 w ↦
          let line = w.deref-in_default.result.now in
          let read = read_is (left c.loop.input) (vec_items w.clear-in_default.new.self) (vec_items w.read_until.new.buf) line w.clear-in_default.ensures.items w.deref-in_default.ensures.value w.in_ok-read_until.ensures.bytes in
          let front = front_is line w.in-Some-first_line.front.now _ w.in-Some-first_line.ensures.value in
          let written = writes (left c.args.input.now) (known c.args.out.now) (left c.loop.input) (known c.loop.out) (known w.write_all.new.self) (vec_items c.loop.answers) (vec_items w.clear.new.self) s
          (subst (λ p. Appends (known c.loop.out) (known w.write_all.new.self) p) w.deref.ensures.value w.in_ok-write_all.ensures.bytes) w.clear.ensures.items c.loop.invariant in
          let more = answers_more (left c.args.input.now) (known c.args.out.now) (left c.loop.input) (left w.read_until.new.self) (known w.write_all.new.self) line w.in-Some-first_line.front.now (vec_items w.clear.new.self) (vec_items w.write-in_default.new.out)
          s (stage_of w.answer-in_default.new.self) w.answer-in_default.result read w.in_ok-read_until.ensures.rest front.0 front.1 w.answer-in_default.ensures w.in_ok-write-2.ensures written in
          subst (λ i. Going (left c.args.input.now) (known c.args.out.now) (left i) (known m.out) (vec_items m.answers) (stage_of m.responder)) (sym w.input-is)
          (subst (λ o. Going (left c.args.input.now) (known c.args.out.now) (left w.read_until.new.self) (known o) (vec_items m.answers) (stage_of m.responder)) (sym w.out-is)
          (subst (λ a. Going (left c.args.input.now) (known c.args.out.now) (left w.read_until.new.self) (known w.write_all.new.self) (vec_items a) (stage_of m.responder)) (sym w.answers-is)
          (subst (λ r. Going (left c.args.input.now) (known c.args.out.now) (left w.read_until.new.self) (known w.write_all.new.self) (vec_items w.write-in_default.new.out) (stage_of r)) (sym w.responder-is) more)))
    ]
