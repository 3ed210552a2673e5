use Rattle.std.specs.Slice.Iter.{chunks_exact_rest}
use Rattle.std.proofs.Common.{◌∙◌}
use Rattle.frames.proofs.Decoded.{decoded_more}
use Rattle.frames.proofs.hex.decode.Goals as goal

pub loop-digits-preserved : goal.loop-digits-preserved
loop-digits-preserved c =
    let before = c.loop-digits.invariant in
    let steps = c.in-Some.ensures.steps in
    let more = decoded_more c.args.line.now (chunks_exact_rest c.loop-digits.digits-iterator) c.in-Some.digits.now (chunks_exact_rest c.next.new.self) c.loop-digits.bytes.items c.push.new.self.items c.in_ok-pair.field-0
    steps.1.0 (steps.1.1 ∙ before.0) c.in_ok-pair.ensures c.push.ensures.items before.1 before.2 before.3 in
    (steps.0 ∙ before.0, more.0, more.1, more.2)
