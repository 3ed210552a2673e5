use Rattle.std.proofs.Common.{arith, lit<}
use Rattle.frames.proofs.Spelled.{room, spelled_more}
use Rattle.frames.proofs.digits.spell.Goals as goal

pub push-requires : goal.push-requires
push-requires c = (lit< tt, omega (arith, room c.args.line.now.items c.loop-byte.line.items c.args.bytes.now c.loop-byte.byte-index c.loop-byte.invariant c.loop-byte-test.true c.requires))

pub push-requires-in-loop-byte : goal.push-requires-in-loop-byte
push-requires-in-loop-byte c = (lit< tt, omega (arith, c.push.ensures.len, room c.args.line.now.items c.loop-byte.line.items c.args.bytes.now c.loop-byte.byte-index c.loop-byte.invariant c.loop-byte-test.true c.requires))

pub loop-byte-preserved : goal.loop-byte-preserved
loop-byte-preserved c =
    spelled_more c.args.line.now.items c.loop-byte.line.items c.push.new.self.items c.push-in-loop-byte.new.self.items c.args.bytes.now c.loop-byte.byte-index
    c.loop-byte.invariant c.loop-byte-test.true c.push.ensures.items c.push-in-loop-byte.ensures.items
