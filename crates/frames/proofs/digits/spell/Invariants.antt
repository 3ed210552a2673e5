use Rattle.std.proofs.Common.{◌≡◌, ◌++◌, take}
use Rattle.frames.specs.Digits.{hex}
use Rattle.frames.proofs.digits.spell.Given as goal

abbrev pub invariant-loop-byte : goal.invariant-loop-byte
invariant-loop-byte l = l.line.items ≡ l.initial.line.items ++ hex (take l.byte-index l.bytes)
