use Rattle.std.proofs.Common.{◌≡◌, ◌++◌, take}
use Rattle.frames.specs.Answers.{figure_bytes}
use Rattle.frames.specs.Digits.{hex}
use Rattle.frames.proofs.answer.write_line.Given as goal

abbrev pub invariant-loop-figure : goal.invariant-loop-figure
invariant-loop-figure l = l.line.items ≡ hex (l.head ++ figure_bytes (take l.figure-index l.figures))
