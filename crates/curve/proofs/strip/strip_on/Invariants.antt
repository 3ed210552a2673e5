use Rattle.std.proofs.Common.{◌≡◌, map, drop}
use Rattle.curve.specs.Gaps.{held_on}
use Rattle.curve.specs.Market.{strip_from}
use Rattle.curve.proofs.strip.strip_on.Given as goal

-- what is left, stripped from the curve so far with its last growths held on, gives the whole
abbrev pub invariant-loop-row : goal.invariant-loop-row
invariant-loop-row g l = strip_from (held_on l.curve.tables) (map g.K.Instrument.read (drop l.row-index l.rows)) ≡ strip_from (held_on l.initial.curve.tables) (map g.K.Instrument.read l.rows)
