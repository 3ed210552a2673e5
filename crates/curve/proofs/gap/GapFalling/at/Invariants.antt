use Rattle.std.proofs.Common.{◌+◌, ◌*◌, ◌≤◌}
use Rattle.curve.specs.Range.{unit}
use Rattle.curve.specs.Steps.{side_of}
use Rattle.curve.proofs.Sums.{Gone}
use Rattle.curve.proofs.gap.GapFalling.at.Given as goal

-- factor and worth of the years before `year`
abbrev pub invariant-loop-year : goal.invariant-loop-year
invariant-loop-year g l = record {
  gone : Gone l.side (side_of l.side l.self.known) (side_of l.side l.self.start) l.self.last (g.K.Instrument.means l.self.instrument).payment l.growth l.year l.factor l.worth;
  factor_small : l.factor ≤ unit;
  worth_small : l.worth ≤ 240000000000000000 + 2000000000000000 * l.year;
}
