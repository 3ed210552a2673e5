use Rattle.std.proofs.Common.{◌<◌, ◌≤◌}
use Rattle.curve.proofs.Sums.{Known}
use Rattle.curve.proofs.gap.Gap.rests.Given as goal

abbrev pub invariant-loop-year : goal.invariant-loop-year
invariant-loop-year g l =
    let x = g.K.Instrument.means l.self.instrument in
    record { later : l.self.last < l.year; within : l.year ≤ x.maturity; known : Known l.tables x l.year l.rests }
