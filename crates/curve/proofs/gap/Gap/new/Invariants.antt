use Rattle.std.proofs.Common.{◌+◌, ◌≤◌, min}
use Rattle.curve.proofs.Sums.{Known}
use Rattle.curve.proofs.gap.Gap.new.Given as goal

abbrev pub invariant-loop-year : goal.invariant-loop-year
invariant-loop-year g l =
    let x = g.K.Instrument.means l.instrument in
    record { within : l.year ≤ min x.maturity (l.last + 1); known : Known l.curve.tables x l.year l.known }
