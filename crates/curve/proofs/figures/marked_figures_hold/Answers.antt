use Rattle.std.proofs.Common.{refl}
use Rattle.curve.proofs.Marked.{all_marked}
use Rattle.curve.proofs.figures.marked_figures_hold.Goals as goal

-- src/figures.rt:7:1
pub returns : goal.returns
returns c = record { count = refl; hold = all_marked }
