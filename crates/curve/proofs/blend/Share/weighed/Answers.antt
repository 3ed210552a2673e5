use Rattle.curve.specs.Blending.{blended_growth}
use Rattle.curve.proofs.blend.Share.weighed.Goals as goal

pub returns : goal.returns
unfolding blended_growth
returns c = cc
