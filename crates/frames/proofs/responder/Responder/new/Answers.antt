use Rattle.frames.proofs.Promised.{kept}
use Rattle.frames.proofs.responder.Responder.new.Goals as goal

pub returns-clause-promise : goal.returns-clause-promise
returns-clause-promise c = kept
