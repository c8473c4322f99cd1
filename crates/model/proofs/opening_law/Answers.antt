use Rattle.model.proofs.Frames.{opening_law}
use Rattle.model.proofs.opening_law.Goals as goal

pub returns : goal.returns
returns g c = opening_law
