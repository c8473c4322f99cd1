use Rattle.model.proofs.Completion.{completes}
use Rattle.model.proofs.completes.Goals as goal

pub returns : goal.returns
returns g c = completes
