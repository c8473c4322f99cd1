use Rattle.model.proofs.Bounds.{account_law}
use Rattle.model.proofs.account_law.Goals as goal

pub returns : goal.returns
returns g c = account_law
