use Rattle.model.proofs.Main.{run_promises}
use Rattle.model.proofs.run_promises.Goals as goal

pub returns : goal.returns
returns g c = run_promises
