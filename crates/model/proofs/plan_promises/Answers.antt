use Rattle.model.proofs.Plans.{plan_promises}
use Rattle.model.proofs.plan_promises.Goals as goal

pub returns : goal.returns
returns g c = plan_promises
