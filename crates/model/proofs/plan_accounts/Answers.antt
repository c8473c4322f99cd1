use Rattle.model.proofs.Plans.{plan-accounts}
use Rattle.model.proofs.plan_accounts.Goals as goal

pub returns : goal.returns
returns g c = plan-accounts
