use Rattle.model.proofs.Plans.{plan-order}
use Rattle.model.proofs.plan_order_does_not_matter.Goals as goal

pub returns : goal.returns
returns g c = plan-order
