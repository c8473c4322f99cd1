use Rattle.model.proofs.Main.{order_does_not_matter}
use Rattle.model.proofs.order_does_not_matter.Goals as goal

pub returns : goal.returns
returns g c = order_does_not_matter
