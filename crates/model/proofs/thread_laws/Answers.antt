use Rattle.model.proofs.Plans.{thread-laws}
use Rattle.model.proofs.thread_laws.Goals as goal

pub returns : goal.returns
returns g c = thread-laws
