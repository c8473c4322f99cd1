use Rattle.model.proofs.Completion.{cleared_more}
use Rattle.model.proofs.cleared_more.Goals as goal

pub returns : goal.returns
returns g c = cleared_more
