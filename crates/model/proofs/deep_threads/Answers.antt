use Rattle.model.proofs.Examples.{deep-threads}
use Rattle.model.proofs.deep_threads.Goals as goal

pub returns : goal.returns
returns c = deep-threads
