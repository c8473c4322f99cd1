use Rattle.model.proofs.Examples.{hoist-runs}
use Rattle.model.proofs.hoist_runs.Goals as goal

pub returns : goal.returns
returns c = hoist-runs
