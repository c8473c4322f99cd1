use Rattle.std.proofs.Common.{refl}
use Rattle.model.specs.Program.{same}
use Rattle.reader.specs.Reading.{ended, read_next}
use Rattle.clearer.specs.Breach.{first_breach, task_breach}
use Rattle.tasks.specs.Threads.{crew, crew_within}
use Rattle.clearer.proofs.samples.verdicts_hold.Goals as goal

pub returns : goal.returns
unfolding first_breach task_breach same ended read_next crew crew_within
returns c = refl
