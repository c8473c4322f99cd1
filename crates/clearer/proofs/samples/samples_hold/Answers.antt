use Rattle.std.proofs.Common.{refl}
use Rattle.reader.specs.Reading.{ended, read_next}
use Rattle.tasks.specs.Threads.{crew, crew_within}
use Rattle.clearer.proofs.samples.samples_hold.Goals as goal

pub returns : goal.returns
unfolding ended read_next crew crew_within
returns c = refl
