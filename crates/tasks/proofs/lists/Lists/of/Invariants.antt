use Rattle.std.proofs.Common.{◌≡◌, take}
use Rattle.tasks.specs.Records.{view_of}
use Rattle.tasks.specs.Roomy.{Roomy}
use Rattle.tasks.proofs.lists.Lists.of.Given as goal

abbrev pub invariant-loop-row : goal.invariant-loop-row
invariant-loop-row l = Roomy l.records → l.lists ≡ view_of (take l.row-index l.records)
