use Rattle.std.proofs.Common.{◌≡◌, drop}
use Rattle.reader.specs.Reading.{started_from}
use Rattle.reader.proofs.finish.all_started.Given as goal

-- the tasks that are left decide
abbrev pub invariant-loop-k : goal.invariant-loop-k
invariant-loop-k l = started_from l.records 0 l.rows ≡ started_from l.records l.k (drop l.k l.rows)
