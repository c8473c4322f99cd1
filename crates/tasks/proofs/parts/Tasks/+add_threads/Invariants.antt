use Rattle.std.proofs.Common.{◌≡◌, ◌++◌, drop}
use Rattle.tasks.specs.Threads.{body_of, brought, crew}
use Rattle.tasks.proofs.parts.Tasks.+add_threads.Given as goal

abbrev pub decreases-add_threads : goal.decreases-add_threads
decreases-add_threads l = l.task

-- what was added and what is left make the numbering
abbrev pub invariant-loop-row : goal.invariant-loop-row
invariant-loop-row l =
    l.threads ++ brought (crew (body_of l.self.records.now l.self.rows.now)) l.task (drop l.row-index l.body)
    ≡ l.initial.threads ++ brought (crew (body_of l.self.records.now l.self.rows.now)) l.task l.body
