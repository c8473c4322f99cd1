use Rattle.std.proofs.Common.{◌≡◌, ◌+◌, ◌≤◌, length, drop}
use Rattle.tasks.specs.Threads.{body_of, brought, crew}
use Rattle.tasks.proofs.parts.Tasks.+few_threads.Given as goal

abbrev pub decreases-few_threads : goal.decreases-few_threads
decreases-few_threads l = l.task

-- what was counted and what is left make the threads of the task
abbrev pub invariant-loop-row : goal.invariant-loop-row
invariant-loop-row l =
    (l.n ≤ 64)
    × (length (crew (body_of l.self.records.now l.self.rows.now) l.task) ≡ l.n + length (brought (crew (body_of l.self.records.now l.self.rows.now)) l.task (drop l.row-index l.body)))
