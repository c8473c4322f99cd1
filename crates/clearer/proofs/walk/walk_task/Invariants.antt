use Rattle.std.proofs.Common.{◌≡◌, suc, ◌-◌, ◌≤◌, length}
use Rattle.plan.specs.Plans.{records_in}
use Rattle.plan.specs.Program.{program_of}
use Rattle.clearer.specs.Breach.{first_of, step_breach, task_breach}
use Rattle.clearer.proofs.Walks.{Walked}
use Rattle.clearer.proofs.walk.walk_task.Given as goal

-- what is left of the task gives the answer, and the account is that of the walk
abbrev pub invariant-loop-place : goal.invariant-loop-place
invariant-loop-place g l =
    let P = program_of g.O.WaitOrder.made (records_in l.plan.sheet.now) in
    let n = length (P.ops l.task) in
    (task_breach P g.O.WaitOrder.below l.task ≡ first_of (step_breach P g.O.WaitOrder.below l.task) l.place (suc n - l.place))
    × (l.place ≤ n → Walked P l.task l.place l.account)
