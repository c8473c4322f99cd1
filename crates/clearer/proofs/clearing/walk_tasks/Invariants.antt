use Rattle.plan.specs.Plans.{records_in}
use Rattle.plan.specs.Program.{program_of}
use Rattle.clearer.proofs.Verdict.{Clear}
use Rattle.clearer.proofs.clearing.walk_tasks.Given as goal

abbrev pub invariant-loop-task : goal.invariant-loop-task
invariant-loop-task g l = Clear (program_of g.O.WaitOrder.made (records_in l.plan.sheet.now)) g.O.WaitOrder.below l.task
