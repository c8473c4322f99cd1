use Rattle.plan.specs.Plans.{records_in}
use Rattle.plan.specs.Program.{program_of}
use Rattle.clearer.proofs.Verdict.{cleared_by, first_by}
use Rattle.clearer.proofs.clearing.clear.Goals as goal

pub returns-clause-cleared : goal.returns-clause-cleared
returns-clause-cleared g c = cleared_by (program_of g.O.WaitOrder.made (records_in c.args.plan.now.sheet.now)) g.O.WaitOrder.below c.walk_tasks.result c.walk_tasks.ensures

pub returns-clause-first : goal.returns-clause-first
returns-clause-first g c = first_by (program_of g.O.WaitOrder.made (records_in c.args.plan.now.sheet.now)) g.O.WaitOrder.below c.walk_tasks.result c.walk_tasks.ensures
