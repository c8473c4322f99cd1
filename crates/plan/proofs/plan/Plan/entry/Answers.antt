use Rattle.std.proofs.Common.{length, ap, ◌∙◌, arith, rules}
use Rattle.index.specs.Entries.{EmptyEntry}
use Rattle.plan.specs.Plans.{records_in}
use Rattle.plan.proofs.Checks.{was_checked}
use Rattle.plan.proofs.Kept.{entry_past, tasks_are}
use Rattle.plan.proofs.plan.Plan.entry.Goals as goal

pub returns-else-task-task_rows : goal.returns-else-task-task_rows
returns-else-task-task_rows c =
    let p = c.args.self.now in
    let same = ap length (c.task_rows.ensures.rows ∙ tasks_are p.lists p.threads p.index p.sheet.now p.made) in
    let none : EmptyEntry c.default.result = search rules in
    entry_past (records_in p.sheet.now) (was_checked p.text.now p.sheet.now p.read) c.args.task c.default.result (omega (arith, c.if-task-task_rows.false, same)) none
