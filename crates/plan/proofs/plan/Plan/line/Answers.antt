use Rattle.std.proofs.Common.{◌+◌, ◌<◌, ◌≤◌, length, sym, ap, ◌∙◌, arith, rules}
use Rattle.std.proofs.lemmas.Bool.{cond-false, cond-true, le-ltb, lt-ltb}
use Rattle.tasks.specs.Records.{tasks_of}
use Rattle.tasks.specs.Threads.{body_of}
use Rattle.plan.specs.Plans.{records_in}
use Rattle.plan.proofs.Checks.{was_checked}
use Rattle.plan.proofs.Kept.{found}
use Rattle.plan.proofs.plan.Plan.line.Goals as goal
use Rattle.plan.proofs.plan.Plan.line.Goals.{Then-place-entry}

there : (c : Then-place-entry) → c.entry-entry.result.first + c.args.place < 800
there c =
    let p = c.args.self.now in
    (found p.sheet.now (was_checked p.text.now p.sheet.now p.read) c.args.task c.args.place c.entry-entry.result c.entry-entry.ensures c.if-place-entry.true).inside

pub overflow_add-result : goal.overflow_add-result
overflow_add-result c = let h = there (goal.at.overflow_add-result c).Then-place-entry in search rules

pub overflow_add-result-then-place-entry : goal.overflow_add-result-then-place-entry
overflow_add-result-then-place-entry c = let h = there (goal.at.overflow_add-result-then-place-entry c).Then-place-entry in search rules

pub returns-then-place-entry : goal.returns-then-place-entry
returns-then-place-entry c =
    let e = c.entry-entry.ensures in
    let rs = records_in c.args.self.now.sheet.now in
    let under : c.args.place < length (body_of rs (tasks_of rs) c.args.task) = omega (arith, c.if-place-entry.true, e.operations) in
    ap (λ n. n + c.args.place + 1) e.first ∙ sym (cond-true _ _ _ (lt-ltb c.args.place (length (body_of rs (tasks_of rs) c.args.task)) under))

pub returns-else-place-entry : goal.returns-else-place-entry
returns-else-place-entry c =
    let e = c.entry-entry.ensures in
    let rs = records_in c.args.self.now.sheet.now in
    let past : length (body_of rs (tasks_of rs) c.args.task) ≤ c.args.place = omega (arith, c.if-place-entry.false, e.operations) in
    e.line ∙ sym (cond-false _ _ _ (le-ltb c.args.place (length (body_of rs (tasks_of rs) c.args.task)) past))
