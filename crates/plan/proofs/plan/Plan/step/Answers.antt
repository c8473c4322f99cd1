use Rattle.std.proofs.Common.{◌+◌, sym, ◌∙◌, arith, rules}
use Rattle.plan.proofs.Checks.{was_checked}
use Rattle.plan.proofs.Kept.{Found, found, step_past}
use Rattle.plan.proofs.plan.Plan.step.Goals as goal
use Rattle.plan.proofs.plan.Plan.step.Goals.{Then-place-entry}

there : (c : Then-place-entry) → Found c.args.self.now.sheet.now c.args.task c.args.place (c.entry-entry.result.first + c.args.place)
there c =
    let p = c.args.self.now in
    found p.sheet.now (was_checked p.text.now p.sheet.now p.read) c.args.task c.args.place c.entry-entry.result c.entry-entry.ensures c.if-place-entry.true

pub overflow_add-entry : goal.overflow_add-entry
overflow_add-entry c = let h = (there (goal.at.overflow_add-entry c).Then-place-entry).inside in search rules

pub offset_bounds-self-entry : goal.offset_bounds-self-entry
offset_bounds-self-entry c = let h = (there (goal.at.offset_bounds-self-entry c).Then-place-entry).inside in search rules

pub bounds-self-entry : goal.bounds-self-entry
bounds-self-entry c = let h = (there (goal.at.bounds-self-entry c).Then-place-entry).inside in omega (arith, h, c.args.self.now.long)

pub step_of-requires : goal.step_of-requires
step_of-requires c = let t = there (goal.at.step_of-requires c).Then-place-entry in (t.known, t.word)

pub returns-then-place-entry : goal.returns-then-place-entry
returns-then-place-entry c = let t = there (goal.at.returns-then-place-entry c).Then-place-entry in c.step_of.ensures ∙ sym t.here

pub returns-else-place-entry : goal.returns-else-place-entry
returns-else-place-entry c =
    let p = c.args.self.now in
    sym (step_past p.sheet.now (was_checked p.text.now p.sheet.now p.read) c.args.task c.args.place c.entry-entry.result c.entry-entry.ensures c.if-place-entry.false)
