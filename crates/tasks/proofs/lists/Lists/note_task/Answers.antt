use Rattle.std.proofs.Common.{length, ap, arith, nat_eq}
use Rattle.tasks.specs.Fronts.{front_length}
use Rattle.tasks.specs.Records.{View, no_task}
use Rattle.tasks.proofs.Fronts.{front_more}
use Rattle.tasks.proofs.lists.Lists.note_task.Goals as goal

pub invariant_of-self : goal.invariant_of-self
invariant_of-self c =
    let i = c.self.inside.task_count in
    let xs = c.self.inside.tasks in
    let h = c.self.invariant in
    let few = c.requires (ap (λ n. nat_eq n 84) c.if-row-eq84.true) in
    let size = front_length 24 no_task i xs h.1 in
    let seen = ap (λ v. length (View.tasks v)) c.self.view_is in
    (h.0, front_more 24 no_task i xs c.task_row.result (omega (arith, few, seen, size)) h.1, h.2, h.3)
