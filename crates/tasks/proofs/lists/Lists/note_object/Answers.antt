use Rattle.std.proofs.Common.{length, sym, ap, ◌∙◌, arith}
use Rattle.tasks.specs.Fronts.{front_length}
use Rattle.tasks.specs.Records.{View, no_object}
use Rattle.tasks.proofs.Fronts.{front_more}
use Rattle.tasks.proofs.lists.Lists.note_object.Goals as goal

pub invariant_of-self : goal.invariant_of-self
invariant_of-self c =
    let i = c.self.inside.object_count in
    let xs = c.self.inside.objects in
    let h = c.self.invariant in
    let few = c.requires (sym c.is_object.ensures ∙ c.if-is_object.true) in
    let size = front_length 32 no_object i xs h.0 in
    let seen = ap (λ v. length (View.objects v)) c.self.view_is in
    (front_more 32 no_object i xs c.object_row.result (omega (arith, few, seen, size)) h.0, h.1, h.2, h.3)
