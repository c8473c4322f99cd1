use Rattle.std.proofs.Common.{◌≡◌, ℕ, ◌<◌, List, length, sym, sum_by, ap, ◌∙◌, subst, arith}
use Rattle.std.proofs.lemmas.List.{length-take-le}
use Rattle.records.specs.declared.rows.TaskRow.{TaskRow}
use Rattle.index.specs.Entries.{Indexed}
use Rattle.tasks.specs.Records.{View, tasks_of}
use Rattle.tasks.specs.Threads.{moves_of, sends_of, threads_in}
use Rattle.plan.specs.Plans.{plan_threads, records_in}
use Rattle.plan.proofs.Wholes.{Whole, whole}
use Rattle.plan.proofs.plan.Plan.new.Given as given
use Rattle.plan.proofs.plan.Plan.new.Goals as goal
use Rattle.plan.proofs.plan.Plan.new.Goals.{After-of}

-- what the check says, and the tasks of the lists
says : (g : given.Over) (c : After-of g) → Whole c.args.sheet.now
says g c = whole g.O.WrittenOrder.written c.args.text.now c.args.sheet.now c.requires

tasks : (g : given.Over) (c : After-of g) → c.task_rows.result.now ≡ tasks_of (records_in c.args.sheet.now)
tasks g c = c.task_rows.ensures.rows ∙ ap (λ (v : View). v.tasks) (c.of-lists.ensures (says g c).roomy)

-- a count over the threads, by equal tasks and equal threads
counted : (f : List TaskRow → ℕ → ℕ) {n : ℕ} {ts us : List TaskRow} {xs ys : List ℕ} → n ≡ sum_by (f ts) xs → ts ≡ us → xs ≡ ys → n ≡ sum_by (f us) ys
counted f {us} {xs} e rows threads = e ∙ ap (λ ts. sum_by (f ts) xs) rows ∙ ap (sum_by (f us)) threads

pub unreachable-requires : goal.unreachable-requires
unreachable-requires g c =
    let a = (goal.at.unreachable-requires g c).After-of in
    let more = subst (λ ts. 64 < length (threads_in (records_in c.args.sheet.now) ts)) (tasks g a) c.in_default.ensures in
    omega (arith, more, (says g a).few-threads)

pub invariant_of-result : goal.invariant_of-result
invariant_of-result g c =
    let sheet = c.args.sheet.now in
    let a = (goal.at.invariant_of-result g c).After-of in
    let w = says g a in
    let law = g.met.O.WrittenOrder.one_or_two in
    let rows : c.in-Some.threads ≡ plan_threads sheet = subst (λ ts. c.in-Some.threads ≡ threads_in (records_in sheet) ts) (tasks g a) c.in-Some.ensures in
    record {
      read = ∣ (g.O.WrittenOrder.written, law.0, law.1, c.requires) ∣₁;
      long = w.long;
      made = ∣ record { listed = c.of-2.ensures ∙ c.of-lists.ensures w.roomy; crew = c.of-3.ensures ∙ rows; indexed = subst (λ ts. Indexed (records_in sheet) ts c.of-index.result) (tasks g a) c.of-index.ensures } ∣₁;
      crew = c.of-3.ensures ∙ rows;
      counts = (counted (moves_of (records_in sheet)) c.moves-moves.ensures (tasks g a) rows, counted (sends_of (records_in sheet)) c.sends-sends.ensures (tasks g a) rows);
    }

pub slice_bounds-records-end : goal.slice_bounds-records-end
slice_bounds-records-end g c =
    let w = whole g.O.WrittenOrder.written c.args.text.now c.args.sheet.now c.requires in
    sym (length-take-le 800 c.args.sheet.now w.long)
