-- What a plan keeps: its lists and its index are those of its sheet.
use Rattle.std.proofs.Common.{◌≡◌, ℕ, ◌+◌, ◌<◌, ◌≤◌, true, List, [], length, get_or, pos, sym, ap, ◌∙◌, subst, ⊎_elim, arith}
use mathlib.Core.Logic.{∥∥₁_elim}
use native.Mathlib.Nat.{ℕ_set}
use base.Stored.{Coded-set, coded_list, coded_ℤ}
use Rattle.std.proofs.lemmas.List.{get_or_past, get_or-take, length-map, length-take}
use Rattle.std.proofs.lemmas.Bool.{cases_lt}
use Rattle.model.specs.Program.{closing, operation, step_at}
use Rattle.model.proofs.Breaches.{end_step}
use Rattle.index.specs.Amounts.{amount_at, carried_by, counted_on}
use Rattle.index.specs.Entries.{EmptyEntry, EntryOf, no_entry}
use Rattle.index.specs.declared.entry.TaskEntry.{TaskEntry}
use Rattle.index.specs.declared.index.Index.{Index}
use Rattle.records.specs.declared.record.Record.{Record}
use Rattle.records.specs.declared.rows.TaskRow.{TaskRow}
use Rattle.records.specs.contracts.rows.ObjectRow as object-row
use Rattle.records.specs.contracts.rows.TaskRow as task-row
use Rattle.tasks.specs.Records.{View, blank, is_operation, is_send, no_task, objects_of, tasks_of}
use Rattle.tasks.specs.Threads.{body_of, operations_of}
use Rattle.plan.specs.Good.{Checked, Word}
use Rattle.plan.specs.Made.{Made}
use Rattle.plan.specs.Plans.{records_in}
use Rattle.plan.specs.Program.{op_of, task_at, task_ops}
use Rattle.plan.proofs.Bodies.{stands}
use Rattle.plan.proofs.Edges.{past_counts, past_first, past_operations}
use Rattle.plan.proofs.Sounds.{good-operation, step-here}

module _ (lists : View) (threads : List ℕ) (index : Index) (sheet : List Record) (made : ∥ Made lists threads index sheet ∥₁) where
  pub objects_are : lists.objects ≡ objects_of (records_in sheet)
  objects_are = ∥∥₁_elim made (Coded-set (coded_list (object-row.the_row).coded) _ _) (λ m. ap (λ (v : View). v.objects) m.listed)

  pub tasks_are : lists.tasks ≡ tasks_of (records_in sheet)
  tasks_are = ∥∥₁_elim made (Coded-set (coded_list (task-row.the_row).coded) _ _) (λ m. ap (λ (v : View). v.tasks) m.listed)

  pub carried-is : (c d : ℕ) → c < 32 → d < 32 → amount_at index.carried c d ≡ pos (carried_by (records_in sheet) c d)
  carried-is c d h k = ∥∥₁_elim made (Coded-set coded_ℤ _ _) (λ m. m.indexed.carried c d h k)

  entry_prop : (rs : List Record) (t : TaskRow) (e : TaskEntry) → IsProp (EntryOf rs t e)
  entry_prop rs t e x y = λ i. record {
    line = ℕ_set _ _ x.line y.line i;
    first = ℕ_set _ _ x.first y.first i;
    operations = ℕ_set _ _ x.operations y.operations i;
    opening = λ n h. Coded-set coded_ℤ _ _ (x.opening n h) (y.opening n h) i;
  }

  pub entry_is : (k : ℕ) → k < 24 → k < length (tasks_of (records_in sheet)) → EntryOf (records_in sheet) (task_at (records_in sheet) k) (get_or index.tasks k no_entry)
  entry_is k few h = ∥∥₁_elim made (entry_prop _ _ _) (λ m. m.indexed.entries k few h)

-- past the tasks
pub entry_past : (rs : List Record) → Checked rs → (k : ℕ) (e : TaskEntry) → length (tasks_of rs) ≤ k → EmptyEntry e → EntryOf rs (task_at rs k) e
entry_past rs C k e far none =
    subst (λ t. EntryOf rs t e) (sym (get_or_past (tasks_of rs) k no_task far))
    (record {
      line = none.line;
      first = none.first ∙ sym (past_first rs C);
      operations = none.operations ∙ sym (ap length (past_operations rs C));
      opening = λ x h. none.opening x h ∙ sym (ap (λ qs. counted_on qs x) (past_counts rs C));
    })

pub operations_counted : (rs : List Record) (k : ℕ) (e : TaskEntry) → EntryOf rs (task_at rs k) e → e.operations ≡ length (task_ops rs k)
operations_counted rs k e is = is.operations ∙ sym (length-map (body_of rs (tasks_of rs) k) op_of)

-- an operation of a task, where the index finds it
pub record Found (sheet : List Record) (k p at : ℕ) : Type 0 where
  pub inside : at < 800
  pub is : get_or (records_in sheet) at blank ≡ get_or sheet at blank
  pub known : is_operation (get_or sheet at blank) ≡ true
  pub word : is_send (get_or sheet at blank) ≡ true → Word (get_or sheet at blank).number
  pub here : step_at (task_ops (records_in sheet) k) p ≡ operation (op_of (get_or sheet at blank))

module _ (sheet : List Record) (C : Checked (records_in sheet)) where
  -- a task that has an operation exists
  known-task : (k p : ℕ) → p < length (body_of (records_in sheet) (tasks_of (records_in sheet)) k) → k < length (tasks_of (records_in sheet))
  known-task k p h =
      ⊎_elim (λ (l : k < length (tasks_of (records_in sheet))). l)
      (λ (far : length (tasks_of (records_in sheet)) ≤ k).
      let none : body_of (records_in sheet) (tasks_of (records_in sheet)) k ≡ [] = ap (operations_of (records_in sheet)) (get_or_past (tasks_of (records_in sheet)) k no_task far) ∙ past_operations (records_in sheet) C in
      absurd (omega (arith, h, ap length none)))
      (cases_lt k (length (tasks_of (records_in sheet))))

  pub found : (k p : ℕ) (e : TaskEntry) → EntryOf (records_in sheet) (task_at (records_in sheet) k) e → p < e.operations → Found sheet k p (e.first + p)
  found k p e is h =
      let rs = records_in sheet in
      let under : p < length (body_of rs (tasks_of rs) k) = omega (arith, h, is.operations) in
      let s = stands rs k p (known-task k p under) under in
      let place : e.first + p ≡ s.at = ap (λ n. n + p) is.first ∙ sym s.place in
      let in-rs : e.first + p < length rs = omega (arith, place, s.inside) in
      let few : e.first + p < 800 = omega (arith, in-rs, length-take 800 sheet) in
      let same : get_or rs (e.first + p) blank ≡ get_or sheet (e.first + p) blank = get_or-take 800 sheet (e.first + p) blank few in
      let row : get_or rs s.at blank ≡ get_or sheet (e.first + p) blank = ap (λ n. get_or rs n blank) (sym place) ∙ same in
      let op : is_operation (get_or sheet (e.first + p) blank) ≡ true = ap is_operation (sym row) ∙ s.operation in
      let good = good-operation rs C s.at s.inside s.operation in
      record {
        inside = few;
        is = same;
        known = op;
        word = λ f. subst (λ (r : Record). Word r.number) row (good.sends (ap is_send row ∙ f)).1;
        here = step-here (body_of rs (tasks_of rs) k) p under ∙ ap (λ (r : Record). operation (op_of r)) (s.is ∙ row);
      }

  pub step_past : (k p : ℕ) (e : TaskEntry) → EntryOf (records_in sheet) (task_at (records_in sheet) k) e → e.operations ≤ p → step_at (task_ops (records_in sheet) k) p ≡ closing
  step_past k p e is h = end_step (task_ops (records_in sheet) k) p (omega (arith, h, operations_counted (records_in sheet) k e is))
