-- The operations of a task: where each stands, what it names, and how many there are.
use Rattle.std.proofs.Common.{◌≡◌, ℕ, zero, suc, ◌+◌, ◌<◌, ◌≤◌, Bool, true, false, List, [], ◌∷◌, ◌++◌, length, get_or, take, drop, sym, refl, ap, ◌∙◌, subst, arith}
use Rattle.std.specs.List.{prefix_len}
use Rattle.std.proofs.lemmas.List.{get_or_append_left, get_or-drop, get_or-take, length-append, length_push, take_all, take-append-drop, take_more}
use Rattle.std.proofs.lemmas.List.Concat.{flat_map-append}
use Rattle.std.proofs.lemmas.List.Folds.{length-prefix_len}
use Rattle.std.proofs.lemmas.Bool.{and_parts, cond_both, cond-false, cond-true, ltb-true}
use Rattle.records.specs.declared.record.Record.{Record}
use Rattle.records.specs.declared.rows.ObjectRow.{ObjectRow}
use Rattle.tasks.specs.Records.{blank, has_room, is_count, is_object, is_operation, is_task, no_object, no_task, object_row, objects_in, objects_of, open_operations, tasks_of}
use Rattle.tasks.specs.Roomy.{Roomy}
use Rattle.tasks.specs.Threads.{body_of, first_operation}
use Rattle.tasks.proofs.Pushed.{objects_push, open_push}
use Rattle.plan.specs.Good.{Uses}
use Rattle.plan.specs.Program.{is_channel}
use Rattle.plan.proofs.Leadings.{by_run, by_task, leading_at, task-line, tasks_by}
use Rattle.plan.proofs.Sections.{count_no_task, each_operation, operation_no_task}

-- operation p of task k: the record at some index, after k + 1 T lines
pub record Stands (rs : List Record) (k p : ℕ) : Type 0 where
  pub at : ℕ
  pub place : at ≡ first_operation rs (get_or (tasks_of rs) k no_task) + p
  pub inside : at < length rs
  pub is : get_or (body_of rs (tasks_of rs) k) p blank ≡ get_or rs at blank
  pub operation : is_operation (get_or rs at blank) ≡ true
  pub tasks : tasks_by rs at ≡ k + 1

pub body_length : (rs : List Record) (k : ℕ) → length (body_of rs (tasks_of rs) k) ≡ prefix_len is_operation (drop (first_operation rs (get_or (tasks_of rs) k no_task)) rs)
body_length rs k = length-prefix_len is_operation (drop (first_operation rs (get_or (tasks_of rs) k no_task)) rs)

pub stands : (rs : List Record) (k p : ℕ) → k < length (tasks_of rs) → p < length (body_of rs (tasks_of rs) k) → Stands rs k p
stands rs k p h l =
    let t = task-line rs k h in
    let line = (get_or (tasks_of rs) k no_task).line in
    let counts = prefix_len is_count (drop line rs) in
    let start = first_operation rs (get_or (tasks_of rs) k no_task) in
    let ops = prefix_len is_operation (drop start rs) in
    let under : p < ops = omega (arith, body_length rs k) in
    let at = leading_at is_operation blank rs start p under in
    let first : tasks_by rs line ≡ k + 1 = ap (tasks_by rs) t.line ∙ by_task rs t.at t.inside t.is-task ∙ ap (λ n. n + 1) t.before in
    record {
      at = start + p;
      place = refl;
      inside = at.0;
      is = get_or-take ops (drop start rs) p blank under ∙ get_or-drop start rs p blank;
      operation = at.1;
      tasks = by_run rs is_operation operation_no_task start p (omega arith) ∙ by_run rs is_count count_no_task line counts (omega arith) ∙ first;
    }

-- objects of the records so far are objects of all records

pub uses_whole : (rs : List Record) (i : ℕ) (b : Bool) (x : ℕ) → Uses (take i rs) b x → Uses rs b x
uses_whole rs i b x u =
    let split : objects_of rs ≡ objects_of (take i rs) ++ objects_of (drop i rs) = ap objects_of (sym (take-append-drop i rs)) ∙ flat_map-append objects_in (take i rs) (drop i rs) in (
      omega (arith, u.0, ap length split, length-append (objects_of (take i rs)) (objects_of (drop i rs))),
      ap (λ (o : ObjectRow). is_channel o.kind) (ap (λ os. get_or os x no_object) split ∙ get_or_append_left (objects_of (take i rs)) (objects_of (drop i rs)) no_object x u.0) ∙ u.1,
    )

-- there are at most 32 objects, and a task has at most 512 operations

object-room : (rs : List Record) (r : Record) → has_room rs r ≡ true → is_object r ≡ true → length (objects_of rs) < 32
object-room rs r h o =
    let b = (and_parts _ _ h).1 in
    ltb-true _ _ (sym (cond-true _ _ _ o) ∙ b)

operation-room : (rs : List Record) (r : Record) → has_room rs r ≡ true → is_object r ≡ false → is_task r ≡ false → is_operation r ≡ true → open_operations rs < 512
operation-room rs r h no-object no-task o =
    let b = (and_parts _ _ h).1 in
    ltb-true _ _ (sym (cond-true _ _ _ o) ∙ sym (cond-false _ _ _ no-task) ∙ sym (cond-false _ _ _ no-object) ∙ b)

operation_no_object : (r : Record) → is_operation r ≡ true → is_object r ≡ false
operation_no_object r e = each_operation (λ x. is_object x ≡ false) r (refl, (refl, (refl, (refl, (refl, tt))))) e

module _ (rs : List Record) (room : Roomy rs) where
  objects_by : (i : ℕ) → i ≤ length rs → length (objects_of (take i rs)) ≤ 32
  objects_by zero h = omega arith
  objects_by (suc i) h =
      let next : suc i ≡ i + 1 = omega arith in
      let r = get_or rs i blank in
      let before : List ObjectRow = objects_of (take i rs) in
      let more : objects_of (take (suc i) rs) ≡ before ++ objects_in r = ap (λ n. objects_of (take n rs)) next ∙ ap objects_of (take_more rs i blank (omega arith)) ∙ objects_push (take i rs) r in
      let none : List ObjectRow = [] in
      subst (λ os. length os ≤ 32) (sym more) (cond_both (is_object r) (object_row r ∷ []) none (λ os. length (before ++ os) ≤ 32)
      (λ yes. omega (arith, length_push before (object_row r), object-room (take i rs) r (room i (omega arith)) yes))
      (λ _. omega (arith, length-append before none, objects_by i (omega arith))))

  pub few_objects : length (objects_of rs) ≤ 32
  few_objects = omega (arith, objects_by (length rs) (omega arith), ap (λ xs. length (objects_of xs)) (take_all (length rs) rs (omega arith)))

  open_more : (i : ℕ) → i < length rs → is_operation (get_or rs i blank) ≡ true → open_operations (take (i + 1) rs) ≡ open_operations (take i rs) + 1
  open_more i h e = ap open_operations (take_more rs i blank h) ∙ open_push 0 (take i rs) (get_or rs i blank) ∙ cond-true _ _ _ e

  -- after p operations of a task at least p stand open
  open_run : (m p : ℕ) → p ≤ prefix_len is_operation (drop m rs) → p ≤ open_operations (take (m + p) rs)
  open_run m zero h = omega arith
  open_run m (suc p) h =
      let at = leading_at is_operation blank rs m p (omega arith) in
      let next : m + p + 1 ≡ m + suc p = omega arith in
      omega (arith, open_run m p (omega arith), open_more (m + p) at.0 at.1, ap (λ n. open_operations (take n rs)) next)

  short_run : (m n : ℕ) → n ≤ prefix_len is_operation (drop m rs) → n ≤ 512
  short_run m zero h = omega arith
  short_run m (suc p) h =
      let at = leading_at is_operation blank rs m p (omega arith) in
      let r = get_or rs (m + p) blank in
      omega (arith, open_run m p (omega arith), operation-room (take (m + p) rs) r (room (m + p) at.0) (operation_no_object r at.1) (operation_no_task r at.1) at.1)

  pub short_body : (k : ℕ) → length (body_of rs (tasks_of rs) k) ≤ 512
  short_body k = short_run (first_operation rs (get_or (tasks_of rs) k no_task)) (length (body_of rs (tasks_of rs) k)) (omega (arith, body_length rs k))
