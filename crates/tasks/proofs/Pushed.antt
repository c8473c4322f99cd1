-- One record more: what it adds to the objects, the tasks and the open operations.
use Rattle.std.proofs.Common.{◌≡◌, ℕ, suc, ◌+◌, true, false, cond, List, [], ◌∷◌, ◌++◌, length, sym, refl, ap, ◌∙◌, arith}
use Rattle.std.proofs.lemmas.List.{flat_map_more, length_push}
use Rattle.records.specs.declared.record.Record.{Record}
use Rattle.records.specs.declared.rows.ObjectRow.{ObjectRow}
use Rattle.records.specs.declared.rows.TaskRow.{TaskRow}
use Rattle.tasks.specs.Records.{View, is_operation, is_task, objects_in, objects_of, open_from, open_operations, pushed, task_row, tasks_from, tasks_in, tasks_of, view_of}

pub objects_push : (rs : List Record) (r : Record) → objects_of (rs ++ r ∷ []) ≡ objects_of rs ++ objects_in r
objects_push rs r = sym (flat_map_more objects_in [] rs r)

pub tasks_push : (n : ℕ) (rs : List Record) (r : Record) → tasks_from n (rs ++ r ∷ []) ≡ tasks_from n rs ++ tasks_in (n + length rs) r
tasks_push n [] r = let e : n ≡ n + 0 = omega arith in ap (λ k. tasks_in k r) e
tasks_push n (x ∷ rs) r =
    let next : n + 1 + length rs ≡ n + suc (length rs) = omega arith in
    let rest : tasks_from (n + 1) (rs ++ r ∷ []) ≡ tasks_from (n + 1) rs ++ tasks_in (n + suc (length rs)) r =
    tasks_push (n + 1) rs r ∙ ap (λ k. tasks_from (n + 1) rs ++ tasks_in k r) next in
    elim (is_task x) as (λ b. cond b (task_row n x ∷ tasks_from (n + 1) (rs ++ r ∷ [])) (tasks_from (n + 1) (rs ++ r ∷ []))
    ≡ cond b (task_row n x ∷ tasks_from (n + 1) rs) (tasks_from (n + 1) rs) ++ tasks_in (n + suc (length rs)) r) [
      | true ↦ ap (λ ts. task_row n x ∷ ts) rest
      | false ↦ rest
    ]

pub open_push : (n : ℕ) (rs : List Record) (r : Record) → open_from n (rs ++ r ∷ []) ≡ cond (is_operation r) (open_from n rs + 1) 0
open_push n [] r = refl
open_push n (x ∷ rs) r = open_push (cond (is_operation x) (n + 1) 0) rs r

-- a view, part by part
abbrev pub view : List ObjectRow → List TaskRow → ℕ → ℕ → View
view objects tasks operations lines = record { objects = objects; tasks = tasks; operations = operations; lines = lines }

pub view_push : (rs : List Record) (r : Record) → view_of (rs ++ r ∷ []) ≡ pushed (view_of rs) r
view_push rs r =
    let line : 1 + length rs ≡ length rs + 1 = omega arith in
    let tasks : tasks_of (rs ++ r ∷ []) ≡ tasks_of rs ++ tasks_in (length rs + 1) r = tasks_push 1 rs r ∙ ap (λ n. tasks_of rs ++ tasks_in n r) line in
    ap (λ os. view os (tasks_of (rs ++ r ∷ [])) (open_operations (rs ++ r ∷ [])) (length (rs ++ r ∷ []))) (objects_push rs r)
    ∙ ap (λ ts. view (objects_of rs ++ objects_in r) ts (open_operations (rs ++ r ∷ [])) (length (rs ++ r ∷ []))) tasks
    ∙ ap (λ n. view (objects_of rs ++ objects_in r) (tasks_of rs ++ tasks_in (length rs + 1) r) n (length (rs ++ r ∷ []))) (open_push 0 rs r)
    ∙ ap (λ n. view (objects_of rs ++ objects_in r) (tasks_of rs ++ tasks_in (length rs + 1) r) (cond (is_operation r) (open_operations rs + 1) 0) n) (length_push rs r)
