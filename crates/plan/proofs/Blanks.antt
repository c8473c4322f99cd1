-- Blank records after the records of a text add no task, no operation and no thread.
use Rattle.std.proofs.Common.{◌≡◌, ℕ, zero, suc, ◌+◌, Bool, false, cond, List, [], ◌∷◌, ◌++◌, get_or, take, drop, replicate, refl, ap, ◌∙◌, arith}
use mathlib.Core.Path.{fun_ext}
use Rattle.std.specs.List.{prefix_len}
use Rattle.std.proofs.lemmas.List.{drop_all, take-append-le}
use Rattle.std.proofs.lemmas.List.Sums.{prefix_len-le-length}
use Rattle.std.proofs.lemmas.Bool.{cond-false}
use Rattle.records.specs.declared.record.Record.{Record}
use Rattle.records.specs.declared.rows.TaskRow.{TaskRow}
use Rattle.tasks.specs.Records.{blank, is_count, is_operation, is_task, no_task, task_row, tasks_from, tasks_of}
use Rattle.tasks.specs.Threads.{body_of, crew, first_operation, front, main_task, operations_of, threads_in}

module _ (p : Record → Bool) (fails : p blank ≡ false) where
  leading_blanks : (rs : List Record) (n : ℕ) → prefix_len p (rs ++ replicate n blank) ≡ prefix_len p rs
  leading_blanks [] zero = refl
  leading_blanks [] (suc n) = cond-false _ _ _ fails
  leading_blanks (r ∷ rs) n = ap (λ k. cond (p r) (1 + k) 0) (leading_blanks rs n)

  front_blanks : (rs : List Record) (n : ℕ) → front p (rs ++ replicate n blank) ≡ front p rs
  front_blanks rs n = ap (λ k. take k (rs ++ replicate n blank)) (leading_blanks rs n) ∙ take-append-le (prefix_len p rs) rs (replicate n blank) (prefix_len-le-length p rs)

  -- the same from a place on: `f` is what is said of the rest, and says of blanks what it says of nothing
  from_blanks : {Y : Type 0} (f : List Record → Y) → ((rs : List Record) (n : ℕ) → f (rs ++ replicate n blank) ≡ f rs) → (k : ℕ) (rs : List Record) (n : ℕ) → f (drop k (rs ++ replicate n blank)) ≡ f (drop k rs)
  from_blanks f same zero rs n = same rs n
  from_blanks f same (suc k) [] zero = refl
  from_blanks f same (suc k) [] (suc n) = from_blanks f same k [] n ∙ ap f (drop_all k [] (omega arith))
  from_blanks f same (suc k) (r ∷ rs) n = from_blanks f same k rs n

  pub leading_from : (k : ℕ) (rs : List Record) (n : ℕ) → prefix_len p (drop k (rs ++ replicate n blank)) ≡ prefix_len p (drop k rs)
  leading_from k rs n = from_blanks (prefix_len p) leading_blanks k rs n

  front-from : (k : ℕ) (rs : List Record) (n : ℕ) → front p (drop k (rs ++ replicate n blank)) ≡ front p (drop k rs)
  front-from k rs n = from_blanks (front p) front_blanks k rs n

pub tasks_blanks : (line : ℕ) (rs : List Record) (n : ℕ) → tasks_from line (rs ++ replicate n blank) ≡ tasks_from line rs
tasks_blanks line [] zero = refl
tasks_blanks line [] (suc n) = tasks_blanks (line + 1) [] n
tasks_blanks line (r ∷ rs) n = ap (λ ts. cond (is_task r) (task_row line r ∷ ts) ts) (tasks_blanks (line + 1) rs n)

operations_blanks : (rs : List Record) (n : ℕ) (t : TaskRow) → operations_of (rs ++ replicate n blank) t ≡ operations_of rs t
operations_blanks rs n t =
    ap (λ k. front is_operation (drop (t.line + k) (rs ++ replicate n blank))) (leading_from is_count refl t.line rs n)
    ∙ front-from is_operation refl (first_operation rs t) rs n

body_blanks : (rs : List Record) (n : ℕ) (tasks : List TaskRow) → body_of (rs ++ replicate n blank) tasks ≡ body_of rs tasks
body_blanks rs n tasks = fun_ext (λ k. operations_blanks rs n (get_or tasks k no_task))

pub threads_blanks : (rs : List Record) (n : ℕ) → threads_in (rs ++ replicate n blank) (tasks_of (rs ++ replicate n blank)) ≡ threads_in rs (tasks_of rs)
threads_blanks rs n =
    ap (threads_in (rs ++ replicate n blank)) (tasks_blanks 1 rs n) ∙ ap (λ body. crew body (main_task (tasks_of rs))) (body_blanks rs n (tasks_of rs))
