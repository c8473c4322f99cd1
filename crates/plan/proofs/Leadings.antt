-- The longest front of a list whose elements all pass, and how many of the records so far are T lines.
use Rattle.std.proofs.Common.{◌≡◌, ℕ, zero, suc, ◌+◌, ◌<◌, ◌≤◌, Bool, true, false, cond, List, [], ◌∷◌, ◌++◌, length, get_or, take, drop, sym, refl, ap, ◌∙◌, ⊎_elim, arith}
use Rattle.std.specs.List.{prefix_len}
use Rattle.std.proofs.lemmas.List.{get_or_at, get_or-drop, length-append, length-drop, length_push, length-take-le, take_all, take-append-drop, take_more, drop_more}
use Rattle.std.proofs.lemmas.List.Sums.{prefix_len-le-length, prefix_len_passes, prefix_len_stops}
use Rattle.std.proofs.lemmas.Bool.{both_ways, cases_Bool, cases_lt, cond-true, cond-false}
use Rattle.records.specs.declared.record.Record.{Record}
use Rattle.records.specs.declared.rows.TaskRow.{TaskRow}
use Rattle.tasks.specs.Records.{blank, is_task, no_task, task_row, tasks_from, tasks_in, tasks_of}

-- the front of the elements from place m on
module _ {A : Type 0} (p : A → Bool) (d : A) (xs : List A) (m : ℕ) where
  -- an element of the front
  pub leading_at : (i : ℕ) → i < prefix_len p (drop m xs) → (m + i < length xs) × (p (get_or xs (m + i) d) ≡ true)
  leading_at i h = (
    omega (arith, prefix_len-le-length p (drop m xs), length-drop m xs),
    ap p (sym (get_or-drop m xs i d)) ∙ prefix_len_passes p (drop m xs) i d h,
  )

  -- the front goes on with an element that passes
  pub leading_on : (i k : ℕ) → m + i ≡ k → i ≤ prefix_len p (drop m xs) → k < length xs → p (get_or xs k d) ≡ true → i < prefix_len p (drop m xs)
  leading_on i k e h l passes =
      ⊎_elim (λ (more : i < prefix_len p (drop m xs)). more)
      (λ (end : prefix_len p (drop m xs) ≤ i).
      let last : m + prefix_len p (drop m xs) ≡ k = omega arith in
      let fails : p (get_or xs k d) ≡ false =
      ap (λ n. p (get_or xs n d)) (sym last) ∙ ap p (sym (get_or-drop m xs _ d)) ∙ prefix_len_stops p (drop m xs) d (omega (arith, length-drop m xs)) in
      absurd (both_ways _ fails passes))
      (cases_lt i (prefix_len p (drop m xs)))

  -- and ends before one that does not
  pub leading_stops : (i k : ℕ) → m + i ≡ k → i ≤ prefix_len p (drop m xs) → p (get_or xs k d) ≡ false → prefix_len p (drop m xs) ≡ i
  leading_stops i k e h fails =
      ⊎_elim
      (λ (more : i < prefix_len p (drop m xs)). absurd (both_ways _ fails (ap (λ n. p (get_or xs n d)) (sym e) ∙ (leading_at i more).1)))
      (λ (end : prefix_len p (drop m xs) ≤ i). omega arith)
      (cases_lt i (prefix_len p (drop m xs)))

-- the T lines among the first i records
abbrev pub tasks_by : List Record → ℕ → ℕ
tasks_by rs i = length (tasks_of (take i rs))

tasks-append : (n m : ℕ) (xs ys : List Record) → n + length xs ≡ m → tasks_from n (xs ++ ys) ≡ tasks_from n xs ++ tasks_from m ys
tasks-append n m [] ys e = ap (λ k. tasks_from k ys) (omega arith)
tasks-append n m (x ∷ xs) ys e =
    let rest = tasks-append (n + 1) m xs ys (omega arith) in
    elim (is_task x) as (λ b. cond b (task_row n x ∷ tasks_from (n + 1) (xs ++ ys)) (tasks_from (n + 1) (xs ++ ys))
    ≡ cond b (task_row n x ∷ tasks_from (n + 1) xs) (tasks_from (n + 1) xs) ++ tasks_from m ys) [
      | true ↦ ap (λ ts. task_row n x ∷ ts) rest
      | false ↦ rest
    ]

module _ (rs : List Record) where
  tasks_more : (i : ℕ) → i < length rs → tasks_of (take (i + 1) rs) ≡ tasks_of (take i rs) ++ tasks_in (1 + i) (get_or rs i blank)
  tasks_more i h =
      ap tasks_of (take_more rs i blank h) ∙ tasks-append 1 (1 + i) (take i rs) (get_or rs i blank ∷ []) (omega (arith, length-take-le i rs (omega arith)))

  pub by_task : (i : ℕ) → i < length rs → is_task (get_or rs i blank) ≡ true → tasks_by rs (i + 1) ≡ tasks_by rs i + 1
  by_task i h e =
      let row = task_row (1 + i) (get_or rs i blank) in
      ap length (tasks_more i h ∙ ap (λ ts. tasks_of (take i rs) ++ ts) (cond-true _ (row ∷ []) [] e)) ∙ length_push (tasks_of (take i rs)) row

  by_other : (i : ℕ) → i < length rs → is_task (get_or rs i blank) ≡ false → tasks_by rs (i + 1) ≡ tasks_by rs i
  by_other i h e =
      let row = task_row (1 + i) (get_or rs i blank) in
      let none : List TaskRow = [] in
      let size = ap length (tasks_more i h ∙ ap (λ ts. tasks_of (take i rs) ++ ts) (cond-false _ (row ∷ []) [] e)) in
      omega (arith, size, length-append (tasks_of (take i rs)) none)

  tasks-split : (i : ℕ) → i ≤ length rs → tasks_of rs ≡ tasks_of (take i rs) ++ tasks_from (1 + i) (drop i rs)
  tasks-split i h = ap tasks_of (sym (take-append-drop i rs)) ∙ tasks-append 1 (1 + i) (take i rs) (drop i rs) (omega (arith, length-take-le i rs h))

  pub by_whole : (i : ℕ) → i ≤ length rs → tasks_by rs i ≤ length (tasks_of rs)
  by_whole i h = omega (arith, ap length (tasks-split i h), length-append (tasks_of (take i rs)) (tasks_from (1 + i) (drop i rs)))

  -- the row of a T line
  pub row_here : (i : ℕ) → i < length rs → is_task (get_or rs i blank) ≡ true → get_or (tasks_of rs) (tasks_by rs i) no_task ≡ task_row (1 + i) (get_or rs i blank)
  row_here i h e =
      let row = task_row (1 + i) (get_or rs i blank) in
      let more = tasks_from (1 + i + 1) (drop (i + 1) rs) in
      let split : tasks_of rs ≡ tasks_of (take i rs) ++ row ∷ more =
      tasks-split i (omega arith) ∙ ap (λ xs. tasks_of (take i rs) ++ tasks_from (1 + i) xs) (drop_more rs i blank h)
      ∙ ap (λ ts. tasks_of (take i rs) ++ ts) (cond-true _ (row ∷ more) more e) in
      ap (λ ts. get_or ts (tasks_by rs i) no_task) split ∙ get_or_at (tasks_of (take i rs)) row more no_task (tasks_by rs i) refl

  -- and the T line of a row
  task-at : (i k : ℕ) → i ≤ length rs → k < tasks_by rs i → (j : ℕ) × (j < i) × (is_task (get_or rs j blank) ≡ true) × (tasks_by rs j ≡ k)
  task-at zero k h l = absurd (omega arith)
  task-at (suc i) k h l =
      ⊎_elim
      (λ (earlier : k < tasks_by rs i). let r = task-at i k (omega arith) earlier in (r.0, omega (arith, r.1), r.2, r.3))
      (λ (here : tasks_by rs i ≤ k).
      let next : i + 1 ≡ suc i = omega arith in
      let count = ap (tasks_by rs) next in
      ⊎_elim
      (λ (yes : is_task (get_or rs i blank) ≡ true). (i, omega arith, yes, omega (arith, by_task i (omega arith) yes, count)))
      (λ (other : is_task (get_or rs i blank) ≡ false). absurd (omega (arith, by_other i (omega arith) other, count)))
      (cases_Bool (is_task (get_or rs i blank))))
      (cases_lt k (tasks_by rs i))

  -- records that are no T lines leave the number of tasks
  pub by_run : (p : Record → Bool) → ((r : Record) → p r ≡ true → is_task r ≡ false) → (m n : ℕ) → n ≤ prefix_len p (drop m rs) → tasks_by rs (m + n) ≡ tasks_by rs m
  by_run p other m zero h = ap (tasks_by rs) (omega arith)
  by_run p other m (suc n) h =
      let next : m + suc n ≡ m + n + 1 = omega arith in
      let at = leading_at p blank rs m n (omega arith) in
      ap (tasks_by rs) next ∙ by_other (m + n) at.0 (other _ at.1) ∙ by_run p other m n (omega arith)

-- the T line of task k: its index, how many tasks come before it, and the line of its row
pub record TaskLine (rs : List Record) (k : ℕ) : Type 0 where
  pub at : ℕ
  pub inside : at < length rs
  pub is-task : is_task (get_or rs at blank) ≡ true
  pub before : tasks_by rs at ≡ k
  pub line : (get_or (tasks_of rs) k no_task).line ≡ at + 1

pub task-line : (rs : List Record) (k : ℕ) → k < length (tasks_of rs) → TaskLine rs k
task-line rs k h =
    let whole : rs ≡ take (length rs) rs = sym (take_all (length rs) rs (omega arith)) in
    let r = task-at rs (length rs) k (omega arith) (omega (arith, ap (λ xs. length (tasks_of xs)) whole)) in
    let row = ap (λ (t : TaskRow). t.line) (ap (λ n. get_or (tasks_of rs) n no_task) (sym r.3) ∙ row_here rs r.0 r.1 r.2) in
    record { at = r.0; inside = r.1; is-task = r.2; before = r.3; line = omega (arith, row) }
