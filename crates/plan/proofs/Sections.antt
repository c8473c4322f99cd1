-- The sections of a text: an operation stands among the operations of a task.
use Rattle.std.proofs.Common.{◌||◌, ◌≡◌, ℕ, zero, suc, ◌+◌, ◌-◌, ◌<◌, Bool, true, false, cond, eqb, ◌⊎◌, List, [], ◌∷◌, length, get_or, take, drop, codes, sym, refl, ap, ◌∙◌, subst, inl, inr, ⊎_elim, arith}
use Rattle.std.specs.List.{prefix_len, AllByRecursion as All}
use Rattle.std.proofs.lemmas.List.{get_or-take, length-take-le}
use Rattle.std.proofs.lemmas.List.Sums.{prefix_len-drop_no, prefix_len-drop_yes}
use Rattle.std.proofs.lemmas.Bool.{eqb-true, false≢true, or_cases, or_parts}
use Rattle.records.specs.declared.record.Record.{Record}
use Rattle.records.specs.declared.rows.TaskRow.{TaskRow}
use Rattle.reader.specs.Lines.{may_follow, section_of}
use Rattle.reader.specs.declared.section.Section.TheVariants.{Nothing, Header, Objects, Carries, Task, Counts, Operations}
use Rattle.tasks.specs.Records.{blank, is_count, is_operation, is_task, last_letter, no_task, tasks_of}
use Rattle.tasks.specs.Threads.{first_operation}
use Rattle.text.specs.Text.{byte, one_of}
use Rattle.plan.specs.Good.{Good}
use Rattle.plan.proofs.Leadings.{by_task, by_whole, leading_on, leading_stops, row_here, tasks_by}
use Rattle.plan.proofs.Rooms.{no}

-- a record with another letter
abbrev pub lettered : Record → ℕ → Record
lettered r c = record { letter = c; first = r.first; second = r.second; number = r.number; extra = r.extra; name = r.name }

-- what holds of a record with this letter holds of a record that has it
pub with_letter : (P : Record → Type 0) (r : Record) (c : ℕ) → P (lettered r c) → eqb r.letter c ≡ true → P r
with_letter P r c h e = subst (λ x. P (lettered r x)) (sym (eqb-true r.letter c e)) h

-- and with each of these letters, of a record that has one of them
with_one : (P : Record → Type 0) (r : Record) (cs : List ℕ) → All (λ c. P (lettered r c)) cs → one_of r.letter cs ≡ true → P r
with_one P r [] h e = no e
with_one P r (c ∷ cs) h e = ⊎_elim (with_letter P r c h.0) (with_one P r cs h.1) (or_cases _ _ e)

pub each_operation : (P : Record → Type 0) (r : Record) → All (λ c. P (lettered r c)) (codes "SRALF") → is_operation r ≡ true → P r
each_operation P r h e = with_one P r (codes "SRALF") h e

pub operation_no_task : (r : Record) → is_operation r ≡ true → is_task r ≡ false
operation_no_task r e = each_operation (λ x. is_task x ≡ false) r (refl, (refl, (refl, (refl, (refl, tt))))) e

pub count_no_task : (r : Record) → is_count r ≡ true → is_task r ≡ false
count_no_task r e = with_letter (λ x. is_task x ≡ false) r (byte "Q") refl e

operation_no_count : (r : Record) → is_operation r ≡ true → is_count r ≡ false
operation_no_count r e = each_operation (λ x. is_count x ≡ false) r (refl, (refl, (refl, (refl, (refl, tt))))) e

pub operation_no_blank : (r : Record) → is_operation r ≡ true → r.letter ≡ 0 → ⊥
operation_no_blank r e z = no (sym (ap (λ c. one_of c (codes "SRALF")) z) ∙ e)

pub count_no_blank : (r : Record) → is_count r ≡ true → r.letter ≡ 0 → ⊥
count_no_blank r e z = no (sym (ap (λ c. eqb c (byte "Q")) z) ∙ e)

-- A letter that may not stand at the start, after the header, after objects or after carries comes in a task.
pub record Inner (c : ℕ) : Type 0 where
  pub nothing : may_follow Nothing c ≡ false
  pub header : may_follow Header c ≡ false
  pub objects : may_follow Objects c ≡ false
  pub carries : may_follow Carries c ≡ false

inner : (c : ℕ) → (may_follow Nothing c || (may_follow Header c || may_follow Carries c)) ≡ false → Inner c
inner c e =
    let later = or_parts _ _ (or_parts (may_follow Nothing c) _ e).1 in
    record { nothing = (or_parts (may_follow Nothing c) _ e).0; header = later.0; objects = later.0; carries = later.1 }

pub count_inner : (r : Record) → is_count r ≡ true → Inner r.letter
count_inner r e = with_letter (λ x. Inner x.letter) r (byte "Q") (inner _ refl) e

pub operation_inner : (r : Record) → is_operation r ≡ true → Inner r.letter
operation_inner r e = each_operation (λ x. Inner x.letter) r (inner _ refl, (inner _ refl, (inner _ refl, (inner _ refl, (inner _ refl, tt))))) e

after_inner : (p o w t q s : Bool) (c : ℕ) → Inner c
    → may_follow (cond p Header (cond o Objects (cond w Carries (cond t Task (cond q Counts (cond s Operations Nothing)))))) c ≡ true
    → (t ≡ true) ⊎ ((q ≡ true) ⊎ ((s ≡ true) × (may_follow Operations c ≡ true)))
after_inner true o w t q s c n e = no (sym n.header ∙ e)
after_inner false true w t q s c n e = no (sym n.objects ∙ e)
after_inner false false true t q s c n e = no (sym n.carries ∙ e)
after_inner false false false true q s c n e = inl refl
after_inner false false false false true s c n e = inr (inl refl)
after_inner false false false false false true c n e = inr (inr (refl, e))
after_inner false false false false false false c n e = no (sym n.nothing ∙ e)

module _ (rs : List Record) (good : (i : ℕ) → i < length rs → ((get_or rs i blank).letter ≡ 0 → ⊥) → Good (take i rs) (get_or rs i blank)) where
  letter_before : (i : ℕ) → i < length rs → last_letter (take (suc i) rs) ≡ (get_or rs i blank).letter
  letter_before i h =
      let size : length (take (suc i) rs) - 1 ≡ i = omega (arith, length-take-le (suc i) rs (omega arith)) in
      ap (λ n. (get_or (take (suc i) rs) n blank).letter) size ∙ ap (λ (r : Record). r.letter) (get_or-take (suc i) rs i blank (omega arith))

  -- what stands before a record of a task
  comes_after : (i : ℕ) → suc i < length rs → ((get_or rs (suc i) blank).letter ≡ 0 → ⊥) → Inner (get_or rs (suc i) blank).letter
      → (is_task (get_or rs i blank) ≡ true) ⊎ ((is_count (get_or rs i blank) ≡ true) ⊎ ((is_operation (get_or rs i blank) ≡ true) × (may_follow Operations (get_or rs (suc i) blank).letter ≡ true)))
  comes_after i h written n =
      let follows : may_follow (section_of (get_or rs i blank).letter) (get_or rs (suc i) blank).letter ≡ true =
      subst (λ c. may_follow (section_of c) (get_or rs (suc i) blank).letter ≡ true) (letter_before i (omega arith)) (good (suc i) h written).follows in
      let c = (get_or rs i blank).letter in
      after_inner (eqb c (byte "P")) (one_of c (codes "CK")) (eqb c (byte "W")) (is_task (get_or rs i blank)) (is_count (get_or rs i blank)) (is_operation (get_or rs i blank))
      (get_or rs (suc i) blank).letter n follows

  pub not_first : Inner (get_or rs 0 blank).letter → ((get_or rs 0 blank).letter ≡ 0 → ⊥) → 0 < length rs → ⊥
  not_first n written h = false≢true (sym n.nothing ∙ (good 0 h written).follows)

  -- the line of task k, and the index of its first operation
  abbrev line_at : ℕ → ℕ
  line_at k = (get_or (tasks_of rs) k no_task).line

  abbrev start_at : ℕ → ℕ
  start_at k = first_operation rs (get_or (tasks_of rs) k no_task)

  task-place : (i : ℕ) → i < length rs → is_task (get_or rs i blank) ≡ true → (tasks_by rs i < length (tasks_of rs)) × (line_at (tasks_by rs i) ≡ suc i)
  task-place i h e =
      let row = ap (λ (t : TaskRow). t.line) (row_here rs i h e) in
      (omega (arith, by_task rs i h e, by_whole rs (i + 1) (omega arith)), omega (arith, row))

  -- a Q line stands among the counts of a task
  count-place : (i : ℕ) → i < length rs → is_count (get_or rs i blank) ≡ true → (k : ℕ) × (c : ℕ) × (k < length (tasks_of rs)) × (c < prefix_len is_count (drop (line_at k) rs)) × (line_at k + c ≡ i)
  count-place zero h e = absurd (not_first (count_inner (get_or rs 0 blank) e) (count_no_blank (get_or rs 0 blank) e) h)
  count-place (suc j) h e =
      ⊎_elim
      (λ (task : is_task (get_or rs j blank) ≡ true).
      let t = task-place j (omega arith) task in
      let more = prefix_len-drop_yes is_count rs (suc j) blank (omega arith) e in
      (tasks_by rs j, 0, t.0, omega (arith, more, ap (λ n. prefix_len is_count (drop n rs)) t.1), omega (arith, t.1)))
      (⊎_elim
      (λ (count : is_count (get_or rs j blank) ≡ true).
      let r = count-place j (omega arith) count in
      let more = leading_on is_count blank rs (line_at r.0) (r.1 + 1) (suc j) (omega (arith, r.4)) (omega (arith, r.3)) (omega arith) e in
      (r.0, r.1 + 1, r.2, more, omega (arith, r.4)))
      (λ (other : (is_operation (get_or rs j blank) ≡ true) × (may_follow Operations (get_or rs (suc j) blank).letter ≡ true)).
      no (sym (with_letter (λ x. may_follow Operations x.letter ≡ false) (get_or rs (suc j) blank) (byte "Q") refl e) ∙ other.1)))
      (comes_after j (omega arith) (count_no_blank (get_or rs (suc j) blank) e) (count_inner (get_or rs (suc j) blank) e))

  -- an operation stands among those of a task
  pub operation-place : (i : ℕ) → i < length rs → is_operation (get_or rs i blank) ≡ true
      → (k : ℕ) × (p : ℕ) × (k < length (tasks_of rs)) × (p < prefix_len is_operation (drop (start_at k) rs)) × (start_at k + p ≡ i)
  operation-place zero h e = absurd (not_first (operation_inner (get_or rs 0 blank) e) (operation_no_blank (get_or rs 0 blank) e) h)
  operation-place (suc j) h e =
      let first = prefix_len-drop_yes is_operation rs (suc j) blank (omega arith) e in
      ⊎_elim
      (λ (task : is_task (get_or rs j blank) ≡ true).
      let t = task-place j (omega arith) task in
      let none = prefix_len-drop_no is_count rs (suc j) blank (omega arith) (operation_no_count (get_or rs (suc j) blank) e) in
      let start : start_at (tasks_by rs j) ≡ suc j = omega (arith, none, t.1, ap (λ n. prefix_len is_count (drop n rs)) t.1) in
      (tasks_by rs j, 0, t.0, omega (arith, first, ap (λ n. prefix_len is_operation (drop n rs)) start), omega (arith, start)))
      (⊎_elim
      (λ (count : is_count (get_or rs j blank) ≡ true).
      let r = count-place j (omega arith) count in
      let size = leading_stops is_count blank rs (line_at r.0) (r.1 + 1) (suc j) (omega (arith, r.4)) (omega (arith, r.3)) (operation_no_count (get_or rs (suc j) blank) e) in
      let start : start_at r.0 ≡ suc j = omega (arith, size, r.4) in
      (r.0, 0, r.2, omega (arith, first, ap (λ n. prefix_len is_operation (drop n rs)) start), omega (arith, start)))
      (λ (operation : (is_operation (get_or rs j blank) ≡ true) × (may_follow Operations (get_or rs (suc j) blank).letter ≡ true)).
      let r = operation-place j (omega arith) operation.0 in
      let more = leading_on is_operation blank rs (start_at r.0) (r.1 + 1) (suc j) (omega (arith, r.4)) (omega (arith, r.3)) (omega arith) e in
      (r.0, r.1 + 1, r.2, more, omega (arith, r.4))))
      (comes_after j (omega arith) (operation_no_blank (get_or rs (suc j) blank) e) (operation_inner (get_or rs (suc j) blank) e))
