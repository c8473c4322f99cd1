-- Past the tasks and the objects of checked records there is nothing.
use Rattle.std.proofs.Common.{◌≡◌, ℕ, suc, ◌+◌, ◌<◌, ◌≤◌, true, false, cond, ◌&&◌, eqb, ◌⊎◌, List, [], ◌∷◌, length, get_or, take, drop, ℤ, pos, refl, ap, ◌∙◌, inr, ⊎_elim, arith}
use Rattle.std.specs.List.{prefix_len}
use Rattle.std.proofs.lemmas.List.{get_or-drop, get_or_past, get_or-take, length-take-le}
use Rattle.std.proofs.lemmas.List.Sums.{prefix_len-le-length}
use Rattle.std.proofs.lemmas.Bool.{and_parts, cases_Bool, cases_lt, eqb-true}
use Rattle.index.specs.Amounts.{carried_by, carries_of, counted_on, natural}
use Rattle.records.specs.declared.record.Record.{Record}
use Rattle.tasks.specs.Records.{blank, is_count, is_operation, no_task}
use Rattle.tasks.specs.Threads.{counts_of, first_operation, operations_of}
use Rattle.plan.specs.Good.{Checked, is_carry}
use Rattle.plan.specs.Meaning.{Narrow}
use Rattle.plan.specs.Program.{program_of, task_at}
use Rattle.plan.proofs.Bodies.{few_objects, uses_whole}
use Rattle.plan.proofs.Leadings.{leading_at, leading_stops}
use Rattle.plan.proofs.Limits.{carry_no_blank}
use Rattle.plan.proofs.Sections.{count_inner, count_no_blank, not_first, operation_inner, operation_no_blank}

module _ (rs : List Record) (C : Checked rs) where
  -- the first record stands in no task
  first_no_count : is_count (get_or rs 0 blank) ≡ false
  first_no_count =
      ⊎_elim
      (λ (some : 0 < length rs).
      ⊎_elim
      (λ (yes : is_count (get_or rs 0 blank) ≡ true). absurd (not_first rs C.good (count_inner (get_or rs 0 blank) yes) (count_no_blank (get_or rs 0 blank) yes) some))
      (λ (other : is_count (get_or rs 0 blank) ≡ false). other)
      (cases_Bool (is_count (get_or rs 0 blank))))
      (λ (none : length rs ≤ 0). ap is_count (get_or_past rs 0 blank none))
      (cases_lt 0 (length rs))

  first_no_operation : is_operation (get_or rs 0 blank) ≡ false
  first_no_operation =
      ⊎_elim
      (λ (some : 0 < length rs).
      ⊎_elim
      (λ (yes : is_operation (get_or rs 0 blank) ≡ true). absurd (not_first rs C.good (operation_inner (get_or rs 0 blank) yes) (operation_no_blank (get_or rs 0 blank) yes) some))
      (λ (other : is_operation (get_or rs 0 blank) ≡ false). other)
      (cases_Bool (is_operation (get_or rs 0 blank))))
      (λ (none : length rs ≤ 0). ap is_operation (get_or_past rs 0 blank none))
      (cases_lt 0 (length rs))

  no-counts : prefix_len is_count rs ≡ 0
  no-counts = leading_stops is_count blank rs 0 0 0 (omega arith) (omega arith) first_no_count

  no-operations : prefix_len is_operation rs ≡ 0
  no-operations = leading_stops is_operation blank rs 0 0 0 (omega arith) (omega arith) first_no_operation

  pub past_first : first_operation rs no_task ≡ 0
  past_first = omega (arith, no-counts)

  pub past_counts : counts_of rs no_task ≡ []
  past_counts = ap (λ n. take n rs) no-counts

  pub past_operations : operations_of rs no_task ≡ []
  past_operations = ap (λ n. take (prefix_len is_operation (drop n rs)) (drop n rs)) past_first ∙ ap (λ n. take n rs) no-operations

  -- what W and Q lines name are objects, of which there are at most 32

  carry_names : (i : ℕ) → i < length rs → is_carry (get_or rs i blank) ≡ true → ((get_or rs i blank).first < 32) × ((get_or rs i blank).second < 32)
  carry_names i h e =
      let g = (C.good i h (carry_no_blank (get_or rs i blank) e)).carries e in
      let few = few_objects rs C.roomy in
      (omega (arith, few, (uses_whole rs i true _ g.0).0), omega (arith, few, (uses_whole rs i true _ g.1).0))

  count_names : (i : ℕ) → i < length rs → is_count (get_or rs i blank) ≡ true → (get_or rs i blank).first < 32
  count_names i h e =
      let g = (C.good i h (count_no_blank (get_or rs i blank) e)).counts e in
      omega (arith, few_objects rs C.roomy, (uses_whole rs i true _ g.0).0)

carried_none : (xs : List Record) (c d : ℕ) → ((i : ℕ) → i < length xs → is_carry (get_or xs i blank) ≡ true → ((get_or xs i blank).first ≡ c → (get_or xs i blank).second ≡ d → ⊥)) → carried_by xs c d ≡ 0
carried_none [] c d h = refl
carried_none (r ∷ xs) c d h =
    (elim (carries_of r c d) as (λ b. carries_of r c d ≡ b → cond b (natural r.number) (carried_by xs c d) ≡ 0) [
      | true ↦ λ e.
          let w = and_parts (is_carry r) (eqb r.first c && eqb r.second d) e in
          let p = and_parts (eqb r.first c) (eqb r.second d) w.1 in
          absurd (h 0 (omega arith) w.0 (eqb-true r.first c p.0) (eqb-true r.second d p.1))
      | false ↦ λ e. carried_none xs c d (λ i l. h (suc i) (omega arith))
    ]) refl

counted_none : (xs : List Record) (x : ℕ) → ((i : ℕ) → i < length xs → ((get_or xs i blank).first ≡ x → ⊥)) → counted_on xs x ≡ pos 0
counted_none [] x h = refl
counted_none (r ∷ xs) x h =
    (elim (eqb r.first x) as (λ b. eqb r.first x ≡ b → cond b r.number (counted_on xs x) ≡ pos 0) [
      | true ↦ λ e. absurd (h 0 (omega arith) (eqb-true r.first x e))
      | false ↦ λ e. counted_none xs x (λ i l. h (suc i) (omega arith))
    ]) refl

module _ (rs : List Record) (C : Checked rs) where
  pub carried_past : (c d : ℕ) → (32 ≤ c) ⊎ (32 ≤ d) → carried_by rs c d ≡ 0
  carried_past c d far =
      carried_none rs c d (λ i h e f s.
      let n = carry_names rs C i h e in
      ⊎_elim (λ (l : 32 ≤ c). omega (arith, n.0)) (λ (l : 32 ≤ d). omega (arith, n.1)) far)

  counts_name : (m i : ℕ) → i < prefix_len is_count (drop m rs) → (get_or (take (prefix_len is_count (drop m rs)) (drop m rs)) i blank).first < 32
  counts_name m i h =
      let at = leading_at is_count blank rs m i h in
      let is : get_or (take (prefix_len is_count (drop m rs)) (drop m rs)) i blank ≡ get_or rs (m + i) blank = get_or-take (prefix_len is_count (drop m rs)) (drop m rs) i blank h ∙ get_or-drop m rs i blank in
      let few = count_names rs C (m + i) at.0 at.1 in
      omega (arith, few, ap (λ (r : Record). r.first) is)

  pub counted_past : (k x : ℕ) → 32 ≤ x → counted_on (counts_of rs (task_at rs k)) x ≡ pos 0
  counted_past k x far =
      let line = (task_at rs k).line in
      counted_none (counts_of rs (task_at rs k)) x (λ i h e.
      omega (arith, counts_name line i (omega (arith, h, length-take-le (prefix_len is_count (drop line rs)) (drop line rs) (prefix_len-le-length is_count (drop line rs))))))

  pub narrow_program : {Level : Type 0} (made : ℤ → ℤ → Level) → Narrow (program_of made rs)
  narrow_program made = record {
    carried = λ c x h. carried_past c x (inr h);
    opened = λ k x h. counted_past k x h;
  }
