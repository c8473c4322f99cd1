-- The program that checked records mean keeps the limits of a text.
use Rattle.std.proofs.Common.{◌≡◌, ℕ, suc, ◌+◌, ◌<◌, ◌≤◌, true, ◌&&◌, eqb, List, [], ◌∷◌, length, get_or, take, drop, ℤ, pos, negsuc, ◌≤ℤ◌, sym, ap, ◌∙◌, subst, arith}
use lib.Signed.{le_z_yes}
use Rattle.std.specs.List.{prefix_len}
use Rattle.std.proofs.lemmas.List.{get_or-drop, get_or-take, length-map}
use Rattle.std.proofs.lemmas.List.Folds.{length-prefix_len}
use Rattle.std.proofs.lemmas.Int.{ints}
use Rattle.std.proofs.lemmas.Bool.{and_parts, cond_both}
use Rattle.model.specs.Accounts.{Near}
use Rattle.model.specs.Threads.{Limited}
use Rattle.records.specs.declared.record.Record.{Record}
use Rattle.tasks.specs.Records.{blank, is_count, no_task, tasks_of}
use Rattle.tasks.specs.Threads.{body_of, counts_of}
use Rattle.text.specs.Text.{byte}
use Rattle.plan.specs.Good.{Checked, is_carry}
use Rattle.index.specs.Amounts.{carried_by, counted_on, natural}
use Rattle.plan.specs.Program.{op_of, program_of}
use Rattle.plan.proofs.Bodies.{short_body}
use Rattle.plan.proofs.Leadings.{leading_at}
use Rattle.plan.proofs.Rooms.{no}
use Rattle.plan.proofs.Sections.{count_no_blank}

counted_near : (xs : List Record) (x : ℕ) → ((i : ℕ) → i < length xs → Near 100 (get_or xs i blank).number) → Near 100 (counted_on xs x)
counted_near [] x h = (le_z_yes tt, le_z_yes tt)
counted_near (r ∷ xs) x h = cond_both (eqb r.first x) r.number (counted_on xs x) (Near 100) (λ _. h 0 (omega arith)) (λ _. counted_near xs x (λ i l. h (suc i) (omega arith)))

carried-few : (xs : List Record) (c d : ℕ) → ((i : ℕ) → i < length xs → is_carry (get_or xs i blank) ≡ true → natural (get_or xs i blank).number ≤ 100) → carried_by xs c d ≤ 100
carried-few [] c d h = omega arith
carried-few (r ∷ xs) c d h =
    cond_both (is_carry r && (eqb r.first c && eqb r.second d)) (natural r.number) (carried_by xs c d) (λ n. n ≤ 100)
    (λ e. h 0 (omega arith) (and_parts (is_carry r) _ e).0)
    (λ _. carried-few xs c d (λ i l. h (suc i) (omega arith)))

natural-few : (z : ℤ) → z ≤ℤ pos 100 → natural z ≤ 100
natural-few (pos n) h = omega (arith, ints)
natural-few (negsuc n) h = omega arith

pub carry_no_blank : (r : Record) → is_carry r ≡ true → r.letter ≡ 0 → ⊥
carry_no_blank r e z = no (sym (ap (λ c. eqb c (byte "W")) z) ∙ e)

module _ (rs : List Record) (C : Checked rs) where
  count_near : (i : ℕ) → i < length rs → is_count (get_or rs i blank) ≡ true → Near 100 (get_or rs i blank).number
  count_near i h e = ((C.good i h (count_no_blank (get_or rs i blank) e)).counts e).1

  counts_near : (m i : ℕ) → i < prefix_len is_count (drop m rs) → Near 100 (get_or (take (prefix_len is_count (drop m rs)) (drop m rs)) i blank).number
  counts_near m i h =
      let at = leading_at is_count blank rs m i h in
      let is : get_or (take (prefix_len is_count (drop m rs)) (drop m rs)) i blank ≡ get_or rs (m + i) blank = get_or-take (prefix_len is_count (drop m rs)) (drop m rs) i blank h ∙ get_or-drop m rs i blank in
      subst (λ (r : Record). Near 100 r.number) (sym is) (count_near (m + i) at.0 at.1)

  pub limited_program : {Level : Type 0} (made : ℤ → ℤ → Level) → Limited (program_of made rs)
  limited_program made = record {
    opened = λ i x h. (
        let line = (get_or (tasks_of rs) i no_task).line in
        counted_near (counts_of rs (get_or (tasks_of rs) i no_task)) x (λ j l. counts_near line j (omega (arith, length-prefix_len is_count (drop line rs)))));
    carried = λ c d. carried-few rs c d (λ i h e. natural-few (get_or rs i blank).number ((C.good i h (carry_no_blank (get_or rs i blank) e)).carries e).2.1);
    short = λ i h. omega (arith, length-map (body_of rs (tasks_of rs) i) op_of, short_body rs C.roomy i);
  }
