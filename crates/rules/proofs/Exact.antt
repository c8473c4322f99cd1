-- What an operation does to an account, exactly: past the 32 objects there is nothing, and within 51,300 nothing wraps.
use Rattle.std.proofs.Common.{◌≡◌, ℕ, ◌<◌, ◌≤◌, true, false, eqb, length, ℤ, pos, sym, refl, ◌∙◌, ⊎_elim, arith, w32, SFits}
use Rattle.std.proofs.lemmas.List.{get_or_past}
use Rattle.std.proofs.lemmas.Int.{ints, int_wrap_fits}
use Rattle.std.proofs.lemmas.Bool.{cases_lt, cond-false, ne_eqb}
use Rattle.model.specs.Accounts.{Near}
use Rattle.model.specs.Program.{Op, Program, Within, operation, send, receive, acquire, release, start}
use Rattle.model.specs.Rules.{locked, paid}
use Rattle.model.proofs.Sums.{same-other}
use Rattle.plan.specs.Meaning.{Narrow}
use Rattle.rules.specs.Accounts.{count_of, held_by}
use Rattle.rules.specs.Changes.{locked_by, paid_by}
use Rattle.rules.specs.declared.account.Account.{Account}

near_fits : (z : ℤ) → Near 51300 z → SFits w32 z
near_fits z h = let l = h.0 in let m = h.1 in omega (arith, ints)

module _ {Level : Type 0} (B : Program Level ℕ) (narrow : Narrow B) (few : B.objects ≤ 32) (a b : Account)
    (a-counts : length a.counts ≡ 32) (b-counts : length b.counts ≡ 32) (a-locks : length a.locks ≡ 32) (b-locks : length b.locks ≡ 32) where
  count_past : (x : ℕ) → 32 ≤ x → count_of a x ≡ pos 0
  count_past x h = get_or_past a.counts x (pos 0) (omega (arith, h, a-counts))

  lock_past : (x : ℕ) → 32 ≤ x → held_by a x ≡ false
  lock_past x h = get_or_past a.locks x false (omega (arith, h, a-locks))

  -- past the objects

  paid_past : (o : Op ℕ) → Within B o → (x : ℕ) → 32 ≤ x → paid B o (count_of a) x ≡ pos 0
  paid_past (send c m) w x h =
      let none = count_past x h in
      let other = same-other x c (λ e. omega (arith, w.0)) in
      let carried = narrow.carried c x h in
      omega (arith, ints)
  paid_past (receive c) w x h =
      let none = count_past x h in
      let other = same-other x c (λ e. omega (arith, w.0)) in
      let carried = narrow.carried c x h in
      omega (arith, ints)
  paid_past (acquire l) w x h = count_past x h
  paid_past (release l) w x h = count_past x h
  paid_past (start u) w x h =
      let none = count_past x h in
      let opened = narrow.opened u x h in
      omega (arith, ints)

  locked_past : (o : Op ℕ) → Within B o → (x : ℕ) → 32 ≤ x → locked o (held_by a) x ≡ false
  locked_past (send c m) w x h = lock_past x h
  locked_past (receive c) w x h = lock_past x h
  locked_past (acquire l) w x h = cond-false (eqb x l) true (held_by a x) (ne_eqb x l (λ e. omega arith)) ∙ lock_past x h
  locked_past (release l) w x h = cond-false (eqb x l) false (held_by a x) (ne_eqb x l (λ e. omega arith)) ∙ lock_past x h
  locked_past (start u) w x h = lock_past x h

  -- among them

  paid_near : (o : Op ℕ) (x : ℕ) → Near 51300 (paid B o (count_of a) x) → paid_by B (operation o) (count_of a) x ≡ paid B o (count_of a) x
  paid_near (send c m) x n = int_wrap_fits w32 _ (near_fits _ n)
  paid_near (receive c) x n = int_wrap_fits w32 _ (near_fits _ n)
  paid_near (acquire l) x n = refl
  paid_near (release l) x n = refl
  paid_near (start u) x n = int_wrap_fits w32 _ (near_fits _ n)

  pub exact-counts : (o : Op ℕ) → Within B o → ((x : ℕ) → x < 32 → count_of b x ≡ paid_by B (operation o) (count_of a) x) → ((x : ℕ) → Near 51300 (paid B o (count_of a) x)) →
      (x : ℕ) → count_of b x ≡ paid B o (count_of a) x
  exact-counts o w did near x =
      ⊎_elim (λ (l : x < 32). did x l ∙ paid_near o x (near x)) (λ (h : 32 ≤ x). get_or_past b.counts x (pos 0) (omega (arith, h, b-counts)) ∙ sym (paid_past o w x h))
      (cases_lt x 32)

  pub exact-locks : (o : Op ℕ) → Within B o → ((x : ℕ) → x < 32 → held_by b x ≡ locked_by (operation o) (held_by a) x) → (x : ℕ) → held_by b x ≡ locked o (held_by a) x
  exact-locks o w did x =
      ⊎_elim (λ (l : x < 32). did x l) (λ (h : 32 ≤ x). get_or_past b.locks x false (omega (arith, h, b-locks)) ∙ sym (locked_past o w x h))
      (cases_lt x 32)
