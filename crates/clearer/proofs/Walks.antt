-- One step of the walk of a task.
use Rattle.std.proofs.Common.{◌≡◌, ℕ, suc, ◌+◌, ◌<◌, ◌≤◌, Bool, false, length, get_or, replicate, pos, sym, ap, ◌∙◌, subst, ⊎_elim, add-one, arith}
use mathlib.Core.Path.{fun_ext}
use Rattle.std.proofs.lemmas.List.{get_or_past, get_or-replicate, length-replicate}
use Rattle.std.proofs.lemmas.Bool.{cases_lt}
use Rattle.model.specs.Accounts.{Near}
use Rattle.model.specs.Program.{Program, operation, step_at}
use Rattle.model.specs.Rules.{account_at, locked, locks_at, offence, paid, walk_offence}
use Rattle.model.specs.Threads.{AccountsFit, Limited, Sound}
use Rattle.model.proofs.Breaches.{op-step}
use Rattle.model.proofs.Plans.{plan-accounts}
use Rattle.model.proofs.Walks.{after_more, at_some}
use Rattle.plan.specs.Meaning.{Narrow}
use Rattle.rules.specs.Accounts.{count_of, held_by}
use Rattle.rules.specs.Changes.{locked_by, paid_by}
use Rattle.rules.specs.declared.account.Account.{Account}
use Rattle.rules.proofs.Exact.{exact-counts, exact-locks}

-- The account of the clearer is that of the walk of a task at a place.
pub record Walked {Level : Type 0} (B : Program Level ℕ) (task place : ℕ) (a : Account) : Type 0 where
  pub exists : task < B.threads
  pub inside : place ≤ length (B.ops task)
  pub counts : (x : ℕ) → count_of a x ≡ account_at B task place x
  pub locks : (x : ℕ) → held_by a x ≡ locks_at B task place x
  pub whole : (length a.counts ≡ 32) × (length a.locks ≡ 32)

module _ {Level : Type 0} (B : Program Level ℕ) (task place : ℕ) (a : Account) (w : Walked B task place a) where
  counts_are : count_of a ≡ account_at B task place
  counts_are = fun_ext w.counts

  locks_are : held_by a ≡ locks_at B task place
  locks_are = fun_ext w.locks

  -- a step is judged as the walk judges it
  pub judged_walk : (below : Level → Level → Bool) → offence B below (step_at (B.ops task) place) (count_of a) (held_by a) ≡ walk_offence B below task place
  judged_walk below =
      ap (λ c. offence B below (step_at (B.ops task) place) c (held_by a)) counts_are
      ∙ ap (λ h. offence B below (step_at (B.ops task) place) (account_at B task place) h) locks_are

  -- and leaves the account of the walk at the next place
  pub walked_next : Sound B → Limited B → Narrow B → (b : Account) → (length b.counts ≡ 32) × (length b.locks ≡ 32) → place < length (B.ops task) →
      ((x : ℕ) → x < 32 → count_of b x ≡ paid_by B (step_at (B.ops task) place) (count_of a) x) →
      ((x : ℕ) → x < 32 → held_by b x ≡ locked_by (step_at (B.ops task) place) (held_by a) x) → Walked B task (place + 1) b
  walked_next sound limited narrow b whole l paid-is locked-is =
      let o = at_some (B.ops task) place l in
      let here : step_at (B.ops task) place ≡ operation o.0 = op-step (B.ops task) place o.0 o.1 in
      let within = sound.within task place o.0 w.exists here in
      let fits : AccountsFit B ℕ = plan-accounts B sound limited in
      let next : suc place ≡ place + 1 = sym (add-one place) in
      let counted : (x : ℕ) → paid B o.0 (count_of a) x ≡ account_at B task (place + 1) x =
      λ x. ap (λ c. paid B o.0 c x) counts_are ∙ ap (λ c. c x) (sym (after_more (paid B) (B.ops task) place o.0 (B.opening task) o.1)) ∙ ap (λ n. account_at B task n x) next in
      let held : (x : ℕ) → locked o.0 (held_by a) x ≡ locks_at B task (place + 1) x =
      λ x. ap (λ h. locked o.0 h x) locks_are ∙ ap (λ h. h x) (sym (after_more locked (B.ops task) place o.0 (λ y. false) o.1)) ∙ ap (λ n. locks_at B task n x) next in
      record {
        exists = w.exists;
        inside = omega arith;
        counts = λ x.
            exact-counts B narrow sound.few_objects a b w.whole.0 whole.0 w.whole.1 whole.1 o.0 within (λ y h. paid-is y h ∙ ap (λ t. paid_by B t (count_of a) y) here)
            (λ y. subst (Near 51300) (sym (counted y)) (fits.walks task (place + 1) y w.exists (omega arith))) x
            ∙ counted x;
        locks = λ x.
            exact-locks B narrow sound.few_objects a b w.whole.0 whole.0 w.whole.1 whole.1 o.0 within (λ y h. locked-is y h ∙ ap (λ t. locked_by t (held_by a) y) here) x
            ∙ held x;
        whole = whole;
      }

-- the walk begins with what the task starts with, and without locks
pub walked-first : {Level : Type 0} (B : Program Level ℕ) → Narrow B → (task : ℕ) → task < B.threads → (a : Account) → length a.counts ≡ 32 → a.locks ≡ replicate 32 false →
    ((x : ℕ) → x < 32 → count_of a x ≡ B.opening task x) → Walked B task 0 a
walked-first B narrow task l a full none opening = record {
  exists = l;
  inside = omega arith;
  counts = λ x.
      ⊎_elim (λ (h : x < 32). opening x h) (λ (h : 32 ≤ x). get_or_past a.counts x (pos 0) (omega (arith, h, full)) ∙ sym (narrow.opened task x h))
      (cases_lt x 32);
  locks = λ x.
      ap (λ locks. get_or locks x false) none
      ∙ ⊎_elim (λ (h : x < 32). get_or-replicate 32 x false false h) (λ (h : 32 ≤ x). get_or_past (replicate 32 false) x false (omega (arith, h, length-replicate 32 false)))
      (cases_lt x 32);
  whole = (full, ap length none ∙ length-replicate 32 false);
}
