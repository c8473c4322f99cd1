-- No breach is found exactly if the program is cleared, and the one that is found is the first.
use Rattle.std.proofs.Common.{◌≡◌, ℕ, suc, ◌+◌, ◌<◌, ◌≤◌, Bool, length, Some, None, Option, Ok, Err, Result, refl, sym, ap, ◌∙◌, subst, ⊎_elim, arith}
use Rattle.std.proofs.lemmas.Bool.{cases_eq}
use Rattle.std.specs.Prelude.{IfErr, MatchResult}
use Rattle.model.specs.Program.{Program}
use Rattle.model.specs.Rules.{Cleared, Offence, walk_offence}
use Rattle.model.proofs.Searches.{not_none}
use Rattle.clearer.specs.Breach.{Breach, FirstBreach, at_line, first_breach, step_breach, task_breach}
use Rattle.clearer.specs.Faults.{breach_seen, verdict_of}
use Rattle.clearer.specs.declared.fault.ClearFault.{ClearFault}
use Rattle.clearer.proofs.Hits.{below_none, found_first, hit, none_below}

line-none : (line : ℕ) (r : Option Offence) → at_line line r ≡ None → r ≡ None
line-none line None e = refl
line-none line (Some x) e = not_none e

module _ {Level Message : Type 0} (B : Program Level Message) (below : Level → Level → Bool) where
  -- a task without a breach
  legal-steps : (k : ℕ) → task_breach B below k ≡ None → (p : ℕ) → p ≤ length (B.ops k) → walk_offence B below k p ≡ None
  unfolding task_breach
  legal-steps k e p l = line-none (B.line k p) _ (none_below (step_breach B below k) (suc (length (B.ops k))) e p (omega arith))

  none-cleared : first_breach B below ≡ None → Cleared B below
  unfolding first_breach
  none-cleared e t p l m = legal-steps t (none_below (task_breach B below) B.threads e t l) p m

  cleared-none : Cleared B below → first_breach B below ≡ None
  unfolding first_breach task_breach
  cleared-none c =
      below_none (task_breach B below) B.threads (λ k l. below_none (step_breach B below k) (suc (length (B.ops k))) (λ p m. ap (at_line (B.line k p)) (c k p l (omega arith))))

  first-breach : (b : Breach) → first_breach B below ≡ Some b → FirstBreach B below b
  unfolding first_breach task_breach
  first-breach b e =
      let t = hit (task_breach B below) 0 B.threads b e in
      let s = hit (step_breach B below t.at) 0 (suc (length (B.ops t.at))) b t.here in
      record {
        task = t.at;
        place = s.at;
        exists = omega (arith, t.under);
        inside = omega (arith, s.under);
        tasks-before = λ k p l m. legal-steps k (t.before k (omega arith) l) p m;
        steps-before = λ p l. line-none (B.line t.at p) _ (s.before p (omega arith) l);
        here = s.here;
      }

-- what the answer of the clearer says, once its breach is the first

module _ {Level Message : Type 0} (B : Program Level Message) (below : Level → Level → Bool) where
  pub cleared_by : (r : Result (Unit {0}) ClearFault) → verdict_of r ≡ first_breach B below → MatchResult r (λ _. Cleared B below) (λ _. Cleared B below → ⊥)
  cleared_by (Ok x) e = none-cleared B below (sym e)
  cleared_by (Err f) e = λ c. not_none (e ∙ cleared-none B below c)

  pub first_by : (r : Result (Unit {0}) ClearFault) → verdict_of r ≡ first_breach B below → IfErr r (λ f. FirstBreach B below (breach_seen f))
  first_by (Ok x) e = tt
  first_by (Err f) e = first-breach B below (breach_seen f) (sym e)

  -- no task below k has a breach
  pub record Clear (k : ℕ) : Type 0 where
    pub none : (j : ℕ) → j < k → None ≡ task_breach B below j

  pub clear_first : Clear 0
  clear_first = record { none = λ j l. absurd (omega arith) }

  pub clear_next : (k : ℕ) → Clear k → None ≡ task_breach B below k → Clear (k + 1)
  clear_next k c e = record {
    none = λ j l.
        ⊎_elim (λ (same : j ≡ k). subst (λ i. None ≡ task_breach B below i) (sym same) e) (λ (other : j ≡ k → ⊥). c.none j (omega arith))
        (cases_eq j k);
  }

  -- a fault of task k is the first where no task below it has one
  pub fault_first : (r : Result (Unit {0}) ClearFault) (f : ClearFault) (k : ℕ) → Clear k → k < B.threads → Some (breach_seen f) ≡ task_breach B below k → r ≡ Err f → verdict_of r ≡ first_breach B below
  unfolding first_breach
  fault_first r f k c inside here is = ap verdict_of is ∙ sym (found_first (task_breach B below) B.threads k (breach_seen f) c.none inside (sym here))

  -- and where no task has one there is none
  pub none_first : (n : ℕ) → Clear n → B.threads ≤ n → None ≡ first_breach B below
  unfolding first_breach
  none_first n c all = sym (below_none (task_breach B below) B.threads (λ j l. sym (c.none j (omega arith))))
