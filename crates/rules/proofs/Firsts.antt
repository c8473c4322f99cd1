-- A search that counts upward finds the first number that passes.
use Rattle.std.proofs.Common.{◌≡◌, ℕ, zero, suc, ◌+◌, ◌<◌, ◌≤◌, Bool, true, false, Some, None, Option, sym, ap, ◌∙◌, subst, arith}
use Rattle.std.specs.Prelude.{MatchOption}
use Rattle.std.proofs.lemmas.Bool.{cond-true, cond-false}
use Rattle.model.specs.Rules.{first, first_number_from}
use Rattle.model.proofs.Searches.{false_is, first-none}
use native.Mathlib.Decide.{ℕ_discrete}

-- the search finds x where x passes and none before it does
first-is : (p : ℕ → Bool) (i k x : ℕ) → i ≤ x → x < i + k → p x ≡ true → ((y : ℕ) → i ≤ y → y < x → p y ≡ false) → first_number_from p i k ≡ Some x
first-is p i zero x l m h none = absurd (omega arith)
first-is p i (suc k) x l m h none = elim (ℕ_discrete x i) [
  | yes f ↦ cond-true (p i) _ _ (subst (λ (y : ℕ). p y ≡ true) f h) ∙ ap Some (sym f)
  | no nf ↦ cond-false (p i) _ _ (none i (omega arith) (omega arith)) ∙ first-is p (suc i) k x (omega arith) (omega arith) h (λ y a b. none y (omega arith) b)
]

module _ (p : ℕ → Bool) (n : ℕ) where
  found_first : (x : ℕ) → x < n → p x ≡ true → ((k : ℕ) → k < x → p k ≡ false) → Some x ≡ first p n
  found_first x l h none = sym (first-is p 0 n x (omega arith) (omega arith) h (λ y _ m. none y m))

  found_none : ((k : ℕ) → k < n → p k ≡ false) → None ≡ first p n
  found_none none = sym (first-none p 0 n (λ y _ m. false_is _ (none y (omega arith))))

  -- what a `find` over the numbers below n answers
  pub is_first : (r : Option ℕ) → MatchOption r ((k : ℕ) → 0 ≤ k → k < n → p k ≡ false) (λ x. (0 ≤ x) × (x < n) × (p x ≡ true) × ((k : ℕ) → 0 ≤ k → k < x → p k ≡ false)) → r ≡ first p n
  is_first None h = found_none (λ k l. h k (omega arith) l)
  is_first (Some x) h = found_first x h.1 h.2 (λ k l. h.3 k (omega arith) l)
