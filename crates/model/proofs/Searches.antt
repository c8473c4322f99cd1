-- Tests that are true or false, and what a search finds. Assumes nothing.
use Rattle.std.proofs.Common.{◌≡◌, ℕ, zero, suc, ◌+◌, ◌<◌, ◌≤◌, Bool, true, false, T, Some, None, Option, sym, refl, ◌∙◌, subst, arith}
use native.Mathlib.Decide.{ℕ_discrete}
use Rattle.std.proofs.lemmas.Bool.{cond-true, cond-false}
use Rattle.std.proofs.lemmas.Float.{T_from_true}
use Rattle.std.proofs.lemmas.Option.{none-some, same_Some}
use Rattle.model.specs.Machine.{found}
use Rattle.model.specs.Rules.{first_number_from}

pub not_none : {A B : Type 0} {x : A} → Some x ≡ None → B
not_none e = absurd (none-some _ (sym e))

pub is_true : (b : Bool) → T b → b ≡ true
is_true true h = refl
is_true false h = absurd h

pub is_false : (b : Bool) → ¬ (T b) → b ≡ false
is_false true h = absurd (h tt)
is_false false h = refl

pub false_is : (b : Bool) → b ≡ false → ¬ (T b)
false_is b e h = subst T e h

-- searches
module _ (p : ℕ → Bool) where
  pub first-none : (i k : ℕ) → ((x : ℕ) → i ≤ x → x < i + k → ¬ (T (p x))) → first_number_from p i k ≡ None
  first-none i zero h = refl
  first-none i (suc k) h =
      cond-false (p i) (Some i) _ (is_false (p i) (h i (omega arith) (omega arith))) ∙ first-none (suc i) k (λ x l m. h x (omega arith) (omega arith))

  pub none_first : (i k : ℕ) → first_number_from p i k ≡ None → (x : ℕ) → i ≤ x → x < i + k → ¬ (T (p x))
  none_first i zero e x l m h = omega arith
  none_first i (suc k) e x l m h = go (p i) refl (λ f n. none_first (suc i) k f x n (omega arith) h)
    where
      go : (b : Bool) → p i ≡ b → (first_number_from p (suc i) k ≡ None → suc i ≤ x → ⊥) → ⊥
      go true q rest = not_none (sym (cond-true (p i) _ _ q) ∙ e)
      go false q rest = elim (ℕ_discrete x i) [
        | yes f ↦ false_is (p i) q (subst (λ (y : ℕ). T (p y)) f h)
        | no nf ↦ rest (sym (cond-false (p i) _ _ q) ∙ e) (omega arith)
      ]

  -- what a search finds has p
  pub some_first : (i k x : ℕ) → first_number_from p i k ≡ Some x → (i ≤ x) × (x < i + k) × T (p x)
  some_first i zero x e = not_none (sym e)
  some_first i (suc k) x e = go (p i) refl (λ f. let r = some_first (suc i) k x f in (omega (arith, r.0), omega (arith, r.1), r.2))
    where
      go : (b : Bool) → p i ≡ b → (first_number_from p (suc i) k ≡ Some x → (i ≤ x) × (x < i + suc k) × T (p x)) → (i ≤ x) × (x < i + suc k) × T (p x)
      go true q rest =
          let f : i ≡ x = same_Some i x (sym (cond-true (p i) _ _ q) ∙ e) in
          (omega arith, omega arith, subst (λ (y : ℕ). T (p y)) f (T_from_true _ q))
      go false q rest = rest (sym (cond-false (p i) _ _ q) ∙ e)

pub found_none : (r : Option ℕ) → found r ≡ false → r ≡ None
found_none None e = refl
found_none (Some x) e = absurd (false_is true e tt)
