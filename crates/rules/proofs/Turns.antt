-- One turn of a loop that changes each element of a row.
use Rattle.std.proofs.Common.{◌≡◌, ℕ, ◌+◌, ◌<◌, ◌≤◌, List, length, get_or, set, ℤ, pos, sym, ◌∙◌, subst, ⊎_elim, arith, length-set}
use Rattle.std.proofs.lemmas.List.{get_or-set_other, get_or-set_same}
use Rattle.std.proofs.lemmas.Bool.{cases_eq}

-- the elements below i are changed by f, the others are as before
abbrev pub Changed : (ℕ → ℤ → ℤ) → List ℤ → ℕ → List ℤ → Type 0
Changed f b i a = ((x : ℕ) → x < i → get_or a x (pos 0) ≡ f x (get_or b x (pos 0))) × ((x : ℕ) → i ≤ x → get_or a x (pos 0) ≡ get_or b x (pos 0)) × (length a ≡ 32)

pub changed_more : (f : ℕ → ℤ → ℤ) (b : List ℤ) (i : ℕ) (a : List ℤ) (v : ℤ) → Changed f b i a → i < 32 → v ≡ f i (get_or a i (pos 0)) → Changed f b (i + 1) (set a i v)
changed_more f b i a v h inside is = (
  λ x l.
      ⊎_elim
      (λ (e : x ≡ i). subst (λ y. get_or (set a i v) y (pos 0) ≡ f y (get_or b y (pos 0))) (sym e)
      (get_or-set_same a i v (pos 0) (omega (arith, h.2)) ∙ is ∙ subst (λ z. f i (get_or a i (pos 0)) ≡ f i z) (h.1 i (omega arith)) (λ _. f i (get_or a i (pos 0)))))
      (λ (ne : x ≡ i → ⊥). get_or-set_other a i x v (pos 0) ne ∙ h.0 x (omega arith))
      (cases_eq x i),
  λ x l. get_or-set_other a i x v (pos 0) (λ e. omega arith) ∙ h.1 x (omega arith),
  length-set a i v ∙ h.2,
)

-- One turn of a loop that fills a row.
pub filled_more : (g : ℕ → ℤ) (a : List ℤ) (i : ℕ) (v : ℤ) → ((x : ℕ) → x < i → get_or a x (pos 0) ≡ g x) → length a ≡ 32 → i < 32 → v ≡ g i →
    ((x : ℕ) → x < i + 1 → get_or (set a i v) x (pos 0) ≡ g x) × (length (set a i v) ≡ 32)
filled_more g a i v h full inside is = (
  λ x l.
      ⊎_elim
      (λ (e : x ≡ i). subst (λ y. get_or (set a i v) y (pos 0) ≡ g y) (sym e) (get_or-set_same a i v (pos 0) (omega (arith, full)) ∙ is))
      (λ (ne : x ≡ i → ⊥). get_or-set_other a i x v (pos 0) ne ∙ h x (omega arith))
      (cases_eq x i),
  length-set a i v ∙ full,
)
