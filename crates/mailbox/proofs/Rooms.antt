-- Rooms that are given by a list's length. Assumes nothing.
use Rattle.std.proofs.Common.{◌≡◌, ℕ, suc, ◌+◌, ◌-◌, ◌≤◌, Bool, true, false, cond, ltb, ◌≢◌, List, [], ◌∷◌, ◌++◌, length, sym, refl, ap, ◌∙◌, subst, ⊎_elim, arith}
use Rattle.std.proofs.lemmas.List.{length_push}
use Rattle.std.proofs.lemmas.Bool.{cases_eq}

pub cond_same : {A : Type 0} (b : Bool) (x : A) → cond b x x ≡ x
cond_same true x = refl
cond_same false x = refl

cond_le : (b : Bool) (x y z : ℕ) → x ≤ y + z → cond b x 0 ≤ cond b y 0 + z
cond_le true x y z h = h
cond_le false x y z h = omega arith

module _ {M : Type 0} (n n' : ℕ) (W W' : ℕ → List M) (c : ℕ) (m : M) (same : n' ≡ n) (others : (d : ℕ) → d ≢ c → W' d ≡ W d) where
  pub roomy-put : W' c ≡ W c ++ (m ∷ []) → (d : ℕ) → cond (ltb d 32) (n - length (W d)) 0 ≤ suc (cond (ltb d 32) (n' - length (W' d)) 0)
  roomy-put joined d =
      let l : length (W' c) ≡ length (W c) + 1 = ap length joined ∙ length_push (W c) m in
      let h : n - length (W d) ≤ (n' - length (W' d)) + 1 =
      ⊎_elim
      (λ (e : d ≡ c). subst (λ k. n - length (W k) ≤ (n' - length (W' k)) + 1) (sym e) (omega (arith, l, same)))
      (λ (ne : d ≢ c). let o = ap length (others d ne) in omega (arith, o, same))
      (cases_eq d c) in
      let k = cond_le (ltb d 32) (n - length (W d)) (n' - length (W' d)) 1 h in
      omega (arith, k)

  pub roomy-take : W c ≡ m ∷ W' c → (d : ℕ) → cond (ltb d 32) (n - length (W d)) 0 ≤ cond (ltb d 32) (n' - length (W' d)) 0
  roomy-take removed d =
      let l : length (W c) ≡ suc (length (W' c)) = ap length removed in
      let h : n - length (W d) ≤ (n' - length (W' d)) + 0 =
      ⊎_elim
      (λ (e : d ≡ c). subst (λ k. n - length (W k) ≤ (n' - length (W' k)) + 0) (sym e) (omega (arith, l, same)))
      (λ (ne : d ≢ c). let o = ap length (others d ne) in omega (arith, o, same))
      (cases_eq d c) in
      let k = cond_le (ltb d 32) (n - length (W d)) (n' - length (W' d)) 0 h in
      omega (arith, k)

pub free_le : (a a' w w' : ℕ) → a' ≡ a → w' ≤ suc w → (d : ℕ) → cond (ltb d 32) (a - w) 0 ≤ suc (cond (ltb d 32) (a' - w') 0)
free_le a a' w w' e l d = let k = cond_le (ltb d 32) (a - w) (a' - w') 1 (omega arith) in omega (arith, k)

pub free_more : (a a' w w' : ℕ) → a' ≡ a → w' ≤ w → (d : ℕ) → cond (ltb d 32) (a - w) 0 ≤ cond (ltb d 32) (a' - w') 0
free_more a a' w w' e l d = let k = cond_le (ltb d 32) (a - w) (a' - w') 0 (omega arith) in omega (arith, k)
