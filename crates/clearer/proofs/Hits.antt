-- The first of some answers that names a breach.
use Rattle.std.proofs.Common.{◌≡◌, ℕ, zero, suc, ◌+◌, ◌-◌, ◌<◌, ◌≤◌, Some, None, Option, sym, refl, ap, ◌∙◌, subst, ⊎_elim, add-one, arith}
use Rattle.std.proofs.lemmas.Bool.{cases_eq}
use Rattle.model.proofs.Searches.{not_none}
use Rattle.clearer.specs.Breach.{Breach, first_of, or_else}

else_left : (a b : Option Breach) → or_else a b ≡ None → a ≡ None
else_left None b e = refl
else_left (Some f) b e = not_none e

else_right : (a b : Option Breach) → or_else a b ≡ None → b ≡ None
else_right None b e = e
else_right (Some f) b e = not_none e

module _ (f : ℕ → Option Breach) where
  -- what is left from number p on, of n in all

  left_is : (p n : ℕ) → p < n → first_of f p (n - p) ≡ or_else (f p) (first_of f (p + 1) (n - (p + 1)))
  left_is p n l =
      let e : n - p ≡ suc (n - (p + 1)) = omega arith in
      ap (first_of f p) e ∙ ap (λ q. or_else (f p) (first_of f q (n - (p + 1)))) (sym (add-one p))

  pub left_more : (p n : ℕ) → p < n → f p ≡ None → first_of f p (n - p) ≡ first_of f (p + 1) (n - (p + 1))
  left_more p n l e = left_is p n l ∙ ap (λ r. or_else r (first_of f (p + 1) (n - (p + 1)))) e

  pub left_found : (p n : ℕ) (b : Breach) → p < n → f p ≡ Some b → first_of f p (n - p) ≡ Some b
  left_found p n b l e = left_is p n l ∙ ap (λ r. or_else r (first_of f (p + 1) (n - (p + 1)))) e

  pub left_none : (p n : ℕ) → n ≤ p → first_of f p (n - p) ≡ None
  left_none p n l = let e : n - p ≡ 0 = omega arith in ap (first_of f p) e

  pub left_all : (n : ℕ) → first_of f 0 n ≡ first_of f 0 (n - 0)
  left_all n = let e : n ≡ n - 0 = omega arith in ap (first_of f 0) e

  -- none is found exactly where there is none

  none_each : (p n : ℕ) → first_of f p n ≡ None → (q : ℕ) → p ≤ q → q < p + n → f q ≡ None
  none_each p zero e q l m = absurd (omega arith)
  none_each p (suc n) e q l m =
      ⊎_elim (λ (same : p ≡ q). subst (λ r. f r ≡ None) same (else_left _ _ e)) (λ (other : p ≡ q → ⊥). none_each (suc p) n (else_right _ _ e) q (omega arith) (omega arith))
      (cases_eq p q)

  pub none_below : (n : ℕ) → first_of f 0 n ≡ None → (q : ℕ) → q < n → f q ≡ None
  none_below n e q l = none_each 0 n e q (omega arith) (omega arith)

  each_none : (p n : ℕ) → ((q : ℕ) → p ≤ q → q < p + n → f q ≡ None) → first_of f p n ≡ None
  each_none p zero h = refl
  each_none p (suc n) h = ap (λ r. or_else r (first_of f (suc p) n)) (h p (omega arith) (omega arith)) ∙ each_none (suc p) n (λ q l m. h q (omega arith) (omega arith))

  pub below_none : (n : ℕ) → ((q : ℕ) → q < n → f q ≡ None) → first_of f 0 n ≡ None
  below_none n h = each_none 0 n (λ q l m. h q (omega arith))

  -- what is found is the first

  pub record Hit (p n : ℕ) (b : Breach) : Type 0 where
    pub at : ℕ
    pub from : p ≤ at
    pub under : at < p + n
    pub before : (q : ℕ) → p ≤ q → q < at → f q ≡ None
    pub here : f at ≡ Some b

  hit_by : (p n : ℕ) (b : Breach) (r : Option Breach) → f p ≡ r → (first_of f (suc p) n ≡ Some b → Hit (suc p) n b) → or_else r (first_of f (suc p) n) ≡ Some b → Hit p (suc n) b
  hit_by p n b (Some x) is next e = record { at = p; from = omega arith; under = omega arith; before = λ q l m. absurd (omega arith); here = is ∙ e }
  hit_by p n b None is next e =
      let s = next e in
      record {
        at = s.at;
        from = omega (arith, s.from);
        under = omega (arith, s.under);
        before = λ q l m.
            ⊎_elim (λ (same : p ≡ q). subst (λ r. f r ≡ None) same is) (λ (other : p ≡ q → ⊥). s.before q (omega arith) m)
            (cases_eq p q);
        here = s.here;
      }

  pub hit : (p n : ℕ) (b : Breach) → first_of f p n ≡ Some b → Hit p n b
  hit p zero b e = not_none (sym e)
  hit p (suc n) b e = hit_by p n b _ refl (λ g. hit (suc p) n b g) e

  -- a breach of number k, with none before it
  pub found_first : (n k : ℕ) (b : Breach) → ((j : ℕ) → j < k → None ≡ f j) → k < n → f k ≡ Some b → first_of f 0 n ≡ Some b
  found_first n k b none inside here = found_from 0 n k b (λ j _ l. none j l) (omega arith) (omega arith) here
    where
      found_from : (p n k : ℕ) (b : Breach) → ((j : ℕ) → p ≤ j → j < k → None ≡ f j) → p ≤ k → k < p + n → f k ≡ Some b → first_of f p n ≡ Some b
      found_from p zero k b none low high here = absurd (omega arith)
      found_from p (suc n) k b none low high here =
          ⊎_elim (λ (same : p ≡ k). ap (λ r. or_else r (first_of f (suc p) n)) (subst (λ q. f q ≡ Some b) (sym same) here))
          (λ (other : p ≡ k → ⊥).
          ap (λ r. or_else r (first_of f (suc p) n)) (sym (none p (omega arith) (omega arith))) ∙ found_from (suc p) n k b (λ j l m. none j (omega arith) m) (omega arith) (omega arith) here)
          (cases_eq p k)

-- The walk of the steps of a task, whole and from step p on: what step p answers, in the words of its own judging, is the answer of all, or leaves the rest.
module _ (f : ℕ → Option Breach) (p n : ℕ) (whole o : Option Breach) (so-far : whole ≡ first_of f p (n - p)) (judged : o ≡ f p) where
  pub step_found : (b : Breach) → p < n → Some b ≡ o → Some b ≡ whole
  step_found b l e = sym (so-far ∙ left_found f p n b l (sym (e ∙ judged)))

  pub step_passed : p < n → None ≡ o → whole ≡ first_of f (p + 1) (n - (p + 1))
  step_passed l e = so-far ∙ left_more f p n l (sym (e ∙ judged))
