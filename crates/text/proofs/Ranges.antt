-- A number that was cut down to `enough` is in no other ranges than before.
use Rattle.std.proofs.Common.{◌≡◌, ℕ, zero, suc, ◌<◌, ◌≤◌, min, List, [], ◌∷◌, length, get_or, drop, ℤ, pos, neg_ℤ, Some, None, Option, refl, arith, w32, SFits}
use Rattle.std.proofs.lemmas.Int.{ints}
use Rattle.std.proofs.lemmas.Bool.{cond-true, cond-false, eq-eqb, ne_eqb}
use Rattle.text.specs.Text.{above, below, capped, enough, within, number, natural}

pub within-above : (low high : ℤ) (o : Option ℕ) (n : ℕ) → SFits w32 high → capped o ≡ Some n → within low high (above o) ≡ within low high (Some (pos n))
within-above low high None n f e = cc
within-above low high (Some m) n f e = let e : n ≡ min m enough = cc in grind (arith, ints)

pub within-below : (low high : ℤ) (o : Option ℕ) (n : ℕ) → SFits w32 low → 0 < n → capped o ≡ Some n → within low high (below o) ≡ within low high (Some (neg_ℤ (pos n)))
within-below low high None n f h e = cc
within-below low high (Some zero) n f h e = let e : n ≡ min 0 enough = cc in absurd (omega arith)
within-below low high (Some (suc m)) zero f h e = absurd (omega arith)
within-below low high (Some (suc m)) (suc n) f h e = let e : suc n ≡ min (suc m) enough = cc in grind (arith, ints)

pub natural-none : (o : Option ℕ) → capped o ≡ None → o ≡ None
natural-none None e = refl
natural-none (Some m) e = cc

pub below_none : (o : Option ℕ) (n : ℕ) → capped o ≡ Some n → n ≤ 0 → below o ≡ None
below_none None n e h = refl
below_none (Some zero) n e h = refl
below_none (Some (suc m)) n e h = let e : n ≡ min (suc m) enough = cc in absurd (omega arith)

-- the first byte chooses

pub number_minus : (f : List ℕ) → 0 < length f → get_or f 0 0 ≡ 45 → number f ≡ below (natural (drop 1 f))
number_minus [] h e = absurd (omega arith)
number_minus (c ∷ cs) h e = cond-true _ _ _ (eq-eqb _ _ e)

pub number_plain : (f : List ℕ) → (get_or f 0 0 ≡ 45 → ⊥) → number f ≡ above (natural f)
number_plain [] e = refl
number_plain (c ∷ cs) e = cond-false _ _ _ (ne_eqb _ _ e)

pub capped_small : (o : Option ℕ) (n : ℕ) → capped o ≡ Some n → n ≤ enough
capped_small None n e = let z : ◌≡◌ {A = ℕ} 0 1 = cc in omega arith
capped_small (Some m) n e = let e : n ≡ min m enough = cc in omega arith
