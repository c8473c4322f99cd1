-- Sums below a bound, when one summand changes. Assumes nothing.
use Rattle.std.proofs.Common.{◌≡◌, ℕ, zero, suc, ◌+◌, ◌<◌, ◌≤◌, eqb, ◌≢◌, ℤ, pos, ◌+ℤ◌, ◌≤ℤ◌, refl, ap, arith, eq-eqb, ne_eqb}
use native.Mathlib.Decide.{ℕ_discrete}
use Rattle.std.proofs.lemmas.Bool.{cond-true, cond-false}
use Rattle.std.proofs.lemmas.Int.{ints}
use Rattle.model.specs.Program.{sum, sumℤ, same}

pub same_eq : (a b : ℕ) → a ≡ b → same a b ≡ 1
unfolding same
same_eq a b e = cond-true (eqb a b) 1 0 (eq-eqb a b e)

pub same_refl : (a : ℕ) → same a a ≡ 1
same_refl a = same_eq a a refl

pub same-other : (a b : ℕ) → a ≢ b → same a b ≡ 0
unfolding same
same-other a b ne = cond-false (eqb a b) 1 0 (ne_eqb a b ne)

-- Two sums with the same summands.
pub sum_same : (f g : ℕ → ℕ) (n : ℕ) → ((u : ℕ) → u < n → g u ≡ f u) → sum g n ≡ sum f n
sum_same f g zero e = refl
sum_same f g (suc n) e = omega (arith, sum_same f g n (λ u h. e u (omega arith)), e n (omega arith))

-- One summand changes.
pub sum_change : (f g : ℕ → ℕ) (n t : ℕ) → t < n → ((u : ℕ) → u < n → u ≢ t → g u ≡ f u) → sum g n + f t ≡ sum f n + g t
sum_change f g zero t h e = absurd (omega arith)
sum_change f g (suc n) t h e = elim (ℕ_discrete n t) [
  | yes p ↦ omega (arith, ap f p, ap g p, sum_same f g n (λ u k. e u (omega arith) (omega arith)))
  | no p ↦ omega (arith, sum_change f g n t (omega arith) (λ u k ne. e u (omega arith) ne), e n (omega arith) p)
]

pub sumℤ-same : (f g : ℕ → ℤ) (n : ℕ) → ((u : ℕ) → u < n → g u ≡ f u) → sumℤ g n ≡ sumℤ f n
sumℤ-same f g zero e = refl
sumℤ-same f g (suc n) e = omega (arith, ints, sumℤ-same f g n (λ u h. e u (omega arith)), e n (omega arith))

pub sumℤ_change : (f g : ℕ → ℤ) (n t : ℕ) → t < n → ((u : ℕ) → u < n → u ≢ t → g u ≡ f u) → sumℤ g n +ℤ f t ≡ sumℤ f n +ℤ g t
sumℤ_change f g zero t h e = absurd (omega arith)
sumℤ_change f g (suc n) t h e = elim (ℕ_discrete n t) [
  | yes p ↦ omega (arith, ints, ap f p, ap g p, sumℤ-same f g n (λ u k. e u (omega arith) (omega arith)))
  | no p ↦ omega (arith, ints, sumℤ_change f g n t (omega arith) (λ u k ne. e u (omega arith) ne), e n (omega arith) p)
]

-- Two summands change.
pub sumℤ_change_2 : (f g : ℕ → ℤ) (n s t : ℕ) → s < n → t < n → s ≢ t → ((u : ℕ) → u < n → u ≢ s → u ≢ t → g u ≡ f u) →
    sumℤ g n +ℤ (f s +ℤ f t) ≡ sumℤ f n +ℤ (g s +ℤ g t)
sumℤ_change_2 f g zero s t hs ht ne e = absurd (omega arith)
sumℤ_change_2 f g (suc n) s t hs ht ne e = elim (ℕ_discrete n s) [
  | yes p ↦ omega (arith, ints, ap f p, ap g p, sumℤ_change f g n t (omega arith) (λ u k q. e u (omega arith) (omega arith) q))
  | no p ↦ elim (ℕ_discrete n t) [
    | yes q ↦ omega (arith, ints, ap f q, ap g q, sumℤ_change f g n s (omega arith) (λ u k r. e u (omega arith) r (omega arith)))
    | no q ↦ omega (arith, ints, sumℤ_change_2 f g n s t (omega arith) (omega arith) ne (λ u k r r'. e u (omega arith) r r'), e n (omega arith) p q)
  ]
]

pub sumℤ_zero : (f : ℕ → ℤ) (n : ℕ) → ((u : ℕ) → u < n → f u ≡ pos 0) → sumℤ f n ≡ pos 0
sumℤ_zero f zero e = refl
sumℤ_zero f (suc n) e = omega (arith, ints, sumℤ_zero f n (λ u h. e u (omega arith)), e n (omega arith))

pub sum_zero : (f : ℕ → ℕ) (n : ℕ) → ((u : ℕ) → u < n → f u ≡ 0) → sum f n ≡ 0
sum_zero f zero e = refl
sum_zero f (suc n) e = omega (arith, sum_zero f n (λ u h. e u (omega arith)), e n (omega arith))

-- Sums in order; a summand that is smaller makes the sum smaller.
pub sum_le : (f g : ℕ → ℕ) (n : ℕ) → ((u : ℕ) → u < n → f u ≤ g u) → sum f n ≤ sum g n
sum_le f g zero e = omega arith
sum_le f g (suc n) e = omega (arith, sum_le f g n (λ u h. e u (omega arith)), e n (omega arith))

pub sum_lt : (f g : ℕ → ℕ) (n t : ℕ) → t < n → f t < g t → ((u : ℕ) → u < n → f u ≤ g u) → sum f n < sum g n
sum_lt f g zero t h l e = absurd (omega arith)
sum_lt f g (suc n) t h l e = elim (ℕ_discrete n t) [
  | yes p ↦ omega (arith, ap f p, ap g p, sum_le f g n (λ u k. e u (omega arith)))
  | no p ↦ omega (arith, sum_lt f g n t (omega arith) l (λ u k. e u (omega arith)), e n (omega arith))
]

-- Where every summand is at most another and the sums agree, the summands do.
pub sum-tight : (f g : ℕ → ℕ) (n : ℕ) → ((u : ℕ) → u < n → f u ≤ g u) → sum f n ≡ sum g n → (u : ℕ) → u < n → f u ≡ g u
sum-tight f g n e s u h = elim (ℕ_discrete (f u) (g u)) [
  | yes p ↦ p
  | no p ↦ absurd (let k : f u ≤ g u = e u h in let l : sum f n < sum g n = sum_lt f g n u h (omega arith) e in omega arith)
]

-- Where a sum of integers is not above zero and one summand is, another is below.
pub sumℤ-below : (f : ℕ → ℤ) (n : ℕ) → ((u : ℕ) → u < n → pos 0 ≤ℤ f u) → pos 0 ≤ℤ sumℤ f n
sumℤ-below f zero e = omega (arith, ints)
sumℤ-below f (suc n) e = let a = sumℤ-below f n (λ u h. e u (omega arith)) in let b = e n (omega arith) in omega (arith, ints)

pub sumℤ-above : (f : ℕ → ℤ) (n t : ℕ) → t < n → pos 1 ≤ℤ f t → ((u : ℕ) → u < n → pos 0 ≤ℤ f u) → pos 1 ≤ℤ sumℤ f n
sumℤ-above f zero t h l e = absurd (omega arith)
sumℤ-above f (suc n) t h l e = elim (ℕ_discrete n t) [
  | yes p ↦ (let a = sumℤ-below f n (λ u k. e u (omega arith)) in omega (arith, ints, ap f p))
  | no p ↦ (let a = sumℤ-above f n t (omega arith) l (λ u k. e u (omega arith)) in let b = e n (omega arith) in omega (arith, ints))
]

-- A summand is at most the sum.
pub sum_member : (f : ℕ → ℕ) (n t : ℕ) → t < n → f t ≤ sum f n
sum_member f zero t h = absurd (omega arith)
sum_member f (suc n) t h = elim (ℕ_discrete n t) [ yes p ↦ omega (arith, ap f p) | no p ↦ omega (arith, sum_member f n t (omega arith)) ]
