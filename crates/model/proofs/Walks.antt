-- The items of a list by number, and what the first operations of a list come to. Assumes nothing.
use Rattle.std.proofs.Common.{◌≡◌, ℕ, zero, suc, ◌+◌, ◌<◌, ◌≤◌, List, [], ◌∷◌, length, sym, refl, ap, ◌∙◌, arith}
use Rattle.model.specs.Program.{Op, send, receive, acquire, release, start, after, tally}
use Rattle.model.specs.Threads.{at_start}
use Rattle.model.proofs.Tools.{At}

module _ {A : Type 0} where
  pub at_one : (xs : List A) (p : ℕ) (o o' : A) → At xs p o → At xs p o' → o ≡ o'
  at_one [] p o o' a b = absurd a
  at_one (x ∷ xs) zero o o' a b = sym a ∙ b
  at_one (x ∷ xs) (suc p) o o' a b = at_one xs p o o' a b

  pub at-below : (xs : List A) (p : ℕ) (o : A) → At xs p o → p < length xs
  at-below [] p o a = absurd a
  at-below (x ∷ xs) zero o a = omega arith
  at-below (x ∷ xs) (suc p) o a = omega (arith, at-below xs p o a)

  pub at_some : (xs : List A) (p : ℕ) → p < length xs → (o : A) × At xs p o
  at_some [] p h = absurd (omega arith)
  at_some (x ∷ xs) zero h = (x, refl)
  at_some (x ∷ xs) (suc p) h = at_some xs p (omega arith)

module _ {Message : Type 0} where
  -- An operation that counts by what it starts starts something.
  pub starts-some : (f : ℕ → ℕ) (x : Op Message) → 0 < at_start 0 f x → (k : ℕ) × (x ≡ start k) × (at_start 0 f x ≡ f k)
  starts-some f (send c m) h = absurd (omega arith)
  starts-some f (receive c) h = absurd (omega arith)
  starts-some f (acquire l) h = absurd (omega arith)
  starts-some f (release l) h = absurd (omega arith)
  starts-some f (start k) h = (k, refl, refl)

  -- One operation more.
  pub after_more : {S : Type 0} (f : Op Message → S → S) (xs : List (Op Message)) (p : ℕ) (o : Op Message) (s : S) → At xs p o → after f xs (suc p) s ≡ f o (after f xs p s)
  after_more f [] p o s a = absurd a
  after_more f (x ∷ xs) zero o s a = ap (λ y. f y s) a
  after_more f (x ∷ xs) (suc p) o s a = after_more f xs p o (f x s) a

  -- Past the end nothing is added.
  pub after-end : {S : Type 0} (f : Op Message → S → S) (xs : List (Op Message)) (s : S) → after f xs (suc (length xs)) s ≡ after f xs (length xs) s
  after-end f [] s = refl
  after-end f (x ∷ xs) s = after-end f xs (f x s)

  module _ (weight : Op Message → ℕ) where
    pub grows : (xs : List (Op Message)) (p k : ℕ) → k ≤ after (λ o k. k + weight o) xs p k
    grows xs zero k = omega arith
    grows [] (suc p) k = omega arith
    grows (x ∷ xs) (suc p) k = omega (arith, grows xs p (k + weight x))

    within_all : (xs : List (Op Message)) (p k : ℕ) → after (λ o k. k + weight o) xs p k ≤ after (λ o k. k + weight o) xs (length xs) k
    within_all xs zero k = grows xs (length xs) k
    within_all [] (suc p) k = omega arith
    within_all (x ∷ xs) (suc p) k = within_all xs p (k + weight x)

    pub tally-within : (xs : List (Op Message)) (p : ℕ) → tally weight xs p ≤ tally weight xs (length xs)
    tally-within xs p = within_all xs p 0

    pub tally_more : (xs : List (Op Message)) (p : ℕ) (o : Op Message) → At xs p o → tally weight xs (suc p) ≡ tally weight xs p + weight o
    tally_more xs p o a = after_more (λ o k. k + weight o) xs p o 0 a

    pub tally-end : (xs : List (Op Message)) → tally weight xs (suc (length xs)) ≡ tally weight xs (length xs)
    tally-end xs = after-end (λ o k. k + weight o) xs 0

    -- Operations that all weigh nothing.
    none_from : (xs : List (Op Message)) (n k : ℕ) → ((p : ℕ) (o : Op Message) → p < n → At xs p o → weight o ≡ 0) → after (λ o k. k + weight o) xs n k ≡ k
    none_from xs zero k z = refl
    none_from [] (suc n) k z = refl
    none_from (x ∷ xs) (suc n) k z = none_from xs n (k + weight x) (λ p o l a. z (suc p) o (omega arith) a) ∙ (let e = z 0 x (omega arith) refl in omega arith)

    pub tally-none : (xs : List (Op Message)) (n : ℕ) → ((p : ℕ) (o : Op Message) → p < n → At xs p o → weight o ≡ 0) → tally weight xs n ≡ 0
    tally-none xs n z = none_from xs n 0 z

    -- Each operation that was passed is counted.
    some-from : (xs : List (Op Message)) (p n k : ℕ) (o : Op Message) → p < n → At xs p o → k + weight o ≤ after (λ o k. k + weight o) xs n k
    some-from [] p n k o l a = absurd a
    some-from (x ∷ xs) p zero k o l a = absurd (omega arith)
    some-from (x ∷ xs) zero (suc n) k o l a = omega (arith, ap weight a, grows xs n (k + weight x))
    some-from (x ∷ xs) (suc p) (suc n) k o l a = omega (arith, some-from xs p n (k + weight x) o (omega arith) a)

    pub tally-some : (xs : List (Op Message)) (p n : ℕ) (o : Op Message) → p < n → At xs p o → weight o ≤ tally weight xs n
    tally-some xs p n o l a = omega (arith, some-from xs p n 0 o l a)
