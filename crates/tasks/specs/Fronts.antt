-- Lists at the front of arrays, and what an array is by its list.
use Rattle.std.specs.Prelude.{◌≡◌, ℕ, ◌-◌, ◌≤◌, List, ◌++◌, length, take, drop, replicate}
use Rattle.std.proofs.Common.{sym, ap, ◌∙◌, take-append-drop, length-take-le}

-- An array of n elements of which the first i are the list, and the others are all `blank`.
abbrev pub IsFront : {A : Type 0} → ℕ → A → ℕ → List A → Type 0
IsFront n blank i xs = (length xs ≡ n) × (i ≤ length xs) × (drop i xs ≡ replicate (n - i) blank)

pub front_length : {A : Type 0} (n : ℕ) (blank : A) (i : ℕ) (xs : List A) → IsFront n blank i xs → length (take i xs) ≡ i
front_length n blank i xs h = length-take-le i xs h.1

pub front_back : {A : Type 0} (n : ℕ) (blank : A) (i : ℕ) (xs : List A) → IsFront n blank i xs
    → take i xs ++ replicate (n - length (take i xs)) blank ≡ xs
front_back n blank i xs h =
    ap (λ k. take i xs ++ replicate (n - k) blank) (front_length n blank i xs h)
    ∙ ap (λ ys. take i xs ++ ys) (sym h.2)
    ∙ take-append-drop i xs
