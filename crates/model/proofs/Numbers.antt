-- The operations of a thread against those of its task. Assumes nothing.
use Rattle.std.proofs.Common.{◌≡◌, ℕ, zero, suc, ◌+◌, ◌<◌, ◌≤◌, List, [], ◌∷◌, length, sym, refl, ap, subst, arith}
use native.Mathlib.Decide.{dec_lt}
use Rattle.model.specs.Program.{Op, send, receive, acquire, release, start, step_at, after}
use Rattle.model.specs.Threads.{at_start, renamed, renamed_step, load, numbered}
use Rattle.model.proofs.Tools.{At}
use Rattle.model.proofs.Walks.{starts-some, grows}

module _ {Message : Type 0} where
  -- A renamed operation that starts t.
  pub renamed-start : (u t : ℕ) (x : Op Message) → start t ≡ renamed u x → (k : ℕ) × (x ≡ start k) × (t ≡ u)
  renamed-start u t (send c m) e = absurd (let n : suc t ≡ 0 = ap (at_start 0 suc) e in omega arith)
  renamed-start u t (receive c) e = absurd (let n : suc t ≡ 0 = ap (at_start 0 suc) e in omega arith)
  renamed-start u t (acquire l) e = absurd (let n : suc t ≡ 0 = ap (at_start 0 suc) e in omega arith)
  renamed-start u t (release l) e = absurd (let n : suc t ≡ 0 = ap (at_start 0 suc) e in omega arith)
  renamed-start u t (start k) e = (k, refl, let n : suc t ≡ suc u = ap (at_start 0 suc) e in omega arith)

  module _ (size : ℕ → ℕ) where
    -- the number of the first thread started at place p or later, where the first of all is u
    abbrev pub number : List (Op Message) → ℕ → ℕ → ℕ
    number xs p u = after (λ o u. u + at_start 0 size o) xs p u

    pub number-grows : (xs : List (Op Message)) (p u : ℕ) → u ≤ number xs p u
    number-grows xs p u = grows (at_start 0 size) xs p u

    pub numbered-length : (xs : List (Op Message)) (u : ℕ) → length (numbered size u xs) ≡ length xs
    numbered-length [] u = refl
    numbered-length (x ∷ xs) u = ap suc (numbered-length xs (u + at_start 0 size x))

    pub numbered_step : (xs : List (Op Message)) (p u : ℕ) → step_at (numbered size u xs) p ≡ renamed_step (number xs p u) (step_at xs p)
    numbered_step [] p u = refl
    numbered_step (x ∷ xs) zero u = refl
    numbered_step (x ∷ xs) (suc p) u = numbered_step xs p (u + at_start 0 size x)

    pub numbered-at : (xs : List (Op Message)) (p u : ℕ) (x : Op Message) → At xs p x → At (numbered size u xs) p (renamed (number xs p u) x)
    numbered-at [] p u x a = absurd a
    numbered-at (y ∷ xs) zero u x a = ap (renamed u) a
    numbered-at (y ∷ xs) (suc p) u x a = numbered-at xs p (u + at_start 0 size y) x a

    pub numbered-from : (xs : List (Op Message)) (p u : ℕ) (o : Op Message) → At (numbered size u xs) p o → (x : Op Message) × At xs p x × (o ≡ renamed (number xs p u) x)
    numbered-from [] p u o a = absurd a
    numbered-from (y ∷ xs) zero u o a = (y, refl, sym a)
    numbered-from (y ∷ xs) (suc p) u o a = numbered-from xs p (u + at_start 0 size y) o a

    pub numbered-start : (xs : List (Op Message)) (p u t : ℕ) → At (numbered size u xs) p (start t) → (k : ℕ) × At xs p (start k) × (t ≡ number xs p u)
    numbered-start xs p u t a =
        let r = numbered-from xs p u (start t) a in
        let s = renamed-start (number xs p u) t r.0 r.2 in
        (s.0, subst (At xs p) s.1 r.1, s.2)

    -- Every number in the range of the started trees is in one of them.
    pub find-start : (xs : List (Op Message)) (c u : ℕ) → c ≤ u → u < c + load size xs →
        (p : ℕ) × (k : ℕ) × At xs p (start k) × (number xs p c ≤ u) × (u < number xs p c + size k)
    find-start [] c u l h = absurd (omega arith)
    find-start (x ∷ xs) c u l h = elim (dec_lt u (c + at_start 0 size x)) [
      | yes y ↦ (let s = starts-some size x (omega arith) in (0, s.0, s.1, l, omega (arith, s.2)))
      | no n ↦ (let r = find-start xs (c + at_start 0 size x) u (omega arith) (omega arith) in (suc r.0, r.1, r.2, r.3, r.4))
    ]
