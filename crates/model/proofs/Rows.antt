-- The tree of a task as rows: of each thread its task, the thread that wakes it, and at which place. Assumes nothing.
use Rattle.std.proofs.Common.{◌≡◌, ℕ, zero, suc, ◌+◌, ◌<◌, List, [], ◌∷◌, ◌++◌, map, length, get_or, sym, refl, ap, ◌∙◌, subst, ap₂, arith}
use lib.ListN.{length-map}
use Rattle.std.proofs.lemmas.List.{map-append}
use Rattle.model.specs.Program.{Op, start, Program}
use Rattle.model.specs.Threads.{at_start, forest, tree, size}
use Rattle.model.proofs.Numbers.{number}
use Rattle.model.proofs.Tables.{at_start_as, tree_of}
use Rattle.model.proofs.Tools.{At, Known}

pub record Row : Type 0 where
  pub task : ℕ
  pub waker : ℕ
  pub waking : ℕ

-- The rows that the operations of thread b bring about, from place q on, the first having number c; r makes the rows of one tree.
abbrev pub brood : {Message : Type 0} → (ℕ → ℕ) → (ℕ → ℕ → ℕ → ℕ → List Row) → List (Op Message) → ℕ → ℕ → ℕ → List Row
brood sz r [] c b q = []
brood sz r (x ∷ xs) c b q = at_start [] (λ k. r k c b q) x ++ brood sz r xs (c + at_start 0 sz x) b (suc q)

-- The rows that stand from number b on are these.
module _ (row : ℕ → Row) (n : ℕ) where
  abbrev pub Placed : ℕ → List Row → Type 0
  Placed b [] = Unit {0}
  Placed b (r ∷ rs) = (b < n) × (row b ≡ r) × Placed (suc b) rs

  pub placed-all : (d : Row) (b : ℕ) (rs : List Row) → ((j : ℕ) → j < length rs → (b + j < n) × (row (b + j) ≡ get_or rs j d)) → Placed b rs
  placed-all d b [] f = tt
  placed-all d b (r ∷ rs) f =
      let here = f 0 (omega arith) in
      let e : b + 0 ≡ b = omega arith in (
        omega (arith, here.0),
        ap row (sym e) ∙ here.1,
        placed-all d (suc b) rs (λ j l.
            let there = f (suc j) (omega arith) in
            let e' : suc b + j ≡ b + suc j = omega arith in
            (omega (arith, there.0), ap row e' ∙ there.1)),
      )

  pub placed_left : (b : ℕ) (xs ys : List Row) → Placed b (xs ++ ys) → Placed b xs
  placed_left b [] ys p = tt
  placed_left b (x ∷ xs) ys p = (p.0, p.1, placed_left (suc b) xs ys p.2)

  pub placed_right : (b m : ℕ) (xs ys : List Row) → length xs ≡ m → Placed b (xs ++ ys) → Placed (b + m) ys
  placed_right b m [] ys e p = let z : b ≡ b + m = omega arith in subst (λ c. Placed c ys) z p
  placed_right b m (x ∷ xs) ys e p =
      let z : suc b + length xs ≡ b + m = omega arith in
      subst (λ c. Placed c ys) z (placed_right (suc b) (length xs) xs ys refl p.2)

  module _ {Message : Type 0} (sz : ℕ → ℕ) (r : ℕ → ℕ → ℕ → ℕ → List Row) (b : ℕ) where
    -- The rows of the tree that one operation starts stand where the numbering says.
    pub placed-start : (xs : List (Op Message)) (c q : ℕ) → ((p k : ℕ) → At xs p (start k) → (c q : ℕ) → length (r k c b q) ≡ sz k) →
        Placed c (brood sz r xs c b q) → (p k : ℕ) → At xs p (start k) → Placed (number sz xs p c) (r k (number sz xs p c) b (q + p))
    placed-start [] c q long h p k a = absurd a
    placed-start (x ∷ xs) c q long h zero k a =
        let z : q ≡ q + 0 = omega arith in
        subst (λ v. Placed c (r k c b v)) z
        (subst (λ y. Placed c (at_start [] (λ k. r k c b q) y)) a
        (placed_left c (at_start [] (λ k. r k c b q) x) (brood sz r xs (c + at_start 0 sz x) b (suc q)) h))
    placed-start (x ∷ xs) c q long h (suc p) k a =
        let z : suc q + p ≡ q + suc p = omega arith in
        let c' : ℕ = c + at_start 0 sz x in
        subst (λ v. Placed (number sz xs p c') (r k (number sz xs p c') b v)) z
        (placed-start xs c' (suc q) (λ p k a. long (suc p) k a)
        (placed_right c (at_start 0 sz x) (at_start [] (λ k. r k c b q) x) (brood sz r xs c' b (suc q))
        (at_start_as length [] (λ k. r k c b q) sz x (λ k e. long 0 k e c q)) h)
        p k a)

module _ {Level Message : Type 0} (B : Program Level Message) (S : Known B) where
  -- The rows of the tree of task i, as thread b, woken by thread s at place p. The first number bounds the tasks.
  abbrev pub rows : ℕ → ℕ → ℕ → ℕ → ℕ → List Row
  rows zero i b s p = []
  rows (suc f) i b s p = record { task = i; waker = s; waking = p } ∷ brood (size B) (rows f) (B.ops i) (suc b) b 0

  brood-tasks : (r : ℕ → ℕ → ℕ → ℕ → List Row) (xs : List (Op Message)) (c b q : ℕ) →
      ((p k : ℕ) → At xs p (start k) → (c b q : ℕ) → map (λ (w : Row). w.task) (r k c b q) ≡ tree B k) →
      map (λ (w : Row). w.task) (brood (size B) r xs c b q) ≡ forest (tree B) xs
  brood-tasks r [] c b q e = refl
  brood-tasks r (x ∷ xs) c b q e =
      map-append (λ (w : Row). w.task) (at_start [] (λ k. r k c b q) x) (brood (size B) r xs (c + at_start 0 (size B) x) b (suc q))
      ∙ ap₂ ◌++◌ (at_start_as (map (λ (w : Row). w.task)) [] (λ k. r k c b q) (tree B) x (λ k a. e 0 k a c b q)) (brood-tasks r xs (c + at_start 0 (size B) x) b (suc q) (λ p k a. e (suc p) k a))

  -- The tasks of the rows are the tree.
  pub rows-tasks : (f i b s p : ℕ) → i < f → i < B.threads → map (λ (w : Row). w.task) (rows f i b s p) ≡ tree B i
  rows-tasks zero i b s p l h = absurd (omega arith)
  rows-tasks (suc f) i b s p l h =
      ap (λ ts. i ∷ ts) (brood-tasks (rows f) (B.ops i) (suc b) b 0
      (λ q k a c b q'. let less : k < i = S.falls i q k h a in rows-tasks f k c b q' (omega arith) (omega arith)))
      ∙ sym (tree_of B S i h)

  pub rows-length : (f i b s p : ℕ) → i < f → i < B.threads → length (rows f i b s p) ≡ size B i
  rows-length f i b s p l h = sym (length-map (rows f i b s p) (λ (w : Row). w.task)) ∙ ap length (rows-tasks f i b s p l h)
