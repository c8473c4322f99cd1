-- A table by its rows; the trees and the weights of the tasks by those of the tasks that they start. Assumes nothing.
use Rattle.std.proofs.Common.{◌≡◌, ℕ, zero, suc, ◌+◌, ◌<◌, List, [], ◌∷◌, ◌++◌, length, get_or, sym, refl, ap, ◌∙◌, ap₂, arith}
use native.Mathlib.Decide.{ℕ_discrete}
use Rattle.std.proofs.lemmas.List.{length_push, get_or_push, get_or_append_left}
use Rattle.model.specs.Program.{Op, send, receive, acquire, release, start, Program, sum}
use Rattle.model.specs.Threads.{at_start, forest, load, table, tree, weight, size}
use Rattle.model.proofs.Tools.{At, Known}

module _ {A : Type 0} (d : A) (step : ℕ → (ℕ → A) → A) where
  row : ℕ → ℕ → A
  row n k = get_or (table d step n) k d

  table-length : (n : ℕ) → length (table d step n) ≡ n
  table-length zero = refl
  table-length (suc n) = let e = length_push (table d step n) (step n (λ k. get_or (table d step n) k d)) in omega (arith, table-length n)

  -- A row is made from the rows before it.
  row_at : (n i : ℕ) → i < n → get_or (table d step n) i d ≡ step i (λ k. get_or (table d step i) k d)
  row_at zero i h = absurd (omega arith)
  row_at (suc n) i h = elim (ℕ_discrete n i) [
    | yes e ↦ get_or_push (table d step n) (step n (λ k. get_or (table d step n) k d)) d i (table-length n ∙ e) ∙ ap (λ m. step m (λ k. get_or (table d step m) k d)) e
    | no ne ↦ get_or_append_left (table d step n) (step n (λ k. get_or (table d step n) k d) ∷ []) d i (omega (arith, table-length n)) ∙ row_at n i (omega arith)
  ]

  -- Where a row depends only on the rows before it, it is made from the rows of the whole table.
  pub table-row : (n : ℕ) → ((i : ℕ) (f g : ℕ → A) → i < n → ((k : ℕ) → k < i → f k ≡ g k) → step i f ≡ step i g) →
      (i : ℕ) → i < n → get_or (table d step n) i d ≡ step i (λ k. get_or (table d step n) k d)
  table-row n only i h =
      row_at n i h ∙ only i (λ k. get_or (table d step i) k d) (λ k. get_or (table d step n) k d) h (λ k l. row_at i k l ∙ sym (row_at n k (omega arith)))

-- h of what stands for a start, where h makes f into g.
pub at_start_as : {A B Message : Type 0} (h : A → B) (d : A) (f : ℕ → A) (g : ℕ → B) (x : Op Message) → ((k : ℕ) → x ≡ start k → h (f k) ≡ g k) → h (at_start d f x) ≡ at_start (h d) g x
at_start_as h d f g (send c m) e = refl
at_start_as h d f g (receive c) e = refl
at_start_as h d f g (acquire l) e = refl
at_start_as h d f g (release l) e = refl
at_start_as h d f g (start k) e = e k refl

module _ {Message : Type 0} where
  pub forest-same : (f g : ℕ → List ℕ) (xs : List (Op Message)) → ((p k : ℕ) → At xs p (start k) → f k ≡ g k) → forest f xs ≡ forest g xs
  forest-same f g [] e = refl
  forest-same f g (x ∷ xs) e = ap₂ ◌++◌ (at_start_as (λ t. t) [] f g x (λ k a. e 0 k a)) (forest-same f g xs (λ p k a. e (suc p) k a))

  pub load_same : (f g : ℕ → ℕ) (xs : List (Op Message)) → ((p k : ℕ) → At xs p (start k) → f k ≡ g k) → load f xs ≡ load g xs
  load_same f g [] e = refl
  load_same f g (x ∷ xs) e = ap₂ ◌+◌ (at_start_as (λ t. t) 0 f g x (λ k a. e 0 k a)) (load_same f g xs (λ p k a. e (suc p) k a))

-- the sum over a list
abbrev pub total : (ℕ → ℕ) → List ℕ → ℕ
total w [] = 0
total w (i ∷ is) = w i + total w is

pub total-append : (w : ℕ → ℕ) (xs ys : List ℕ) → total w (xs ++ ys) ≡ total w xs + total w ys
total-append w [] ys = omega arith
total-append w (x ∷ xs) ys = omega (arith, total-append w xs ys)

pub total-one : (xs : List ℕ) → total (λ k. 1) xs ≡ length xs
total-one [] = refl
total-one (x ∷ xs) = omega (arith, total-one xs)

-- A sum over the numbers of the places of a list.
sum-front : (f : ℕ → ℕ) (n : ℕ) → sum f (suc n) ≡ f 0 + sum (λ u. f (suc u)) n
sum-front f zero = omega arith
sum-front f (suc n) = omega (arith, sum-front f n)

pub sum-total : (w : ℕ → ℕ) (xs : List ℕ) → sum (λ t. w (get_or xs t 0)) (length xs) ≡ total w xs
sum-total w [] = refl
sum-total w (x ∷ xs) = sum-front (λ t. w (get_or (x ∷ xs) t 0)) (length xs) ∙ ap (λ k. w x + k) (sum-total w xs)

module _ {Message : Type 0} (w : ℕ → ℕ) (tr : ℕ → List ℕ) where
  pub total-forest : (xs : List (Op Message)) → total w (forest tr xs) ≡ load (λ k. total w (tr k)) xs
  total-forest [] = refl
  total-forest (x ∷ xs) = total-append w (at_start [] tr x) (forest tr xs) ∙ ap₂ ◌+◌ (at_start_as (total w) [] tr (λ k. total w (tr k)) x (λ k a. refl)) (total-forest xs)

module _ {Level Message : Type 0} (B : Program Level Message) (S : Known B) where
  pub tree_of : (i : ℕ) → i < B.threads → tree B i ≡ i ∷ forest (tree B) (B.ops i)
  tree_of i h = table-row [] (λ n trees. n ∷ forest trees (B.ops n)) B.threads
      (λ j f g l e. ap (λ ts. j ∷ ts) (forest-same f g (B.ops j) (λ p k a. e k (S.falls j p k l a)))) i h

  pub weight_of : (w : ℕ → ℕ) (i : ℕ) → i < B.threads → weight B w i ≡ w i + load (weight B w) (B.ops i)
  weight_of w i h = table-row 0 (λ n weights. w n + load weights (B.ops n)) B.threads
      (λ j f g l e. ap (λ k. w j + k) (load_same f g (B.ops j) (λ p k a. e k (S.falls j p k l a)))) i h

  weighs : (w : ℕ → ℕ) (f i : ℕ) → i < f → i < B.threads → total w (tree B i) ≡ weight B w i
  weighs w zero i l h = absurd (omega arith)
  weighs w (suc f) i l h =
      ap (total w) (tree_of i h)
      ∙ ap (λ k. w i + k) (total-forest w (tree B) (B.ops i)
      ∙ load_same (λ k. total w (tree B k)) (weight B w) (B.ops i)
      (λ p k a. let less : k < i = S.falls i p k h a in weighs w f k (omega arith) (omega arith)))
      ∙ sym (weight_of w i h)

  -- A weight is the sum over the tree.
  pub total-tree : (w : ℕ → ℕ) (i : ℕ) → i < B.threads → total w (tree B i) ≡ weight B w i
  total-tree w i h = weighs w (suc i) i (omega arith) h

  pub sizes : (i : ℕ) → i < B.threads → size B i ≡ weight B (λ k. 1) i
  sizes i h = sym (total-one (tree B i)) ∙ total-tree (λ k. 1) i h

  -- The tree of a task is one more than the trees that it starts.
  pub size_of : (i : ℕ) → i < B.threads → size B i ≡ suc (load (size B) (B.ops i))
  size_of i h = ap length (tree_of i h) ∙ ap suc (sym (total-one (forest (tree B) (B.ops i)))
      ∙ total-forest (λ k. 1) (tree B) (B.ops i)
      ∙ load_same (λ k. total (λ u. 1) (tree B k)) (size B) (B.ops i) (λ p k a. total-one (tree B k)))
