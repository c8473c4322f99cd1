-- Every thread has its row, and the rows are as the operations say. Assumes nothing.
use Rattle.std.proofs.Common.{◌≡◌, ℕ, zero, suc, ◌+◌, ◌<◌, ◌≤◌, List, length, get_or, sym, ap, ◌∙◌, subst, zero-add, arith}
use native.Mathlib.Decide.{ℕ_discrete}
use lib.ListN.{get_or-map}
use Rattle.model.specs.Program.{start, Program}
use Rattle.model.specs.Threads.{tree, main, task, size, woken_at, by_thread}
use Rattle.model.proofs.Numbers.{number, number-grows, numbered-at, find-start}
use Rattle.model.proofs.Rows.{Row, Placed, placed-all, placed-start, rows, rows-tasks, rows-length}
use Rattle.model.proofs.Tables.{size_of}
use Rattle.model.proofs.Tools.{At, Known}

abbrev none : Row
none = record { task = 0; waker = 0; waking = 0 }

module _ {Level Message : Type 0} (B : Program Level Message) (S : Known B) where
  abbrev all : List Row
  all = rows B S (suc (main B)) (main B) 0 0 0

  abbrev pub row : ℕ → Row
  row t = get_or all t none

  abbrev count : ℕ
  count = length (tree B (main B))

  pub main-known : main B < B.threads
  main-known = omega (arith, S.has_task)

  all-length : length all ≡ count
  all-length = rows-length B S (suc (main B)) (main B) 0 0 0 (omega arith) main-known

  pub row-task : (t : ℕ) → task B t ≡ (row t).task
  row-task t =
      ap (λ ts. get_or ts t 0) (sym (rows-tasks B S (suc (main B)) (main B) 0 0 0 (omega arith) main-known))
      ∙ get_or-map (λ (w : Row). w.task) all t none

  -- Thread u stands at the head of the rows of its tree, and is woken by the operation that its row names. The number f bounds its task.
  record Seat (f u : ℕ) : Type 0 where
    less : (row u).task < f
    known : (row u).task < B.threads
    placed : Placed row count u (rows B S f (row u).task u (row u).waker (row u).waking)
    woken : 0 < u → ((row u).waker < u) × At ((by_thread B).ops (row u).waker) (row u).waking (start u)

  first-seat : Seat (suc (main B)) 0
  first-seat = record {
    less = omega arith;
    known = main-known;
    placed = placed-all row count none 0 all (λ j l. (omega (arith, all-length), ap row (zero-add j)));
    woken = λ h. absurd (omega arith);
  }

  -- What a start wakes: the row of that thread.
  record Child (f b q k c : ℕ) : Type 0 where
    inside : c < count
    is : row c ≡ record { task = k; waker = b; waking = q }
    seat : Seat f c

  child : (f b : ℕ) → Seat (suc f) b → (q k : ℕ) → At (B.ops (row b).task) q (start k) → Child f b q k (number (size B) (B.ops (row b).task) q (suc b))
  child f b s q k a = go f (omega (arith, fewer, s.less)) (subst (λ v. Placed row count c (rows B S f k c b v)) (zero-add q)
      (placed-start row count (size B) (rows B S f) b (B.ops i) (suc b) 0
      (λ p k' a' c' q'. let l : k' < i = S.falls i p k' s.known a' in rows-length B S f k' c' b q' (omega (arith, s.less)) (omega (arith, s.known)))
      s.placed.2 q k a))
    where
      i : ℕ
      i = (row b).task

      c : ℕ
      c = number (size B) (B.ops i) q (suc b)

      fewer : k < i
      fewer = S.falls i q k s.known a

      go : (g : ℕ) → k < g → Placed row count c (rows B S g k c b q) → Child g b q k c
      go zero l p = absurd (omega arith)
      go (suc g) l p = record {
        inside = p.0;
        is = p.1;
        seat = record {
          less = subst (λ (r : Row). r.task < suc g) (sym p.1) l;
          known = subst (λ (r : Row). r.task < B.threads) (sym p.1) (omega (arith, fewer, s.known));
          placed = subst (λ (r : Row). Placed row count c (rows B S (suc g) r.task c r.waker r.waking)) (sym p.1) p;
          woken = λ h. subst (λ (r : Row). (r.waker < c) × At ((by_thread B).ops r.waker) r.waking (start c)) (sym p.1) (
            number-grows (size B) (B.ops i) q (suc b),
            subst (λ j. At ((by_thread B).ops b) q (start (number (size B) (B.ops j) q (suc b)))) (row-task b)
                (numbered-at (size B) (B.ops (task B b)) q (suc b) (start k) (subst (λ j. At (B.ops j) q (start k)) (sym (row-task b)) a)),
          );
        };
      }

  child_range : (f b q k c u : ℕ) → Child f b q k c → u < c + size B k → u < c + size B (row c).task
  child_range f b q k c u h l = subst (λ (w : Row). u < c + size B w.task) (sym h.is) l

  -- Every thread of the tree below a seat has a seat.
  reach : (f b u : ℕ) → Seat f b → b ≤ u → u < b + size B (row b).task → (g : ℕ) × Seat g u
  reach zero b u s l h = absurd (omega (arith, s.less))
  reach (suc f) b u s l h = elim (ℕ_discrete b u) [
    | yes e ↦ (suc f, subst (Seat (suc f)) e s)
    | no ne ↦ (
        let r = find-start (size B) (B.ops (row b).task) (suc b) u (omega arith) (omega (arith, size_of B S (row b).task s.known)) in
        let c = child f b s r.0 r.1 r.2 in
        reach f _ u c.seat r.3 (child_range f b r.0 r.1 _ u c r.4))
  ]

  seat : (u : ℕ) → u < count → (g : ℕ) × Seat g u
  seat u h = reach (suc (main B)) 0 u first-seat (omega arith) (omega arith)

  pub task_of : (t : ℕ) → t < count → task B t < B.threads
  task_of t h = subst (λ k. k < B.threads) (sym (row-task t)) (seat t h).1.known

  pub woken-row : (t : ℕ) → 0 < t → t < count → ((row t).waker < t) × At ((by_thread B).ops (row t).waker) (row t).waking (start t)
  woken-row t l h = (seat t h).1.woken l

  -- The thread that a start wakes, with its row.
  pub woken-is : (t p k : ℕ) → t < count → At (B.ops (task B t)) p (start k) →
      (woken_at B t p < count) × (row (woken_at B t p) ≡ record { task = k; waker = t; waking = p })
  woken-is t p k h a = go (seat t h).0 (seat t h).1
    where
      go : (g : ℕ) → Seat g t → (woken_at B t p < count) × (row (woken_at B t p) ≡ record { task = k; waker = t; waking = p })
      go zero s = absurd (omega (arith, s.less))
      go (suc g) s =
          let c = child g t s p k (subst (λ j. At (B.ops j) p (start k)) (row-task t) a) in
          subst (λ j. (number (size B) (B.ops j) p (suc t) < count) × (row (number (size B) (B.ops j) p (suc t)) ≡ record { task = k; waker = t; waking = p }))
          (sym (row-task t)) (c.inside, c.is)

  pub woken-task : (t p k : ℕ) → t < count → At (B.ops (task B t)) p (start k) → task B (woken_at B t p) ≡ k
  woken-task t p k h a = row-task (woken_at B t p) ∙ ap (λ (r : Row). r.task) (woken-is t p k h a).1

  -- Every task has a thread: the main task has one, and every other is named by a later task.
  pub main_thread : (0 < count) × (task B 0 ≡ main B)
  main_thread = (omega (arith, size_of B S (main B) main-known), row-task 0)

  -- A task that a task with a thread names has a thread.
  named-thread : (i j p t : ℕ) → t < count → task B t ≡ j → At (B.ops j) p (start i) → (u : ℕ) × (u < count) × (task B u ≡ i)
  named-thread i j p t h e a =
      let a' : At (B.ops (task B t)) p (start i) = subst (λ v. At (B.ops v) p (start i)) (sym e) a in
      (woken_at B t p, (woken-is t p i h a').0, woken-task t p i h a')

  threads-from : (m i : ℕ) → main B ≤ i + m → i < B.threads → (t : ℕ) × (t < count) × (task B t ≡ i)
  threads-from zero i l h = (0, main_thread.0, main_thread.1 ∙ omega arith)
  threads-from (suc m) i l h = elim (ℕ_discrete (main B) i) [
    | yes e ↦ (0, main_thread.0, main_thread.1 ∙ e)
    | no ne ↦ (
        let r = S.named i (omega arith) in
        let less : i < r.0 = S.falls r.0 r.1 i r.2 r.3 in
        let t = threads-from m r.0 (omega arith) r.2 in
        named-thread i r.0 r.1 t.0 t.1 t.2 r.3)
  ]

  pub threads_of : (i : ℕ) → i < B.threads → (t : ℕ) × (t < count) × (task B t ≡ i)
  threads_of i h = threads-from (main B) i (omega arith) h
