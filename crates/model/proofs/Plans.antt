-- The threads of a plan by task, and the promises said of it. Assumes nothing.
use Rattle.std.proofs.Common.{◌≡◌, ℕ, suc, ◌+◌, ◌*◌, ◌<◌, ◌≤◌, Bool, ◌↔◌, length, sym, refl, ap, ◌∙◌, subst, arith}
use mathlib.Core.Path.{fun_ext}
use Rattle.model.specs.Accounts.{Bounded}
use Rattle.model.specs.Program.{start, Program, tally, sum, send_weight, moves, sends, Within, Formed}
use Rattle.model.specs.Rules.{Cleared}
use Rattle.model.specs.Threads.{tree, weight, main, task, size, woken_at, by_thread, Sound, Threads, Limited, AccountsFit, ThreadLaws, PlanPromises, PlanOrderDoesNotMatter, PlanAccounts}
use Rattle.model.proofs.Bounds.{wider, walk_near, account_law}
use Rattle.model.proofs.Breaches.{step_op, op-step, cleared_walkable, walkable_cleared}
use Rattle.model.proofs.Main.{run_promises, order_does_not_matter}
use Rattle.model.proofs.Numbers.{number-grows, numbered-length, numbered_step, numbered-at, numbered-from, numbered-start}
use Rattle.model.proofs.Rows.{Row}
use Rattle.model.proofs.Seats.{row, main-known, task_of, woken-row, woken-is, woken-task, main_thread, threads_of}
use Rattle.model.proofs.Tables.{sum-total, tree_of, weight_of, total-tree, sizes}
use Rattle.model.proofs.TaskWalks.{after-numbered, renamed_as, within-renamed, walkable_of}
use Rattle.model.proofs.Tools.{At, Known}

module _ {Level Message : Type 0} (B : Program Level Message) (S : Sound B) where
  pub known : Known B
  known = record {
    has_task = S.has_task;
    falls = λ i p k h a. S.falls i p k h (op-step (B.ops i) p (start k) a);
    named = λ k h. let r = S.named k h in (r.0, r.1, r.2, step_op (B.ops r.0) r.1 (start k) r.3);
    main_opening = S.main_opening;
    within = λ i p o h a. S.within i p o h (op-step (B.ops i) p o a);
    few_objects = S.few_objects;
  }

module _ {Level Message : Type 0} (B : Program Level Message) (S : Known B) where
  -- Each thread but the first is started once.
  started_by : (s p t : ℕ) → s < (by_thread B).threads → At ((by_thread B).ops s) p (start t) → (0 < t) × (t < (by_thread B).threads) × ((row B S t).waker ≡ s) × ((row B S t).waking ≡ p)
  started_by s p t h a =
      let r = numbered-start (size B) (B.ops (task B s)) p (suc s) t a in
      let w = woken-is B S s p r.0 h r.1 in
      let e : row B S t ≡ record { task = r.0; waker = s; waking = p } = ap (row B S) r.2 ∙ w.1 in
      (omega (arith, r.2, number-grows (size B) (B.ops (task B s)) p (suc s)), omega (arith, r.2, w.0), ap (λ (w : Row). w.waker) e, ap (λ (w : Row). w.waking) e)

  formed : Formed (by_thread B)
  formed = record {
    few_objects = S.few_objects;
    main_opening = λ x. ap (λ i. B.opening i x) (main_thread B S).1 ∙ S.main_opening x;
    started = λ t l h.
        let r = woken-row B S t l h in
        ((row B S t).waker, (row B S t).waking, r.0, op-step ((by_thread B).ops (row B S t).waker) (row B S t).waking (start t) r.1);
    once = λ s p s' p' u h h' e e'.
        let a = started_by s p u h (step_op ((by_thread B).ops s) p (start u) e) in
        let b = started_by s' p' u h' (step_op ((by_thread B).ops s') p' (start u) e') in
        (sym a.2 ∙ b.2, sym a.3 ∙ b.3);
    starts = λ s p u h e. let a = started_by s p u h (step_op ((by_thread B).ops s) p (start u) e) in (a.0, a.1);
    within = λ s p o h e.
        let r = numbered-from (size B) (B.ops (task B s)) p (suc s) o (step_op ((by_thread B).ops s) p o e) in
        subst (Within (by_thread B)) (sym r.2) (within-renamed B (woken_at B s p) r.0 (S.within (task B s) p r.0 (task_of B S s h) r.1));
  }

  -- A sum over the threads, of what depends on the task.
  sum-threads : (w : ℕ → ℕ) → sum (λ t. w (task B t)) (by_thread B).threads ≡ weight B w (main B)
  sum-threads w = sum-total w (tree B (main B)) ∙ total-tree B S w (main B) (main-known B S)

  move_count : moves (by_thread B) ≡ weight B (λ k. suc (length (B.ops k))) (main B)
  move_count =
      ap (λ f. sum f (by_thread B).threads) (fun_ext (λ t. ap suc (numbered-length (size B) (B.ops (task B t)) (suc t))))
      ∙ sum-threads (λ k. suc (length (B.ops k)))

  send_count : sends (by_thread B) ≡ weight B (λ k. tally send_weight (B.ops k) (length (B.ops k))) (main B)
  send_count =
      ap (λ f. sum f (by_thread B).threads) (fun_ext (λ t.
      ap (tally send_weight ((by_thread B).ops t)) (numbered-length (size B) (B.ops (task B t)) (suc t))
      ∙ after-numbered (size B) (λ o k. k + send_weight o) (λ o k. k + send_weight o) (B.ops (task B t)) (length (B.ops (task B t))) (suc t) 0
      (λ q x b a. ap (λ k. b + k) (renamed_as send_weight (woken_at B t q) (λ k. refl) x))))
      ∙ sum-threads (λ k. tally send_weight (B.ops k) (length (B.ops k)))

  pub cleared_of : (below : Level → Level → Bool) → Cleared (by_thread B) below ↔ Cleared B below
  cleared_of below = (
    λ c. walkable_cleared B below ((walkable_of B S below).0 (cleared_walkable (by_thread B) below c)),
    λ c. walkable_cleared (by_thread B) below ((walkable_of B S below).1 (cleared_walkable B below c)),
  )

  pub threads-laws : Threads B
  threads-laws = record {
    formed = formed;
    tree_of = tree_of B S;
    weight_of = weight_of B S;
    thread_count = sizes B S (main B) (main-known B S);
    move_count = move_count;
    send_count = send_count;
    sizes = sizes B S;
    main_thread = main_thread B S;
    steps = λ t p. numbered_step (size B) (B.ops (task B t)) p (suc t);
    lengths = λ t. numbered-length (size B) (B.ops (task B t)) (suc t);
    wakes = λ t p k h e.
        let a = step_op (B.ops (task B t)) p (start k) e in
        (op-step ((by_thread B).ops t) p (start (woken_at B t p)) (numbered-at (size B) (B.ops (task B t)) p (suc t) (start k) a), (woken-is B S t p k h a).0, woken-task B S t p k h a);
    threads_of = threads_of B S;
    task_of = task_of B S;
    cleared = cleared_of;
  }

pub thread-laws : {Level Message : Type 0} → ThreadLaws Level Message
thread-laws B S = threads-laws B (known B S)

pub plan_promises : {Level Message Mailbox : Type 0} → PlanPromises Level Message Mailbox
plan_promises below irreflexive transitive K B S m log h =
    let t = thread-laws B S in
    let r = run_promises below irreflexive transitive K (by_thread B) t.formed m log h in
    let c = t.cleared below in
    record {
      cleared_never_halts = λ C. r.cleared_never_halts (c.1 C);
      halted_by_breach = r.halted_by_breach;
      never_stuck = r.never_stuck;
      home_exactly = (λ a. (c.0 (r.home_exactly.0 a).0, (r.home_exactly.0 a).1), λ q. r.home_exactly.1 (c.1 q.0, q.1));
      credits_balance = r.credits_balance;
      locks_exclusive = r.locks_exclusive;
      place_counts_grants = r.place_counts_grants;
      position_determined = r.position_determined;
    }

module _ {Level Message : Type 0} (B : Program Level Message) (S : Sound B) (L : Limited B) where
  task_bounded : Bounded B 100
  task_bounded = record { some_count = omega arith; opened = L.opened; carried = L.carried }

  thread_bounded : Bounded (by_thread B) 100
  thread_bounded = record { some_count = omega arith; opened = λ t x h. L.opened (task B t) x ((thread-laws B S).task_of t h); carried = L.carried }

  task-starts : (i p k : ℕ) → i < B.threads → At (B.ops i) p (start k) → k < B.threads
  task-starts i p k h a = let l = (known B S).falls i p k h a in omega arith

  thread-short : (t : ℕ) → t < (by_thread B).threads → length ((by_thread B).ops t) ≤ 512
  thread-short t h = omega (arith, numbered-length (size B) (B.ops (task B t)) (suc t), L.short (task B t) ((thread-laws B S).task_of t h))

  pub accounts_fit : (Mailbox : Type 0) → AccountsFit B Mailbox
  accounts_fit Mailbox = record {
    walks = λ i p x h l. wider (suc p * 100) 51300 _ (omega (arith, L.short i h)) (walk_near B task-starts 100 task_bounded i p x h);
    runs = λ below K m log h t x l. wider (suc (length ((by_thread B).ops t)) * 100) 51300 _ (omega (arith, thread-short t l))
        ((account_law (by_thread B) (thread-laws B S).formed 100 thread_bounded).runs below K m log h t x l);
  }

pub plan-accounts : {Level Message Mailbox : Type 0} → PlanAccounts Level Message Mailbox
plan-accounts B S L = accounts_fit B S L _

pub plan-order : {Level Message Mailbox Mailbox' : Type 0} → PlanOrderDoesNotMatter Level Message Mailbox Mailbox'
plan-order below below' K K' B S = order_does_not_matter below below' K K' (by_thread B) (thread-laws B S).formed
