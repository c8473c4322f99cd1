-- The walk of a thread is the walk of its task. Assumes nothing.
use Rattle.std.proofs.Common.{◌≡◌, ℕ, zero, suc, ◌+◌, ◌<◌, Bool, ◌↔◌, List, [], ◌∷◌, length, ◌-ℤ◌, sym, refl, ap, ◌∙◌, subst, ap₂, subst₂}
use Rattle.model.specs.Program.{Op, send, receive, acquire, release, start, Account, Locks, Program, after, Within}
use Rattle.model.specs.Rules.{locked, paid, account_at, locks_at}
use Rattle.model.specs.Threads.{at_start, renamed, numbered, task, size, woken_at, by_thread}
use Rattle.model.proofs.Numbers.{number, numbered-length, numbered-at, numbered-from}
use Rattle.model.proofs.Seats.{task_of, woken-task, threads_of}
use Rattle.model.proofs.Tools.{At, Settled, Permitted, Walkable, Known}

-- What numbered operations make of s, where each does as the operation that it comes from.
module _ {Message A : Type 0} (sz : ℕ → ℕ) (f g : Op Message → A → A) where
  pub after-numbered : (xs : List (Op Message)) (p u : ℕ) (a : A) → ((q : ℕ) (x : Op Message) (b : A) → At xs q x → f (renamed (number sz xs q u) x) b ≡ g x b) →
      after f (numbered sz u xs) p a ≡ after g xs p a
  after-numbered xs zero u a e = refl
  after-numbered [] (suc p) u a e = refl
  after-numbered (x ∷ xs) (suc p) u a e =
      after-numbered xs p (u + at_start 0 sz x) (f (renamed u x) a) (λ q y b h. e (suc q) y b h)
      ∙ ap (after g xs p) (e 0 x a refl)

-- What does not depend on the thread that an operation starts is the same of a renamed operation.
pub renamed_as : {A Message : Type 0} (f : Op Message → A) (u : ℕ) → ((k : ℕ) → f (start u) ≡ f (start k)) → (x : Op Message) → f (renamed u x) ≡ f x
renamed_as f u e (send c m) = refl
renamed_as f u e (receive c) = refl
renamed_as f u e (acquire l) = refl
renamed_as f u e (release l) = refl
renamed_as f u e (start k) = e k

module _ {Level Message : Type 0} (B : Program Level Message) where
  -- A renamed operation does to an account what the operation does, if the thread that it starts is of that task.
  paid-renamed : (u : ℕ) (x : Op Message) (a : Account) → ((k : ℕ) → x ≡ start k → task B u ≡ k) → paid (by_thread B) (renamed u x) a ≡ paid B x a
  paid-renamed u (send c m) a e = refl
  paid-renamed u (receive c) a e = refl
  paid-renamed u (acquire l) a e = refl
  paid-renamed u (release l) a e = refl
  paid-renamed u (start k) a e = ap (λ i x. a x -ℤ B.opening i x) (e k refl)

  pub within-renamed : (u : ℕ) (x : Op Message) → Within B x → Within (by_thread B) (renamed u x)
  within-renamed u (send c m) h = h
  within-renamed u (receive c) h = h
  within-renamed u (acquire l) h = h
  within-renamed u (release l) h = h
  within-renamed u (start k) h = h

  module _ (below : Level → Level → Bool) where
    legal-renamed : (u : ℕ) (x : Op Message) (a : Account) (h : Locks) → Permitted (by_thread B) below (renamed u x) a h ↔ Permitted B below x a h
    legal-renamed u (send c m) a h = (λ l. l, λ l. l)
    legal-renamed u (receive c) a h = (λ l. l, λ l. l)
    legal-renamed u (acquire l) a h = (λ l. l, λ l. l)
    legal-renamed u (release l) a h = (λ l. l, λ l. l)
    legal-renamed u (start k) a h = (λ l. l, λ l. l)

  module _ (S : Known B) where
    pub account_of : (t p : ℕ) → t < (by_thread B).threads → account_at (by_thread B) t p ≡ account_at B (task B t) p
    account_of t p h = after-numbered (size B) (paid (by_thread B)) (paid B) (B.ops (task B t)) p (suc t) (B.opening (task B t))
        (λ q x b a. paid-renamed (woken_at B t q) x b (λ k e. woken-task B S t q k h (subst (At (B.ops (task B t)) q) e a)))

    pub locks_of : (t p : ℕ) → locks_at (by_thread B) t p ≡ locks_at B (task B t) p
    locks_of t p = after-numbered (size B) (locked) (locked) (B.ops (task B t)) p (suc t) _
        (λ q x b a. renamed_as (λ o. locked o b) (woken_at B t q) (λ k. refl) x)

    module _ (below : Level → Level → Bool) where
      -- Thread t has each of its operations legal, and its closing, just if its task has.
      legal_of : (t p : ℕ) (x : Op Message) → t < (by_thread B).threads →
          Permitted (by_thread B) below (renamed (woken_at B t p) x) (account_at (by_thread B) t p) (locks_at (by_thread B) t p)
          ↔ Permitted B below x (account_at B (task B t) p) (locks_at B (task B t) p)
      legal_of t p x h = subst₂
          (λ a l. Permitted (by_thread B) below (renamed (woken_at B t p) x) (account_at (by_thread B) t p) (locks_at (by_thread B) t p) ↔ Permitted B below x a l)
          (account_of t p h) (locks_of t p)
          (legal-renamed below (woken_at B t p) x (account_at (by_thread B) t p) (locks_at (by_thread B) t p))

      end_of : (t : ℕ) → t < (by_thread B).threads →
          Settled (by_thread B) (account_at (by_thread B) t (length ((by_thread B).ops t))) (locks_at (by_thread B) t (length ((by_thread B).ops t)))
          ≡ Settled B (account_at B (task B t) (length (B.ops (task B t)))) (locks_at B (task B t) (length (B.ops (task B t))))
      end_of t h =
          ap (λ n. Settled (by_thread B) (account_at (by_thread B) t n) (locks_at (by_thread B) t n)) (numbered-length (size B) (B.ops (task B t)) (suc t))
          ∙ ap₂ (Settled B) (account_of t (length (B.ops (task B t))) h) (locks_of t (length (B.ops (task B t))))

      pub walkable_of : Walkable (by_thread B) below ↔ Walkable B below
      walkable_of = (
        λ C. record {
          operations = λ i p x h a. (
              let t = threads_of B S i h in
              let a' = subst (λ j. At (B.ops j) p x) (sym t.2) a in
              subst (λ j. Permitted B below x (account_at B j p) (locks_at B j p)) t.2
              ((legal_of t.0 p x t.1).0 (C.operations t.0 p (renamed (woken_at B t.0 p) x) t.1 (numbered-at (size B) (B.ops (task B t.0)) p (suc t.0) x a'))));
          closings = λ i h. (
              let t = threads_of B S i h in
              subst (λ j. Settled B (account_at B j (length (B.ops j))) (locks_at B j (length (B.ops j)))) t.2
              (subst (λ X. X) (end_of t.0 t.1) (C.closings t.0 t.1)));
        },
        λ C. record {
          operations = λ t p o h a. (
              let r = numbered-from (size B) (B.ops (task B t)) p (suc t) o a in
              subst (λ y. Permitted (by_thread B) below y (account_at (by_thread B) t p) (locks_at (by_thread B) t p)) (sym r.2)
              ((legal_of t p r.0 h).1 (C.operations (task B t) p r.0 (task_of B S t h) r.1)));
          closings = λ t h. subst (λ X. X) (sym (end_of t h)) (C.closings (task B t) (task_of B S t h));
        },
      )
