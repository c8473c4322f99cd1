-- While a run is not halted and not all threads are home, some thread can move. Assumes nothing.
use Rattle.std.proofs.Common.{◌≡◌, ℕ, zero, suc, ◌<◌, ◌≤◌, Bool, true, false, T, ◌⊎◌, List, [], ◌∷◌, length, ℤ, pos, ◌≤ℤ◌, ◌<ℤ◌, Some, None, Option, refl, ap, subst, inl, inr, arith}
use native.Mathlib.Decide.{map_dec, ℕ_discrete}
use lib.Signed.{lt_z}
use Rattle.std.proofs.lemmas.Int.{ints, by_lt_z}
use Rattle.model.specs.History.{Entry}
use Rattle.model.specs.Machine.{asleep, running, home, Machine, holds_too}
use Rattle.model.specs.Mailbox.{MailboxKind}
use Rattle.model.specs.Program.{Op, send, receive, acquire, release, start, Program, tally, sumℤ, send_weight}
use Rattle.model.specs.Promises.{AllHome}
use Rattle.model.specs.Rules.{Irreflexive, Transitive, unsettled, breach}
use Rattle.model.proofs.Breaches.{settled-none, none-settled, legal-none, none-legal}
use Rattle.model.proofs.Finite.{find, split-all, no_ascent}
use Rattle.model.proofs.Histories.{Inv}
use Rattle.model.proofs.Moves.{held_too, too_held}
use Rattle.model.proofs.Searches.{not_none}
use Rattle.model.proofs.States.{apart}
use Rattle.model.proofs.Steps.{Stand, sleeps, runs, rests}
use Rattle.model.proofs.Sums.{sum_lt, sumℤ-above}
use Rattle.model.proofs.Tools.{At, Busy, Frame, Turn, Next, Last, PermittedHere, Ready, Blocked, Grantable, grants-op, grants-end, Breach, breaks-op, breaks-end, Waiting}
use Rattle.model.proofs.Walks.{at-below, at_some, tally-within, tally_more}

decide_T : (b : Bool) → Dec (T b)
decide_T true = yes tt
decide_T false = no (λ h. h)

decide_owed : (a : ℤ) → Dec (a <ℤ pos 0)
decide_owed a = map_dec (λ h. record { lt = h }) (λ h. h.lt) (decide_T (lt_z a (pos 0)))

decide_none : {A : Type 0} (r : Option A) → Dec (r ≡ None)
decide_none None = yes refl
decide_none (Some x) = no not_none

-- the object for which an operation may wait
module _ {Message : Type 0} where
  abbrev target : Op Message → ℕ
  target (send c m) = c
  target (receive c) = c
  target (acquire l) = l
  target (release l) = l
  target (start u) = 0

  abbrev target_at : List (Op Message) → ℕ → ℕ
  target_at [] p = 0
  target_at (x ∷ xs) zero = target x
  target_at (x ∷ xs) (suc p) = target_at xs p

  target_is : (xs : List (Op Message)) (p : ℕ) (o : Op Message) → At xs p o → target_at xs p ≡ target o
  target_is [] p o a = absurd a
  target_is (x ∷ xs) zero o a = ap target a
  target_is (x ∷ xs) (suc p) o a = target_is xs p o a

module _ {Level Message Mailbox : Type 0} (below : Level → Level → Bool)
    (irreflexive : Irreflexive below) (transitive : Transitive below)
    (P : Program Level Message) (F : Frame P) (K : MailboxKind Message Mailbox) (w : Machine Message Mailbox) (log : List Entry) (i : Inv below P F K w.thread w.mailbox log) where
  -- A send finds room.
  room_left : (t c : ℕ) (m : Message) → t < P.threads → At (P.ops t) (w.thread t).place (send c m) → 0 < K.room w.mailbox c
  room_left t c m h next =
      let inside : c < P.objects = (F.within t (w.thread t).place (send c m) h next).0 in
      let one_more = tally_more send_weight (P.ops t) (w.thread t).place (send c m) next in
      let within = tally-within send_weight (P.ops t) (suc (w.thread t).place) in
      let fewer = sum_lt (λ u. tally send_weight (P.ops u) (w.thread u).place) (λ u. tally send_weight (P.ops u) (length (P.ops u))) P.threads t h (omega arith) (λ u k. tally-within send_weight (P.ops u) (w.thread u).place) in
      let enough = i.rooms c inside (F.within t (w.thread t).place (send c m) h next).1 in
      omega arith

  -- An operation that is not ready is blocked.
  ready_or_blocked : (t : ℕ) (o : Op Message) → t < P.threads → Next below P K w t o → Ready below P K w t o ⊎ Blocked below P K w t o
  ready_or_blocked t (send c m) h next = inl (room_left t c m h next)
  ready_or_blocked t (receive c) h next = elim (ℕ_discrete (length (K.waiting w.mailbox c)) 0) [ yes e ↦ inr e | no ne ↦ inl (omega arith) ]
  ready_or_blocked t (acquire l) h next =
      elim (find (λ u. T (holds_too below P K w t l u)) P.threads (λ u k. decide_T (holds_too below P K w t l u))) [
        | inl r ↦ (let q = too_held below P K w t l r.0 r.2 in inr (r.0, r.1, q.0, q.1))
        | inr none ↦ inl (λ u k ne held. none u k (held_too below P K w t l u ne held))
      ]
  ready_or_blocked t (release l) h next = inl tt
  ready_or_blocked t (start u) h next = inl tt

  abbrev pub Movable : ℕ → Type 0
  Movable t = Turn below P K w t × (Grantable below P K w t ⊎ Breach below P K w t)

  abbrev Idle : ℕ → Type 0
  Idle t = ((w.thread t).state ≡ asleep) ⊎ ((w.thread t).state ≡ home)

  -- Every thread can move, or waits, or is asleep or home.
  classify : w.halted ≡ false → (t : ℕ) → t < P.threads → Movable t ⊎ (Waiting below P K w t ⊎ Idle t)
  classify going t h = go (i.stand t h)
    where
      at_op : Turn below P K w t → (o : Op Message) → Next below P K w t o → Movable t ⊎ (Waiting below P K w t ⊎ Idle t)
      at_op turn o next = elim (decide_none (breach P below o (w.thread t).account (w.thread t).locks)) [
        | no broken ↦ inl (turn, inr (breaks-op o next (λ l. broken (legal-none P below o _ _ l))))
        | yes none ↦ elim (ready_or_blocked t o h next) [
          | inl ready ↦ inl (turn, inl (grants-op o next (none-legal P below o _ _ none) ready))
          | inr blocked ↦ inr (inl (record { turn = turn; op = o; next = next; legal = none-legal P below o _ _ none; blocked = blocked }))
        ]
      ]

      at-end : Turn below P K w t → Last below P K w t → Movable t ⊎ (Waiting below P K w t ⊎ Idle t)
      at-end turn end = elim (decide_none (unsettled P (w.thread t).account (w.thread t).locks)) [
        | yes none ↦ inl (turn, inl (grants-end end (none-settled P _ _ none)))
        | no broken ↦ inl (turn, inr (breaks-end end (λ s. broken (settled-none P _ _ s))))
      ]

      go : Stand below P F t (w.thread t) (w.thread (F.waker t)).place → Movable t ⊎ (Waiting below P K w t ⊎ Idle t)
      go (sleeps s k) = inr (inr (inl s))
      go (rests s l d k) = inr (inr (inr s))
      go (runs s l k) =
          let turn : Turn below P K w t = record { exists = h; going = going; awake = s } in
          elim (ℕ_discrete (w.thread t).place (length (P.ops t))) [
            | yes e ↦ at-end turn (omega arith)
            | no ne ↦ (let r = at_some (P.ops t) (w.thread t).place (omega arith) in at_op turn r.0 r.1)
          ]

  -- A thread that owes or holds an object of the program is neither asleep nor home.
  busy_not_idle : (u x : ℕ) → u < P.threads → x < P.objects → Busy (w.thread u).account (w.thread u).locks x → ¬ (Idle u)
  busy_not_idle u x h k busy idle = go (i.stand u h) idle busy
    where
      go : Stand below P F u (w.thread u) (w.thread (F.waker u)).place → Idle u → Busy (w.thread u).account (w.thread u).locks x → ⊥
      go (rests s l settled z) q b = settled x k b
      go (runs s l z) (inl q) b = apart running asleep s q (omega arith)
      go (runs s l z) (inr q) b = apart running home s q (omega arith)
      go (sleeps s z) q (inl owed) = (let e = z.account x in omega (arith, ints))
      go (sleeps s z) q (inr held) = subst T (z.locks x) held

  -- On an empty channel for which one thread has a credit, another has a debt.
  debtor : (t c : ℕ) → t < P.threads → c < P.objects → pos 1 ≤ℤ (w.thread t).account c → length (K.waiting w.mailbox c) ≡ 0 → (u : ℕ) × (u < P.threads) × ((w.thread u).account c <ℤ pos 0)
  debtor t c h k credit none = elim (find (λ u. (w.thread u).account c <ℤ pos 0) P.threads (λ u l. decide_owed ((w.thread u).account c))) [
    | inl r ↦ r
    | inr solvent ↦ absurd (
        let above : pos 1 ≤ℤ sumℤ (λ u. (w.thread u).account c) P.threads = sumℤ-above (λ u. (w.thread u).account c) P.threads t h credit (λ u l. by_lt_z ((w.thread u).account c) (pos 0) (λ owed. absurd (solvent u l owed)) (λ q. q)) in
        let balance = i.balance c k in
        omega (arith, ints))
  ]

  abbrev Above : ℕ → ℕ → Type 0
  Above u v = T (below (P.level (target_at (P.ops u) (w.thread u).place)) (P.level (target_at (P.ops v) (w.thread v).place)))

  -- What a waiting thread owes or holds is below what it waits for.
  busy-below : (v x : ℕ) → x < P.objects → Busy (w.thread v).account (w.thread v).locks x → Waiting below P K w v →
      T (below (P.level x) (P.level (target_at (P.ops v) (w.thread v).place)))
  busy-below v x k busy wait = rw (target_is (P.ops v) (w.thread v).place wait.op wait.next) (go wait.op wait.legal wait.blocked)
    where
      go : (o : Op Message) → PermittedHere below P K w v o → Blocked below P K w v o → T (below (P.level x) (P.level (target o)))
      go (send c m) legal blocked = absurd blocked
      go (receive c) legal blocked = legal.1 x k busy
      go (acquire l) legal blocked = legal x k busy
      go (release l) legal blocked = absurd blocked
      go (start u) legal blocked = absurd blocked

  -- Where no thread can move, above each waiting thread another waits.
  rises : ((t : ℕ) → t < P.threads → Waiting below P K w t ⊎ Idle t) → (t : ℕ) → t < P.threads → Waiting below P K w t → (u : ℕ) × (u < P.threads) × Waiting below P K w u × Above t u
  rises stuck t h wait =
      let r = culprit wait.op wait.next wait.legal wait.blocked in
      let higher : Waiting below P K w r.0 → (u : ℕ) × (u < P.threads) × Waiting below P K w u × Above t u =
      λ v. (r.0, r.1, v, rw (target_is (P.ops t) (w.thread t).place wait.op wait.next) (busy-below r.0 (target wait.op) r.2 r.3 v)) in
      elim (stuck r.0 r.1) [
        | inl v ↦ higher v
        | inr idle ↦ absurd (busy_not_idle r.0 (target wait.op) r.1 r.2 r.3 idle)
      ]
    where
      -- who owes or holds what the thread waits for
      culprit : (o : Op Message) → Next below P K w t o → PermittedHere below P K w t o → Blocked below P K w t o →
          (u : ℕ) × (u < P.threads) × (target o < P.objects) × Busy (w.thread u).account (w.thread u).locks (target o)
      culprit (send c m) next legal blocked = absurd blocked
      culprit (receive c) next legal blocked =
          let inside : c < P.objects = (F.within t (w.thread t).place (receive c) h next).0 in
          let r = debtor t c h inside legal.0 blocked in
          (r.0, r.1, inside, inl r.2)
      culprit (acquire l) next legal blocked = (blocked.0, blocked.1, F.within t (w.thread t).place (acquire l) h next, inr blocked.3)
      culprit (release l) next legal blocked = absurd blocked
      culprit (start u) next legal blocked = absurd blocked

  -- Where every thread is asleep or home, all are home.
  all_home : ((t : ℕ) → t < P.threads → Idle t) → (k t : ℕ) → t < k → t < P.threads → (w.thread t).state ≡ home
  all_home idle zero t l h = absurd (omega arith)
  all_home idle (suc k) t l h = go (i.stand t h) (idle t h) (λ z. all_home idle k (F.waker t) (let q = (F.woken t z h).0 in omega arith) (let q = (F.woken t z h).0 in omega arith))
    where
      waker_home : (z : 0 < t) → Stand below P F (F.waker t) (w.thread (F.waker t)) (w.thread (F.waker (F.waker t))).place → (w.thread (F.waker t)).state ≡ home → (w.thread (F.waker t)).place ≤ F.waking t → ⊥
      waker_home z (sleeps s k) e l = apart asleep home s e (omega arith)
      waker_home z (runs s _ k) e l = apart running home s e (omega arith)
      waker_home z (rests s p _ k) e l = omega (arith, p, at-below (P.ops (F.waker t)) (F.waking t) (start t) (F.woken t z h).1)

      go : Stand below P F t (w.thread t) (w.thread (F.waker t)).place → Idle t → (0 < t → (w.thread (F.waker t)).state ≡ home) → (w.thread t).state ≡ home
      go (rests s p d k) q up = s
      go (runs s p k) (inl q) up = apart running asleep s q (omega arith)
      go (runs s p k) (inr q) up = q
      go (sleeps s k) q up = absurd (waker_home k.started (i.stand (F.waker t) (let q = (F.woken t k.started h).0 in omega arith)) (up k.started) k.unwoken)

  -- While the run is not halted and not all threads are home, some thread can move.
  pub progress : w.halted ≡ false → ¬ (AllHome P w) → (t : ℕ) × Movable t
  progress going not_home = elim (split-all Movable (λ t. Waiting below P K w t ⊎ Idle t) P.threads (classify going)) [
    | inl r ↦ (r.0, r.2)
    | inr stuck ↦ absurd (
        let none = no_ascent Above (λ u. irreflexive (P.level (target_at (P.ops u) (w.thread u).place))) (λ a b c. transitive _ _ _) P.threads (Waiting below P K w) (rises stuck) in
        not_home (λ t h. all_home (λ u k. elim (stuck u k) [ inl v ↦ absurd (none u k v) | inr q ↦ q ]) (suc t) t (omega arith) h))
  ]
