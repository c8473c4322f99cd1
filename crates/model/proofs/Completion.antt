-- A move that the rules grant can be made, so a cleared program can be brought home from every point. Assumes nothing.
use Rattle.std.proofs.Common.{◌≡◌, ℕ, zero, suc, ◌+◌, ◌≤◌, Bool, cond, eqb, ◌≢◌, List, [], ◌∷◌, length, sym, refl, ap, ◌∙◌, subst, inl, inr, arith, eq-eqb, ne_eqb}
use Rattle.std.proofs.lemmas.Bool.{cond-true, cond-false}
use Rattle.model.specs.History.{Entry, Attempts, no_attempt, attempted, History, grants}
use Rattle.model.specs.Machine.{running, home, Thread, Machine, granted, next_line, Delivered, Wakes, Woken, Apart, Performed, Closed}
use Rattle.model.specs.Mailbox.{MailboxKind, Take}
use Rattle.model.specs.Program.{Op, send, receive, acquire, release, start, Account, Locks, Program, moves}
use Rattle.model.specs.Promises.{AllHome, Serves, Completes, ClearedMore}
use Rattle.model.specs.Rules.{Irreflexive, Transitive, locked, paid}
use Rattle.model.proofs.Breaches.{cleared_walkable, walkable_cleared}
use Rattle.model.proofs.Finite.{decide_all}
use Rattle.model.proofs.Frames.{frame}
use Rattle.model.proofs.Histories.{inv, longer}
use Rattle.model.proofs.Main.{no-breach, never_halts, place-within, exact}
use Rattle.model.proofs.Moves.{move}
use Rattle.model.proofs.Progress.{progress}
use Rattle.model.proofs.States.{decide_home}
use Rattle.model.proofs.Sums.{sum_le}
use Rattle.model.proofs.Tools.{Permitted, Walkable, Frame, Turn, Next, Ready, Grantable, grants-op, grants-end, Grant, operates, closes}

-- the table with one record replaced
module _ {A : Type 0} (f : ℕ → A) (t : ℕ) (a : A) where
  pub replaced : ℕ → A
  replaced u = cond (eqb u t) a (f u)

  pub replaced-here : replaced t ≡ a
  unfolding replaced
  replaced-here = cond-true (eqb t t) a (f t) (eq-eqb t t refl)

  pub replaced-other : (u : ℕ) → u ≢ t → replaced u ≡ f u
  unfolding replaced
  replaced-other u ne = cond-false (eqb u t) a (f u) (ne_eqb u t ne)

-- What a granted move makes of its thread and of the thread that it starts, and that a machine with these threads is after it.
module _ {Level Message Mailbox : Type 0} (P : Program Level Message) (K : MailboxKind Message Mailbox) (w : Machine Message Mailbox) (t : ℕ) where
  -- after an operation, m being the last word then
  abbrev pub stepped : Op Message → Message → Thread Message
  stepped o m = record { state = running; place = suc (w.thread t).place; account = paid P o (w.thread t).account; locks = locked o (w.thread t).locks; last = m }

  abbrev pub woken : ℕ → Thread Message
  woken v = record { state = running; place = (w.thread v).place; account = P.opening v; locks = (w.thread v).locks; last = (w.thread v).last }

  abbrev pub closed : Thread Message
  closed = record { state = home; place = suc (length (P.ops t)); account = (w.thread t).account; locks = (w.thread t).locks; last = (w.thread t).last }

  module _ (w' : Machine Message Mailbox) where
    pub wakes : (v : ℕ) → w'.thread v ≡ woken v → Wakes P K w t w' v
    wakes v e = record {
      state = ap (λ (h : Thread Message). h.state) e;
      place = ap (λ (h : Thread Message). h.place) e;
      account = λ x. ap (λ (h : Thread Message). h.account x) e;
      locks = λ x. ap (λ (h : Thread Message). h.locks x) e;
      last = ap (λ (h : Thread Message). h.last) e;
    }

    pub performed : (o : Op Message) (m : Message) → w'.thread t ≡ stepped o m → Delivered P K w t w' o → Woken P K w t w' o →
        ((u : ℕ) → u ≢ t → Apart P K w t w' o u → w'.thread u ≡ w.thread u) → w'.halted ≡ w.halted → Performed P K w t w' o
    performed o m e delivered started others going = record {
      state = ap (λ (h : Thread Message). h.state) e;
      place = ap (λ (h : Thread Message). h.place) e;
      account = λ x. ap (λ (h : Thread Message). h.account x) e;
      locks = λ x. ap (λ (h : Thread Message). h.locks x) e;
      delivered = delivered;
      woken = started;
      others = others;
      going = going;
    }

    pub shut : w'.thread t ≡ closed → ((u : ℕ) → u ≢ t → w'.thread u ≡ w.thread u) → w'.mailbox ≡ w.mailbox → w'.halted ≡ w.halted → Closed P K w t w'
    shut e others mailbox going = record {
      state = ap (λ (h : Thread Message). h.state) e;
      place = ap (λ (h : Thread Message). h.place) e;
      account = λ x. ap (λ (h : Thread Message). h.account x) e;
      locks = λ x. ap (λ (h : Thread Message). h.locks x) e;
      last = ap (λ (h : Thread Message). h.last) e;
      others = others;
      mailbox = mailbox;
      going = going;
    }

module _ {Level Message Mailbox : Type 0} (below : Level → Level → Bool) (P : Program Level Message) (F : Frame P) (K : MailboxKind Message Mailbox) (w : Machine Message Mailbox) (t : ℕ) (turn : Turn below P K w t) where
  abbrev word : Message
  word = (w.thread t).last

  abbrev own : Op Message → Message → Thread Message
  own o m = stepped P K w t o m

  abbrev moved : Op Message → Message → Mailbox → Machine Message Mailbox
  moved o m b = record { thread = replaced w.thread t (own o m); halted = w.halted; mailbox = b }

  -- an operation that starts no thread
  quiet : (o : Op Message) (m : Message) (b : Mailbox) → Delivered P K w t (moved o m b) o → Woken P K w t (moved o m b) o → (w' : Machine Message Mailbox) × Performed P K w t w' o
  quiet o m b delivered started =
      (moved o m b, performed P K w t (moved o m b) o m (replaced-here w.thread t (own o m)) delivered started (λ u ne _. replaced-other w.thread t (own o m) u ne) refl)

  last-is : (o : Op Message) (m : Message) → (replaced w.thread t (own o m) t).last ≡ m
  last-is o m = ap (λ (h : Thread Message). h.last) (replaced-here w.thread t (own o m))

  perform : Serves K → (o : Op Message) → Next below P K w t o → Ready below P K w t o → (w' : Machine Message Mailbox) × Performed P K w t w' o
  perform serves (send c m) next ready = let r = serves.puts w.mailbox c m ready in quiet (send c m) word r.0 (r.1, last-is (send c m) word) tt
  perform serves (receive c) next ready =
      let r = serves.takes w.mailbox c ready in
      quiet (receive c) r.0 r.1 (subst (λ (m : Message). Take K w.mailbox c m r.1) (sym (last-is (receive c) r.0)) r.2, tt) tt
  perform serves (acquire l) next ready = quiet (acquire l) word w.mailbox (refl, last-is (acquire l) word) tt
  perform serves (release l) next ready = quiet (release l) word w.mailbox (refl, last-is (release l) word) tt
  perform serves (start v) next ready =
      let f = F.once t (w.thread t).place v turn.exists next in
      let g = F.woken v f.0 f.1 in
      let apart : t ≢ v = omega (arith, g.0, f.2) in
      let table : ℕ → Thread Message = replaced w.thread t (own (start v) word) in
      let w' : Machine Message Mailbox = record { thread = replaced table v (woken P K w t v); halted = w.halted; mailbox = w.mailbox } in
      let e : w'.thread t ≡ own (start v) word = replaced-other table v (woken P K w t v) t apart ∙ replaced-here w.thread t (own (start v) word) in (
        w',
        performed P K w t w' (start v) word e (refl, ap (λ (h : Thread Message). h.last) e) (wakes P K w t w' v (replaced-here table v (woken P K w t v)))
            (λ u ne nv. replaced-other table v (woken P K w t v) u nv ∙ replaced-other w.thread t (own (start v) word) u ne) refl,
      )

  close : (w' : Machine Message Mailbox) × Closed P K w t w'
  close =
      let w' : Machine Message Mailbox = record { thread = replaced w.thread t (closed P K w t); halted = w.halted; mailbox = w.mailbox } in
      (w', shut P K w t w' (replaced-here w.thread t (closed P K w t)) (λ u ne. replaced-other w.thread t (closed P K w t) u ne) refl refl)

  pub grant_made : Serves K → Grantable below P K w t → (w' : Machine Message Mailbox) × Grant below P K w t w'
  grant_made serves (grants-op o next legal ready) = let r = perform serves o next ready in (r.0, operates turn o next legal ready r.1)
  grant_made serves (grants-end end settled) = (close.0, closes turn end settled close.1)

module _ {Level Message Mailbox : Type 0} (below : Level → Level → Bool) (irreflexive : Irreflexive below) (transitive : Transitive below)
    (K : MailboxKind Message Mailbox) (serves : Serves K) (P : Program Level Message) (F : Frame P) (cleared : Walkable P below) (from : Machine Message Mailbox) where
  abbrev Finished : Type 0
  Finished = (w' : Machine Message Mailbox) × (further : List Entry) × Attempts below P K from w' further × AllHome P w'

  -- with at most k moves left
  finish : (k : ℕ) (w : Machine Message Mailbox) (log further : List Entry) → History below P K w log → Attempts below P K from w further → moves P ≤ grants log + k → Finished
  finish zero w log further h more le =
      let i = inv below P F K w log h in
      let most = sum_le (λ u. (w.thread u).place) (λ u. suc (length (P.ops u))) P.threads (λ u l. place-within below P F K w log i u (i.stand u l)) in
      (w, further, more, (exact below P F K w log i).1 (walkable_cleared P below cleared, omega (arith, i.total, most)))
  finish (suc k) w log further h more le = elim (decide_all (λ u. (w.thread u).state ≡ home) P.threads (λ u l. decide_home (w.thread u).state)) [
    | yes all ↦ (w, further, more, all)
    | no not_home ↦ (
        let i = inv below P F K w log h in
        let m = progress below irreflexive transitive P F K w log i (never_halts below P F K cleared w log h) not_home in
        elim m.1.1 [
          | inr breach ↦ absurd (no-breach below P F K cleared w log i m.0 m.1.0 breach)
          | inl g ↦ (
              let r = grant_made below P F K w m.0 m.1.0 serves g in
              let e : Entry = record { thread = m.0; answer = granted (next_line below P K w m.0) } in
              let a = move below P K w m.0 r.0 r.1 in
              finish k r.0 (e ∷ log) (e ∷ further) (longer below P K w r.0 log e h a) (attempted {e = e} more a) (omega (arith, le)))
        ])
  ]

pub completes : {Level Message Mailbox : Type 0} → Completes Level Message Mailbox
completes below irreflexive transitive K serves P formed cleared m log h =
    finish below irreflexive transitive K serves P (frame P formed) (cleared_walkable P below cleared) m (moves P) m log [] h no_attempt (omega arith)

pub cleared_more : {Level Message : Type 0} → ClearedMore Level Message
cleared_more {Level} {Message} below below' more P c =
    let w = cleared_walkable P below c in
    walkable_cleared P below' (record { operations = λ t p o h a. go o _ _ (w.operations t p o h a); closings = w.closings })
  where
    go : (o : Op Message) (a : Account) (h : Locks) → Permitted P below o a h → Permitted P below' o a h
    go (send c m) a h l = tt
    go (receive c) a h l = (l.0, λ x k b. more _ _ (l.1 x k b))
    go (acquire l) a h u = λ x k b. more _ _ (u x k b)
    go (release l) a h u = u
    go (start u) a h l = tt
