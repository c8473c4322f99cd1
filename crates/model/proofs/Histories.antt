-- What holds at every point of a history. Assumes nothing.
use Rattle.std.proofs.Common.{◌≡◌, ℕ, zero, suc, ◌+◌, ◌*◌, ◌<◌, ◌≤◌, Bool, T, List, [], ◌∷◌, pos, ◌+ℤ◌, sym, refl, ap, ◌∙◌, subst, arith}
use mathlib.Core.Path.{fun_ext}
use Rattle.std.proofs.lemmas.Int.{ints}
use Rattle.model.specs.History.{Entry, Attempts, no_attempt, attempted, History, grant, grant_to, grants, grants_to}
use Rattle.model.specs.Machine.{Thread, Machine, Answer, granted, refused, breached, Move}
use Rattle.model.specs.Mailbox.{MailboxKind}
use Rattle.model.specs.Position.{sent_on, received_on}
use Rattle.model.specs.Program.{Op, Program, tally, sum, sumℤ, same, send_weight, sends}
use Rattle.model.specs.Rules.{account_at, locks_at}
use Rattle.model.specs.Threads.{weight}
use Rattle.model.proofs.Frames.{opened-is}
use Rattle.model.proofs.Moves.{seen}
use Rattle.model.proofs.Steps.{Stand, sleeps, runs, len, place_is, tally-sum, length-is, room-is, balanced_on, balanced_closed, started-sleeps, stand-next, closed_place_is, closed_tally_sum, closed_stand_next}
use Rattle.model.proofs.Sums.{same_eq, same-other, sum_change, sumℤ_zero, sum_zero}
use Rattle.model.proofs.Tools.{Frame, Opened, Grant, operates, closes, Seen}

module _ {Level Message Mailbox : Type 0} (below : Level → Level → Bool) (P : Program Level Message) (F : Frame P) (K : MailboxKind Message Mailbox) where
  -- the first operations of every thread, up to its place, each counted by its weight
  abbrev pub done : (Op Message → ℕ) → (ℕ → Thread Message) → ℕ
  done weight th = sum (λ u. tally weight (P.ops u) (th u).place) P.threads

  pub record Inv (th : ℕ → Thread Message) (b : Mailbox) (log : List Entry) : Type 0 where
    pub stand : (u : ℕ) → u < P.threads → Stand below P F u (th u) (th (F.waker u)).place
    pub place : (u : ℕ) → u < P.threads → (th u).place ≡ grants_to u log
    pub total : sum (λ u. (th u).place) P.threads ≡ grants log
    pub lengths : (c : ℕ) → c < P.objects → len below P F K b c + done (received_on c) th ≡ done (sent_on c) th
    pub rooms : (c : ℕ) → c < P.objects → T (P.channel c) → sends P ≤ K.room b c + done send_weight th
    pub balance : (c : ℕ) → c < P.objects →
        sumℤ (λ u. (th u).account c) P.threads +ℤ pos (sum (λ k. P.carries k c * len below P F K b k) P.objects) ≡ pos (len below P F K b c)

  -- every thread has a fresh record at the opening
  place_zero : (blank : Message) (w : Machine Message Mailbox) → Opened P K blank w → (u : ℕ) → u < P.threads → (w.thread u).place ≡ 0
  place_zero blank w op zero h = op.main.place
  place_zero blank w op (suc u) h = (op.rest (suc u) (omega arith) h).place

  account_zero : (blank : Message) (w : Machine Message Mailbox) → Opened P K blank w → (u x : ℕ) → u < P.threads → (w.thread u).account x ≡ pos 0
  account_zero blank w op zero x h = op.main.account x
  account_zero blank w op (suc u) x h = (op.rest (suc u) (omega arith) h).account x

  done_zero : (blank : Message) (w : Machine Message Mailbox) → Opened P K blank w → (f : Op Message → ℕ) → done f w.thread ≡ 0
  done_zero blank w op f = sum_zero (λ u. tally f (P.ops u) (w.thread u).place) P.threads (λ u h. ap (λ p. tally f (P.ops u) p) (place_zero blank w op u h))

  stand-opened : (blank : Message) (w : Machine Message Mailbox) → Opened P K blank w → (u : ℕ) → u < P.threads → Stand below P F u (w.thread u) (w.thread (F.waker u)).place
  stand-opened blank w op zero h = runs op.main.state (omega (arith, op.main.place)) (record {
    account = λ x. op.main.account x ∙ sym (F.main_opening x) ∙ ap (λ p. account_at P 0 p x) (sym op.main.place);
    locks = λ x. op.main.locks x ∙ ap (λ p. locks_at P 0 p x) (sym op.main.place);
    legal = λ p o l a. absurd (omega (arith, op.main.place));
    woken = λ z. absurd (omega arith);
  })
  stand-opened blank w op (suc u) h =
      let f = op.rest (suc u) (omega arith) h in
      sleeps f.state (record {
        started = omega arith;
        place = f.place;
        account = f.account;
        locks = f.locks;
        unwoken = omega (arith, place_zero blank w op (F.waker (suc u)) (let k = (F.woken (suc u) (omega arith) h).0 in omega arith));
      })

  pub inv-opened : (blank : Message) (w : Machine Message Mailbox) → Opened P K blank w → Inv w.thread w.mailbox []
  inv-opened blank w op = record {
    stand = stand-opened blank w op;
    place = place_zero blank w op;
    total = sum_zero (λ u. (w.thread u).place) P.threads (place_zero blank w op);
    lengths = λ c h. omega (arith, op.empty c h, done_zero blank w op (received_on c), done_zero blank w op (sent_on c));
    rooms = λ c h k. omega (arith, op.room c h k);
    balance = λ c h.
        let accounts : sumℤ (λ u. (w.thread u).account c) P.threads ≡ pos 0 = sumℤ_zero (λ u. (w.thread u).account c) P.threads (λ u k. account_zero blank w op u c k) in
        let carried : sum (λ k. P.carries k c * len below P F K w.mailbox k) P.objects ≡ 0 =
        sum_zero (λ k. P.carries k c * len below P F K w.mailbox k) P.objects (λ k l. let e : P.carries k c * len below P F K w.mailbox k ≡ P.carries k c * 0 = ap (λ n. P.carries k c * n) (op.empty k l) in omega arith) in
        let none = op.empty c h in
        omega (arith, ints);
  }

  -- One place more is one grant more, in all.
  total_more : (f g : ℕ → ℕ) (t : ℕ) → t < P.threads → ((u : ℕ) → g u ≡ f u + same u t) → sum g P.threads ≡ sum f P.threads + 1
  total_more f g t h e =
      let change = sum_change f g P.threads t h (λ u k ne. let a = e u in omega (arith, same-other u t ne)) in
      omega (arith, change, e t, same_eq t t refl)

  inv-granted : (w w' : Machine Message Mailbox) (t : ℕ) (log : List Entry) (l : ℕ) → Inv w.thread w.mailbox log → Grant below P K w t w' →
      Inv w'.thread w'.mailbox (record { thread = t; answer = granted l } ∷ log)
  inv-granted w w' t log l i (operates turn o next legal ready d) = record {
    stand = stand-next below P F K w w' t turn i.stand o next legal d;
    place = λ u h. omega (arith, i.place u h, place_is below P F K w w' t o d u);
    total = omega (arith, i.total, total_more (λ u. (w.thread u).place) (λ u. (w'.thread u).place) t turn.exists (place_is below P F K w w' t o d));
    lengths = λ c h. omega (arith, i.lengths c h, length-is below P F K w w' t o d c, tally-sum below P F K w w' t o d turn next (received_on c), tally-sum below P F K w w' t o d turn next (sent_on c));
    rooms = λ c h k. omega (arith, i.rooms c h k, room-is below P F K w w' t o d c, tally-sum below P F K w w' t o d turn next send_weight);
    balance = λ c h. balanced_on below P F K w w' t turn o next d c
        (λ u e. let s = started-sleeps below P F K w w' t turn i.stand u (rw e at next) in (s.0, s.1, s.2.account c)) (i.balance c h);
  }
  inv-granted w w' t log l i (closes turn end settled d) = record {
    stand = closed_stand_next below P F K w w' t turn i.stand end settled d;
    place = λ u h. omega (arith, i.place u h, closed_place_is below P F K w w' t turn i.stand end settled d u);
    total = omega (arith, i.total, total_more (λ u. (w.thread u).place) (λ u. (w'.thread u).place) t turn.exists (closed_place_is below P F K w w' t turn i.stand end settled d));
    lengths = λ c h. omega (arith, i.lengths c h, ap (λ b. len below P F K b c) d.mailbox, closed_tally_sum below P F K w w' t turn i.stand end settled d (received_on c), closed_tally_sum below P F K w w' t turn i.stand end settled d (sent_on c));
    rooms = λ c h k. omega (arith, i.rooms c h k, ap (λ b. K.room b c) d.mailbox, closed_tally_sum below P F K w w' t turn i.stand end settled d send_weight);
    balance = λ c h. balanced_closed below P F K w w' t turn d c (i.balance c h);
  }

  -- A move that is not granted leaves all this as it was.
  inv_kept : (th : ℕ → Thread Message) (b : Mailbox) (log : List Entry) (e : Entry) → grant e.answer ≡ 0 → ((u : ℕ) → grant_to u e.thread e.answer ≡ 0) → Inv th b log → Inv th b (e ∷ log)
  inv_kept th b log e z zs i = record { stand = i.stand; place = λ u h. omega (arith, zs u, i.place u h); total = omega (arith, z, i.total); lengths = i.lengths; rooms = i.rooms; balance = i.balance }

  moved_to : (w w' : Machine Message Mailbox) (log : List Entry) → ((u : ℕ) → w'.thread u ≡ w.thread u) → w'.mailbox ≡ w.mailbox → Inv w.thread w.mailbox log → Inv w'.thread w'.mailbox log
  moved_to w w' log e f i = subst (λ (b : Mailbox). Inv w'.thread b log) (sym f) (subst (λ (th : ℕ → Thread Message). Inv th w.mailbox log) (sym (fun_ext e)) i)

  inv-move : (w w' : Machine Message Mailbox) (t : ℕ) (log : List Entry) (a : Answer) → Inv w.thread w.mailbox log → Seen below P K w t w' a →
      Inv w'.thread w'.mailbox (record { thread = t; answer = a } ∷ log)
  inv-move w w' t log (granted l) i g = inv-granted w w' t log l i g
  inv-move w w' t log (refused n) i e =
      moved_to w w' _ (λ u. ap (λ (v : Machine Message Mailbox). v.thread u) e) (ap (λ (v : Machine Message Mailbox). v.mailbox) e)
      (inv_kept w.thread w.mailbox log (record { thread = t; answer = refused n }) refl (λ u. refl) i)
  inv-move w w' t log (breached u l x) i s =
      moved_to w w' _ s.2.thread s.2.mailbox (inv_kept w.thread w.mailbox log (record { thread = t; answer = breached u l x }) refl (λ u. refl) i)

  pub inv-attempts : (v w : Machine Message Mailbox) (log : List Entry) → Inv v.thread v.mailbox [] → Attempts below P K v w log → Inv w.thread w.mailbox log
  inv-attempts v w log i no_attempt = i
  inv-attempts v w log i (attempted {m = m} {log = l} {e = e} h a) = inv-move m w e.thread l e.answer (inv-attempts v m l i h) (seen below P K m e.thread w e.answer a)

  pub inv : (w : Machine Message Mailbox) (log : List Entry) → History below P K w log → Inv w.thread w.mailbox log
  inv w log h = inv-attempts h.opened w log (inv-opened h.blank h.opened (opened-is P F K h.blank h.before h.opened h.no_fault h.opening)) h.attempts

-- A history goes on.
pub longer : {Level Message Mailbox : Type 0} (below : Level → Level → Bool) (P : Program Level Message) (K : MailboxKind Message Mailbox) (m m' : Machine Message Mailbox) (log : List Entry) (e : Entry) →
    History below P K m log → Move below P K m e.thread e.answer m' → History below P K m' (e ∷ log)
longer below P K m m' log e h a = record { blank = h.blank; before = h.before; opened = h.opened; no_fault = h.no_fault; opening = h.opening; attempts = attempted {e = e} h.attempts a }
