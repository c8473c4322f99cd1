-- The promises of a run, put together. Assumes nothing.
use Rattle.std.proofs.Common.{◌≡◌, ℕ, suc, ◌-◌, ◌<◌, ◌≤◌, Bool, true, false, cond, ◌||◌, eqb, ltb, ◌↔◌, List, [], length, pos, sym, refl, ap, ◌∙◌, subst, ap₂, arith, le-ltb, lt-ltb, ne_eqb}
use mathlib.Core.Path.{fun_ext}
use native.Mathlib.Decide.{ℕ_discrete}
use Rattle.model.specs.History.{Entry, Attempts, no_attempt, attempted, History, grants, grants_to, is_breach, breached_in}
use Rattle.model.specs.Machine.{asleep, running, home, Machine, Answer, granted, refused, breached, found}
use Rattle.model.specs.Mailbox.{MailboxKind}
use Rattle.model.specs.Position.{Position, position, sent_on, received_on, started, SamePosition, passed, awake, position_after}
use Rattle.model.specs.Program.{Op, send, receive, acquire, release, start, Account, Locks, Program, tally, moves}
use Rattle.model.specs.Promises.{AllHome, RunPromises, OrderDoesNotMatter}
use Rattle.model.specs.Rules.{locked, paid, account_at, locks_at, Cleared}
use Rattle.model.proofs.Breaches.{cleared_walkable, walkable_cleared}
use Rattle.model.proofs.Exclusion.{exclusive}
use Rattle.model.proofs.Frames.{frame, opened-is}
use Rattle.model.proofs.Histories.{done, Inv, inv-opened, inv-attempts, inv}
use Rattle.model.proofs.Moves.{granted_or_breached, seen}
use Rattle.model.proofs.Progress.{progress}
use Rattle.model.proofs.States.{apart}
use Rattle.model.proofs.Steps.{Walked, Stand, sleeps, runs, rests, walked}
use Rattle.model.proofs.Sums.{same_refl, same-other, sum_same, sum_zero, sum-tight, sum_member}
use Rattle.model.proofs.Tools.{At, Settled, Permitted, Walkable, Frame, Turn, Breach, breaks-op, breaks-end, operates, closes, Seen}
use Rattle.model.proofs.Walks.{at-below, after-end, tally-none, tally-some}

module _ {Level Message Mailbox : Type 0} (below : Level → Level → Bool) (P : Program Level Message) (F : Frame P) (K : MailboxKind Message Mailbox) where
  -- No thread of a cleared program meets a breach.
  pub no-breach : Walkable P below → (w : Machine Message Mailbox) (log : List Entry) → Inv below P F K w.thread w.mailbox log → (t : ℕ) → Turn below P K w t → ¬ (Breach below P K w t)
  no-breach cleared w log i t turn breach = go breach
    where
      mine : Walked below P F t (w.thread t) (w.thread (F.waker t)).place
      mine = (walked below P F t (w.thread t) _ turn.awake (i.stand t turn.exists)).1

      within : (w.thread t).place ≤ length (P.ops t)
      within = (walked below P F t (w.thread t) _ turn.awake (i.stand t turn.exists)).0

      accounts : account_at P t (w.thread t).place ≡ (w.thread t).account
      accounts = sym (fun_ext mine.account)

      held : locks_at P t (w.thread t).place ≡ (w.thread t).locks
      held = sym (fun_ext mine.locks)

      go : Breach below P K w t → ⊥
      go (breaks-op o next illegal) =
          illegal (subst (λ (h : Locks). Permitted P below o (w.thread t).account h) held (subst (λ (a : Account). Permitted P below o a (locks_at P t (w.thread t).place)) accounts
          (cleared.operations t (w.thread t).place o turn.exists next)))
      go (breaks-end end unsettled) =
          unsettled (subst (λ (h : Locks). Settled P (w.thread t).account h) held (subst (λ (a : Account). Settled P a (locks_at P t (w.thread t).place)) accounts
          (subst (λ (p : ℕ). Settled P (account_at P t p) (locks_at P t p)) (let e : (w.thread t).place ≡ length (P.ops t) = omega (arith, end, within) in sym e) (cleared.closings t turn.exists))))

  goes_on : Walkable P below → (w w' : Machine Message Mailbox) (log : List Entry) (t : ℕ) (a : Answer) → Inv below P F K w.thread w.mailbox log → Seen below P K w t w' a → w.halted ≡ false → w'.halted ≡ false
  goes_on cleared w w' log t (granted l) i (operates turn o next legal ready d) going = d.going ∙ going
  goes_on cleared w w' log t (granted l) i (closes turn end settled d) going = d.going ∙ going
  goes_on cleared w w' log t (refused n) i e going = ap (λ (v : Machine Message Mailbox). v.halted) e ∙ going
  goes_on cleared w w' log t (breached u l x) i s going = absurd (no-breach cleared w log i t s.0 s.1)

  still_goes : Walkable P below → (v w : Machine Message Mailbox) (log : List Entry) → Inv below P F K v.thread v.mailbox [] → v.halted ≡ false → Attempts below P K v w log → w.halted ≡ false
  still_goes cleared v w log i going no_attempt = going
  still_goes cleared v w log i going (attempted {m = m} {log = l} {e = e} h a) =
      goes_on cleared m w l e.thread e.answer (inv-attempts below P F K v m l i h) (seen below P K m e.thread w e.answer a) (still_goes cleared v m l i going h)

  pub never_halts : Walkable P below → (w : Machine Message Mailbox) (log : List Entry) → History below P K w log → w.halted ≡ false
  never_halts cleared w log h =
      let o = opened-is P F K h.blank h.before h.opened h.no_fault h.opening in
      still_goes cleared h.opened w log (inv-opened below P F K h.blank h.opened o) o.going h.attempts

  module _ (w : Machine Message Mailbox) (log : List Entry) (i : Inv below P F K w.thread w.mailbox log) where
    -- A thread that is home has passed all its operations, and its closing was legal.
    record Returned (t : ℕ) : Type 0 where
      place : (w.thread t).place ≡ suc (length (P.ops t))
      settled : Settled P (account_at P t (length (P.ops t))) (locks_at P t (length (P.ops t)))
      legal : (p : ℕ) (o : Op Message) → At (P.ops t) p o → Permitted P below o (account_at P t p) (locks_at P t p)

    returned : (t : ℕ) → (w.thread t).state ≡ home → Stand below P F t (w.thread t) (w.thread (F.waker t)).place → Returned t
    returned t e (sleeps s k) = apart asleep home s e (omega arith)
    returned t e (runs s l k) = apart running home s e (omega arith)
    returned t e (rests s l d k) = record {
      place = l;
      settled =
          let accounts : (w.thread t).account ≡ account_at P t (length (P.ops t)) = fun_ext k.account ∙ ap (account_at P t) l ∙ after-end (paid P) (P.ops t) (P.opening t) in
          let held : (w.thread t).locks ≡ locks_at P t (length (P.ops t)) = fun_ext k.locks ∙ ap (locks_at P t) l ∙ after-end (locked) (P.ops t) (λ y. false) in
          subst (λ (h : Locks). Settled P (account_at P t (length (P.ops t))) h) held (subst (λ (a : Account). Settled P a (w.thread t).locks) accounts d);
      legal = λ p o a. k.legal p o (omega (arith, l, at-below (P.ops t) p o a)) a;
    }

    pub place-within : (t : ℕ) → Stand below P F t (w.thread t) (w.thread (F.waker t)).place → (w.thread t).place ≤ suc (length (P.ops t))
    place-within t (sleeps s k) = omega (arith, k.place)
    place-within t (runs s l k) = omega arith
    place-within t (rests s l d k) = omega arith

    home_at_end : (t : ℕ) → Stand below P F t (w.thread t) (w.thread (F.waker t)).place → (w.thread t).place ≡ suc (length (P.ops t)) → (w.thread t).state ≡ home
    home_at_end t (sleeps s k) e = absurd (omega (arith, k.place))
    home_at_end t (runs s l k) e = absurd (omega arith)
    home_at_end t (rests s l d k) e = s

    pub exact : AllHome P w ↔ (Cleared P below × (grants log ≡ moves P))
    exact = (
      λ all.
          let past : (t : ℕ) → t < P.threads → Returned t = λ t h. returned t (all t h) (i.stand t h) in (
            walkable_cleared P below (record { operations = λ t p o h a. (past t h).legal p o a; closings = λ t h. (past t h).settled }),
            sym i.total ∙ sum_same (λ t. suc (length (P.ops t))) (λ t. (w.thread t).place) P.threads (λ t h. (past t h).place),
          ),
      λ r t h. home_at_end t (i.stand t h)
          (sum-tight (λ u. (w.thread u).place) (λ u. suc (length (P.ops u))) P.threads (λ u k. place-within u (i.stand u k)) (i.total ∙ r.1) t h),
    )

-- A run is halted by a breach, and by nothing else.
module _ {Level Message Mailbox : Type 0} (below : Level → Level → Bool) (P : Program Level Message) (K : MailboxKind Message Mailbox) where
  halted-next : (w w' : Machine Message Mailbox) (t : ℕ) (log : List Entry) (a : Answer) → Seen below P K w t w' a → w.halted ≡ breached_in log → w'.halted ≡ (is_breach a || breached_in log)
  halted-next w w' t log (granted l) (operates turn o next legal ready d) e = d.going ∙ e
  halted-next w w' t log (granted l) (closes turn end settled d) e = d.going ∙ e
  halted-next w w' t log (refused n) s e = ap (λ (v : Machine Message Mailbox). v.halted) s ∙ e
  halted-next w w' t log (breached u l x) s e = s.2.halted

  halted_since : (v w : Machine Message Mailbox) (log : List Entry) → v.halted ≡ false → Attempts below P K v w log → w.halted ≡ breached_in log
  halted_since v w log going no_attempt = going
  halted_since v w log going (attempted {m = m} {log = l} {e = e} h a) = halted-next m w e.thread l e.answer (seen below P K m e.thread w e.answer a) (halted_since v m l going h)

  halted_by_breach : (w : Machine Message Mailbox) (log : List Entry) → History below P K w log → w.halted ≡ breached_in log
  halted_by_breach w log h = halted_since h.opened w log (h.opening.halted ∙ ap found h.no_fault) h.attempts

-- The position that the program and the grants determine.
module _ {Level Message : Type 0} (P : Program Level Message) (F : Frame P) (g : ℕ → ℕ) where
  -- A thread whose start was not passed sleeps.
  start_weightless : (t s p : ℕ) (o : Op Message) → 0 < t → t < P.threads → g (F.waker t) ≤ F.waking t → s < P.threads → p < g s → At (P.ops s) p o → started t o ≡ 0
  start_weightless t s p (send c m) z h le l q a = refl
  start_weightless t s p (receive c) z h le l q a = refl
  start_weightless t s p (acquire k) z h le l q a = refl
  start_weightless t s p (release k) z h le l q a = refl
  start_weightless t s p (start v) z h le l q a = elim (ℕ_discrete t v) [
    | no ne ↦ same-other t v ne
    | yes e ↦ absurd (let f = F.once s p v l a in omega (arith, ap F.waking e, f.3, ap g (f.2 ∙ sym (ap F.waker e))))
  ]

  asleep_is : (t : ℕ) → 0 < t → t < P.threads → g (F.waker t) ≤ F.waking t → awake P g t ≡ false
  asleep_is t z h le =
      let none : passed P g (started t) ≡ 0 = sum_zero _ P.threads (λ s l. tally-none (started t) (P.ops s) (g s) (λ p o q a. start_weightless t s p o z h le l q a)) in
      ap (λ (b : Bool). b || ltb 0 (passed P g (started t))) (ne_eqb t 0 (omega arith))
      ∙ le-ltb 0 (passed P g (started t)) (omega arith)

  awake-is : (t : ℕ) → t < P.threads → (0 < t → F.waking t < g (F.waker t)) → awake P g t ≡ true
  awake-is t h up = elim (ℕ_discrete t 0) [
    | yes e ↦ ap (λ (u : ℕ). eqb u 0 || ltb 0 (passed P g (started t))) e
    | no ne ↦ (
        let z : 0 < t = omega arith in
        let f = F.woken t z h in
        let here : 1 ≤ tally (started t) (P.ops (F.waker t)) (g (F.waker t)) =
        omega (arith, same_refl t, tally-some (started t) (P.ops (F.waker t)) (F.waking t) (g (F.waker t)) (start t) (up z) f.1) in
        let some : 0 < passed P g (started t) = omega (arith, here, sum_member (λ s. tally (started t) (P.ops s) (g s)) P.threads (F.waker t) (let l = f.0 in omega arith)) in
        ap (λ (b : Bool). b || ltb 0 (passed P g (started t))) (ne_eqb t 0 ne)
        ∙ lt-ltb 0 (passed P g (started t)) some)
  ]

module _ {Level Message Mailbox : Type 0} (below : Level → Level → Bool) (P : Program Level Message) (F : Frame P) (K : MailboxKind Message Mailbox) (w : Machine Message Mailbox) (log : List Entry) (i : Inv below P F K w.thread w.mailbox log) where
  abbrev granted_to : ℕ → ℕ
  granted_to t = grants_to t log

  record Determined (t x : ℕ) : Type 0 where
    account : (w.thread t).account x ≡ (position_after P granted_to).account t x
    locks : (w.thread t).locks x ≡ (position_after P granted_to).locks t x

  walks : (t x : ℕ) → t < P.threads → Walked below P F t (w.thread t) (w.thread (F.waker t)).place → Determined t x
  walks t x h k =
      let up : awake P granted_to t ≡ true = awake-is P F granted_to t h (λ z. let q = k.woken z in let l = (F.woken t z h).0 in let e = i.place (F.waker t) (omega arith) in omega arith) in
      record {
        account = k.account x ∙ ap (λ n. account_at P t n x) (i.place t h) ∙ sym (ap (λ (b : Bool). cond b (account_at P t (granted_to t) x) (pos 0)) up);
        locks = k.locks x ∙ ap (λ n. locks_at P t n x) (i.place t h) ∙ sym (ap (λ (b : Bool). cond b (locks_at P t (granted_to t) x) false) up);
      }

  determined : (t x : ℕ) → t < P.threads → Stand below P F t (w.thread t) (w.thread (F.waker t)).place → Determined t x
  determined t x h (sleeps s k) =
      let down : awake P granted_to t ≡ false = asleep_is P F granted_to t k.started h (let q = k.unwoken in let l = (F.woken t k.started h).0 in let e = i.place (F.waker t) (omega arith) in omega arith) in
      record {
        account = k.account x ∙ sym (ap (λ (b : Bool). cond b (account_at P t (granted_to t) x) (pos 0)) down);
        locks = k.locks x ∙ sym (ap (λ (b : Bool). cond b (locks_at P t (granted_to t) x) false) down);
      }
  determined t x h (runs s l k) = walks t x h k
  determined t x h (rests s l d k) = walks t x h k

  done-passed : (f : Op Message → ℕ) → done below P F K f w.thread ≡ passed P granted_to f
  done-passed f = sym (sum_same _ _ P.threads (λ u h. ap (λ p. tally f (P.ops u) p) (sym (i.place u h))))

  pub position_determined : SamePosition P (position K w) (position_after P granted_to)
  position_determined = record {
    place = i.place;
    account = λ t x h. (determined t x h (i.stand t h)).account;
    locks = λ t x h. (determined t x h (i.stand t h)).locks;
    waiting = λ c h. omega (arith, i.lengths c h, done-passed (received_on c), done-passed (sent_on c));
  }

pub run_promises : {Level Message Mailbox : Type 0} → RunPromises Level Message Mailbox
run_promises below irreflexive transitive K P formed m log h =
    let F = frame P formed in
    let i = inv below P F K m log h in
    record {
      cleared_never_halts = λ cleared. never_halts below P F K (cleared_walkable P below cleared) m log h;
      halted_by_breach = halted_by_breach below P K m log h;
      never_stuck = λ going not_home.
          let r = progress below irreflexive transitive P F K m log i going not_home in
          (r.0, r.1.0.exists, granted_or_breached below P K m r.0 r.1.0 r.1.1);
      home_exactly = exact below P F K m log i;
      credits_balance = i.balance;
      locks_exclusive = exclusive below P F K m log h;
      place_counts_grants = i.place;
      position_determined = position_determined below P F K m log i;
    }

-- Equal grants determine the same position.
module _ {Level Message : Type 0} (P : Program Level Message) (g g' : ℕ → ℕ) (equal : (t : ℕ) → t < P.threads → g t ≡ g' t) where
  same-passed : (f : Op Message → ℕ) → passed P g f ≡ passed P g' f
  same-passed f = sum_same _ _ P.threads (λ t h. ap (λ p. tally f (P.ops t) p) (equal t h))

  same-awake : (t : ℕ) → awake P g t ≡ awake P g' t
  same-awake t = ap (λ n. eqb t 0 || ltb 0 n) (same-passed (started t))

  same_after : SamePosition P (position_after P g) (position_after P g')
  same_after = record {
    place = equal;
    account = λ t x h. ap (λ (b : Bool). cond b (account_at P t (g t) x) (pos 0)) (same-awake t) ∙ ap (λ n. cond (awake P g' t) (account_at P t n x) (pos 0)) (equal t h);
    locks = λ t x h. ap (λ (b : Bool). cond b (locks_at P t (g t) x) false) (same-awake t) ∙ ap (λ n. cond (awake P g' t) (locks_at P t n x) false) (equal t h);
    waiting = λ c h. ap₂ ◌-◌ (same-passed (sent_on c)) (same-passed (received_on c));
  }

module _ {Level Message : Type 0} (P : Program Level Message) where
  joined : (a b c : Position) → SamePosition P a b → SamePosition P b c → SamePosition P a c
  joined a b c p q = record {
    place = λ t h. p.place t h ∙ q.place t h;
    account = λ t x h. p.account t x h ∙ q.account t x h;
    locks = λ t x h. p.locks t x h ∙ q.locks t x h;
    waiting = λ x h. p.waiting x h ∙ q.waiting x h;
  }

  turned : (a b : Position) → SamePosition P a b → SamePosition P b a
  turned a b p = record {
    place = λ t h. sym (p.place t h);
    account = λ t x h. sym (p.account t x h);
    locks = λ t x h. sym (p.locks t x h);
    waiting = λ x h. sym (p.waiting x h);
  }

pub order_does_not_matter : {Level Message Mailbox Mailbox' : Type 0} → OrderDoesNotMatter Level Message Mailbox Mailbox'
order_does_not_matter below below' K K' P formed m log h m' log' h' equal =
    let F = frame P formed in
    joined P _ _ _ (position_determined below P F K m log (inv below P F K m log h))
    (joined P _ _ _ (same_after P (λ t. grants_to t log) (λ t. grants_to t log') equal)
    (turned P _ _ (position_determined below' P F K' m' log' (inv below' P F K' m' log' h'))))
