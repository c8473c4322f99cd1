-- The exact answer to a move against the relations: what was granted could be, what halted the run broke a rule, and
-- the other way round. Assumes nothing.
use Rattle.std.proofs.Common.{◌≡◌, ℕ, ◌<◌, Bool, true, false, cond, not, ◌&&◌, T, eqb, ltb, ◌≢◌, ◌⊎◌, length, Some, None, Option, sym, refl, ap, ◌∙◌, subst, inl, inr, arith, lt-ltb, ltb-true, ne_eqb}
use Rattle.std.proofs.lemmas.Bool.{cond-false, eqb-false}
use Rattle.model.specs.Machine.{State, asleep, running, home, Machine, Answer, granted, refused, found, next_step, next_line, holds_too, if_legal, judged, if_running, by_state, unless_halted, if_exists, answer, Done, Leaves, Move}
use Rattle.model.specs.Mailbox.{MailboxKind}
use Rattle.model.specs.Program.{Op, send, receive, acquire, release, start, Program, Step, operation, closing}
use Rattle.model.specs.Promises.{GrantedOrBreached}
use Rattle.model.specs.Rules.{Offence, unsettled, breach}
use Rattle.model.proofs.Breaches.{step_op, op-step, step_end, end_step, settled-none, none-settled, legal-none, none-legal}
use Rattle.model.proofs.Searches.{not_none, first-none, none_first, found_none}
use Rattle.model.proofs.Tools.{Turn, PermittedHere, Ready, Grantable, grants-op, grants-end, Breach, breaks-op, breaks-end, Grant, operates, closes, Seen}

module _ {Level Message Mailbox : Type 0} (below : Level → Level → Bool) (P : Program Level Message) (K : MailboxKind Message Mailbox) (w : Machine Message Mailbox) (t : ℕ) where
  -- another thread that holds the lock, as a test and as a fact
  pub held_too : (l u : ℕ) → u ≢ t → T ((w.thread u).locks l) → T (holds_too below P K w t l u)
  held_too l u ne h = subst (λ (b : Bool). T (not b && (w.thread u).locks l)) (sym (ne_eqb u t ne)) h

  pub too_held : (l u : ℕ) → T (holds_too below P K w t l u) → (u ≢ t) × T ((w.thread u).locks l)
  too_held l u h = go (eqb u t) refl h
    where
      go : (b : Bool) → eqb u t ≡ b → T (not b && (w.thread u).locks l) → (u ≢ t) × T ((w.thread u).locks l)
      go true e h = absurd h
      go false e h = (eqb-false u t e, h)

  -- A legal operation that nothing keeps is granted.
  ready_granted : (o : Op Message) → Ready below P K w t o → if_legal below P K w t (operation o) ≡ granted (next_line below P K w t)
  ready_granted (send c x) r = cond-false _ (refused 36) _ (ne_eqb (K.room w.mailbox c) 0 (omega arith))
  ready_granted (receive c) r = cond-false _ (refused 35) _ (ne_eqb (length (K.waiting w.mailbox c)) 0 (omega arith))
  ready_granted (acquire l) r = ap (λ (q : Option ℕ). cond (found q) (refused 35) (granted (next_line below P K w t)))
      (first-none (holds_too below P K w t l) 0 P.threads (λ u a b h. (let q = too_held l u h in r u (omega arith) q.0 q.1)))
  ready_granted (release l) r = refl
  ready_granted (start u) r = refl

  running_is : Turn below P K w t → answer below P K w t ≡ if_running below P K w t (next_step below P K w t)
  running_is turn =
      ap (if_exists below P K w t) (lt-ltb t P.threads turn.exists)
      ∙ ap (unless_halted below P K w t) turn.going ∙ ap (by_state below P K w t) turn.awake

  pub grantable_answer : Turn below P K w t → Grantable below P K w t → answer below P K w t ≡ granted (next_line below P K w t)
  grantable_answer turn (grants-op o next legal ready) =
      running_is turn ∙ ap (if_running below P K w t) (op-step (P.ops t) (w.thread t).place o next)
      ∙ ap (λ (r : Option Offence). judged below P K w t r (if_legal below P K w t (operation o))) (legal-none P below o _ _ legal) ∙ ready_granted o ready
  grantable_answer turn (grants-end end settled) =
      running_is turn ∙ ap (if_running below P K w t) (end_step (P.ops t) (w.thread t).place end)
      ∙ ap (λ (r : Option Offence). judged below P K w t r (granted (next_line below P K w t))) (settled-none P _ _ settled)

  judged-breach : (r : Option Offence) (a : Answer) → ¬ (r ≡ None) → GrantedOrBreached (judged below P K w t r a)
  judged-breach None a n = absurd (n refl)
  judged-breach (Some x) a n = tt

  -- Whoever can be granted or breaks a rule is answered so.
  pub granted_or_breached : Turn below P K w t → Grantable below P K w t ⊎ Breach below P K w t → GrantedOrBreached (answer below P K w t)
  granted_or_breached turn (inl g) = subst GrantedOrBreached (sym (grantable_answer turn g)) tt
  granted_or_breached turn (inr (breaks-op o next illegal)) =
      subst GrantedOrBreached (sym (running_is turn ∙ ap (if_running below P K w t) (op-step (P.ops t) (w.thread t).place o next)))
      (judged-breach _ _ (λ e. illegal (none-legal P below o _ _ e)))
  granted_or_breached turn (inr (breaks-end end unsettled)) =
      subst GrantedOrBreached (sym (running_is turn ∙ ap (if_running below P K w t) (end_step (P.ops t) (w.thread t).place end)))
      (judged-breach _ _ (λ e. unsettled (none-settled P _ _ e)))

  module _ (w' : Machine Message Mailbox) where
    abbrev Sees : Answer → Type 0
    Sees a = Leaves P K w t w' a → Seen below P K w t w' a

    module _ (turn : Turn below P K w t) where
      done : (o : Op Message) → next_step below P K w t ≡ operation o → PermittedHere below P K w t o → Ready below P K w t o → Done P K w t w' (next_step below P K w t) → Grant below P K w t w'
      done o found legal ready d = operates turn o (step_op (P.ops t) (w.thread t).place o found) legal ready (subst (λ (s : Step Message). Done P K w t w' s) found d)

      -- An operation that a test keeps is seen as refused or, where the test fails, as done.
      unless_kept : (kept : Bool) (n : ℕ) (o : Op Message) → next_step below P K w t ≡ operation o → PermittedHere below P K w t o → (kept ≡ false → Ready below P K w t o) →
          Sees (cond kept (refused n) (granted (next_line below P K w t)))
      unless_kept true n o f legal ready d = d
      unless_kept false n o f legal ready d = done o f legal (ready refl) d

      sees_legal : (o : Op Message) → next_step below P K w t ≡ operation o → PermittedHere below P K w t o → Sees (if_legal below P K w t (operation o))
      sees_legal (send c x) f legal = unless_kept _ 36 (send c x) f legal (λ e. let ne : K.room w.mailbox c ≢ 0 = eqb-false _ 0 e in omega arith)
      sees_legal (receive c) f legal = unless_kept _ 35 (receive c) f legal (λ e. let ne : length (K.waiting w.mailbox c) ≢ 0 = eqb-false _ 0 e in omega arith)
      sees_legal (acquire l) f legal = unless_kept _ 35 (acquire l) f legal
          (λ e u h ne held. none_first (holds_too below P K w t l) 0 P.threads (found_none _ e) u (omega arith) (omega arith) (held_too l u ne held))
      sees_legal (release l) f legal = λ d. done (release l) f legal tt d
      sees_legal (start u) f legal = λ d. done (start u) f legal tt d

      sees_op : (o : Op Message) → next_step below P K w t ≡ operation o → (r : Option Offence) → breach P below o (w.thread t).account (w.thread t).locks ≡ r →
          Sees (judged below P K w t r (if_legal below P K w t (operation o)))
      sees_op o f None e = sees_legal o f (none-legal P below o _ _ e)
      sees_op o f (Some x) e = λ d. (turn, breaks-op o (step_op (P.ops t) (w.thread t).place o f) (λ l. not_none (sym e ∙ legal-none P below o _ _ l)), d)

      sees_closing : next_step below P K w t ≡ closing → (r : Option Offence) → unsettled P (w.thread t).account (w.thread t).locks ≡ r →
          Sees (judged below P K w t r (granted (next_line below P K w t)))
      sees_closing f None e d = closes turn (step_end (P.ops t) (w.thread t).place f) (none-settled P _ _ e) (subst (λ (s : Step Message). Done P K w t w' s) f d)
      sees_closing f (Some x) e d = (turn, breaks-end (step_end (P.ops t) (w.thread t).place f) (λ s. not_none (sym e ∙ settled-none P _ _ s)), d)

      sees_step : (s : Step Message) → next_step below P K w t ≡ s → Sees (if_running below P K w t s)
      sees_step (operation o) f = sees_op o f _ refl
      sees_step closing f = sees_closing f _ refl

    sees_state : t < P.threads → w.halted ≡ false → (s : State) → (w.thread t).state ≡ s → Sees (by_state below P K w t s)
    sees_state h g asleep e = λ d. d
    sees_state h g home e = λ d. d
    sees_state h g running e = sees_step (record { exists = h; going = g; awake = e }) _ refl

    sees_going : t < P.threads → (b : Bool) → w.halted ≡ b → Sees (unless_halted below P K w t b)
    sees_going h true e = λ d. d
    sees_going h false e = sees_state h e _ refl

    sees_exists : (b : Bool) → ltb t P.threads ≡ b → Sees (if_exists below P K w t b)
    sees_exists true e = sees_going (ltb-true t P.threads e) _ refl
    sees_exists false e = λ d. d

    -- What a move with this answer was, and did.
    pub seen : (a : Answer) → Move below P K w t a w' → Seen below P K w t w' a
    seen a m = subst (λ (u : Answer). Seen below P K w t w' u) (sym m.exact) (sees_exists _ refl (subst (λ (u : Answer). Leaves P K w t w' u) m.exact m.leaves))

    -- A move that the rules grant, and that does what they say, is one.
    pub move : Grant below P K w t w' → Move below P K w t (granted (next_line below P K w t)) w'
    move (operates turn o next legal ready d) = record {
      exact = sym (grantable_answer turn (grants-op o next legal ready));
      leaves = subst (λ (s : Step Message). Done P K w t w' s) (sym (op-step (P.ops t) (w.thread t).place o next)) d;
    }
    move (closes turn end settled d) = record {
      exact = sym (grantable_answer turn (grants-end end settled));
      leaves = subst (λ (s : Step Message). Done P K w t w' s) (sym (end_step (P.ops t) (w.thread t).place end)) d;
    }
