-- No two threads hold one lock. Assumes nothing.
use Rattle.std.proofs.Common.{◌≡◌, ℕ, zero, suc, ◌<◌, Bool, true, false, T, eqb, ◌⊎◌, List, sym, ap, ◌∙◌, subst, inl, inr, arith, eqb-true}
use native.Mathlib.Decide.{ℕ_discrete}
use Rattle.std.proofs.lemmas.Bool.{cond_both}
use Rattle.model.specs.History.{Opening, Entry, Attempts, no_attempt, attempted, History}
use Rattle.model.specs.Machine.{Thread, Machine, Answer, granted, refused, breached, Performed, Closed}
use Rattle.model.specs.Mailbox.{MailboxKind}
use Rattle.model.specs.Program.{Op, send, receive, acquire, release, start, Locks, Program}
use Rattle.model.specs.Rules.{locked}
use Rattle.model.proofs.Moves.{seen}
use Rattle.model.proofs.Steps.{other, wakes}
use Rattle.model.proofs.Tools.{Frame, Ready, operates, closes, Seen}

module _ {Level Message Mailbox : Type 0} (below : Level → Level → Bool) (P : Program Level Message) (F : Frame P) (K : MailboxKind Message Mailbox) where
  abbrev Exclusive : Machine Message Mailbox → Type 0
  Exclusive w = (t u x : ℕ) → t < P.threads → u < P.threads → T ((w.thread t).locks x) → T ((w.thread u).locks x) → t ≡ u

  -- What a thread holds after an operation of its own it held before, or has just acquired.
  own_held : (o : Op Message) (h : Locks) (x : ℕ) → T (locked o h x) → T (h x) ⊎ (o ≡ acquire x)
  own_held (send c m) h x k = inl k
  own_held (receive c) h x k = inl k
  own_held (start u) h x k = inl k
  own_held (acquire l) h x k = cond_both (eqb x l) true (h x) (λ b. T b → T (h x) ⊎ (◌≡◌ {A = Op Message} (acquire l) (acquire x))) (λ e k. inr (ap acquire (sym (eqb-true x l e)))) (λ e k. inl k) k
  own_held (release l) h x k = cond_both (eqb x l) false (h x) (λ b. T b → T (h x) ⊎ (◌≡◌ {A = Op Message} (release l) (acquire x))) (λ e k. absurd k) (λ e k. inl k) k

  module _ (w w' : Machine Message Mailbox) (t : ℕ) (o : Op Message) (ready : Ready below P K w t o) (d : Performed P K w t w' o) where
    held-before : (u x : ℕ) → T ((w'.thread u).locks x) → T ((w.thread u).locks x) ⊎ ((u ≡ t) × (o ≡ acquire x))
    held-before u x k = elim (ℕ_discrete u t) [
      | yes e ↦ (
          let mine : T (locked o (w.thread t).locks x) = subst T (d.locks x) (subst (λ (v : ℕ). T ((w'.thread v).locks x)) e k) in
          elim (own_held o (w.thread t).locks x mine) [ inl q ↦ inl (subst (λ (v : ℕ). T ((w.thread v).locks x)) (sym e) q) | inr q ↦ inr (e, q) ])
      | no ne ↦ elim (other below P F K w w' t o d u ne) [
        | inl e ↦ inl (subst (λ (h : Thread Message). T (h.locks x)) e k)
        | inr e ↦ inl (subst T ((wakes below P F K w w' t o u d e).locks x) k)
      ]
    ]

    -- A lock that was just acquired nobody else held.
    just_acquired : (u x : ℕ) → u < P.threads → T ((w.thread u).locks x) → o ≡ acquire x → t ≡ u
    just_acquired u x h k e = elim (ℕ_discrete u t) [
      | yes q ↦ sym q
      | no ne ↦ absurd (subst (λ (y : Op Message). Ready below P K w t y) e ready u h ne k)
    ]

    exclusive_on : Exclusive w → Exclusive w'
    exclusive_on i a b x ha hb ka kb = elim (held-before a x ka) [
      | inl p ↦ elim (held-before b x kb) [
        | inl q ↦ i a b x ha hb p q
        | inr q ↦ sym (just_acquired a x ha p q.1) ∙ sym q.0
      ]
      | inr p ↦ elim (held-before b x kb) [
        | inl q ↦ p.0 ∙ just_acquired b x hb q p.1
        | inr q ↦ p.0 ∙ sym q.0
      ]
    ]

  closed-held : (w w' : Machine Message Mailbox) (t : ℕ) → Closed P K w t w' → (u x : ℕ) → T ((w'.thread u).locks x) → T ((w.thread u).locks x)
  closed-held w w' t d u x k = elim (ℕ_discrete u t) [
    | yes e ↦ subst (λ (v : ℕ). T ((w.thread v).locks x)) (sym e) (subst T (d.locks x) (subst (λ (v : ℕ). T ((w'.thread v).locks x)) e k))
    | no ne ↦ subst (λ (h : Thread Message). T (h.locks x)) (d.others u ne) k
  ]

  exclusive-next : (w w' : Machine Message Mailbox) (t : ℕ) (a : Answer) → Seen below P K w t w' a → Exclusive w → Exclusive w'
  exclusive-next w w' t (granted l) (operates turn o next legal ready d) i = exclusive_on w w' t o ready d i
  exclusive-next w w' t (granted l) (closes turn end settled d) i = λ a b x ha hb ka kb. i a b x ha hb (closed-held w w' t d a x ka) (closed-held w w' t d b x kb)
  exclusive-next w w' t (refused n) e i = subst Exclusive (sym e) i
  exclusive-next w w' t (breached u l x) s i = λ a b x ha hb ka kb. i a b x ha hb
      (subst (λ (h : Thread Message). T (h.locks x)) (s.2.thread a) ka) (subst (λ (h : Thread Message). T (h.locks x)) (s.2.thread b) kb)

  exclusive_since : (v w : Machine Message Mailbox) (log : List Entry) → Exclusive v → Attempts below P K v w log → Exclusive w
  exclusive_since v w log i no_attempt = i
  exclusive_since v w log i (attempted {m = m} {log = l} {e = e} h a) = exclusive-next m w e.thread e.answer (seen below P K m e.thread w e.answer a) (exclusive_since v m l i h)

  none-held : (blank : Message) (b : Mailbox) (w : Machine Message Mailbox) → Opening P K blank b w → (u x : ℕ) → u < P.threads → T ((w.thread u).locks x) → ⊥
  none-held blank b w o zero x h k = subst T (o.main.locks x) k
  none-held blank b w o (suc u) x h k = subst T ((o.rest (suc u) (omega arith) h).locks x) k

  pub exclusive : (w : Machine Message Mailbox) (log : List Entry) → History below P K w log → (t u x : ℕ) → t < P.threads → u < P.threads → T ((w.thread t).locks x) → T ((w.thread u).locks x) → t ≡ u
  exclusive w log h = exclusive_since h.opened w log (λ t u x ht hu kt ku. absurd (none-held h.blank h.before h.opened h.opening t x ht kt)) h.attempts
