-- The starts of a program as a function from threads, and an opening without a fault in words. Assumes nothing.
use Rattle.std.proofs.Common.{◌≡◌, ℕ, ◌<◌, ◌≤◌, Bool, true, false, cond, not, ◌&&◌, T, eqb, ltb, List, [], length, Some, None, Option, sym, refl, ap, ◌∙◌, subst, arith, ltb→lt, lt→ltb, ne_eqb}
use native.Mathlib.Decide.{ℕ_discrete, dec_lt}
use Rattle.std.proofs.lemmas.Float.{T_from_false}
use Rattle.std.proofs.lemmas.List.{nil_from_length}
use Rattle.std.proofs.lemmas.Option.{same_Some}
use Rattle.model.specs.History.{not_empty, tight, opening_fault, Opening, OpeningFault}
use Rattle.model.specs.Machine.{Machine, found}
use Rattle.model.specs.Mailbox.{MailboxKind}
use Rattle.model.specs.Program.{start, Program, sends, mailbox_numbers, Formed}
use Rattle.model.specs.Rules.{first}
use Rattle.model.proofs.Breaches.{step_op, op-step}
use Rattle.model.proofs.Searches.{not_none, first-none, none_first, some_first}
use Rattle.model.proofs.Tools.{At, Frame, Opened}

module _ {Level Message : Type 0} (P : Program Level Message) (F : Formed P) where
  -- Where thread t is started, if it is a thread other than the first.
  record Source (t : ℕ) : Type 0 where
    waker : ℕ
    waking : ℕ
    fact : 0 < t → t < P.threads → (waker < t) × At (P.ops waker) waking (start t)

  source : (t : ℕ) → Source t
  source t = elim (dec_lt 0 t) [
    | no na ↦ record { waker = 0; waking = 0; fact = λ a b. absurd (na a) }
    | yes a ↦ elim (dec_lt t P.threads) [
      | no nb ↦ record { waker = 0; waking = 0; fact = λ a b. absurd (nb b) }
      | yes b ↦ (let s = F.started t a b in record { waker = s.0; waking = s.1; fact = λ c d. (s.2, step_op (P.ops s.0) s.1 (start t) s.3) })
    ]
  ]

  pub frame : Frame P
  frame = record {
    few_objects = F.few_objects;
    main_opening = F.main_opening;
    waker = λ t. (source t).waker;
    waking = λ t. (source t).waking;
    woken = λ t a b. (source t).fact a b;
    once = λ s p t h a.
        let e = op-step (P.ops s) p (start t) a in
        let r = F.starts s p t h e in
        let f = (source t).fact r.0 r.1 in
        let q = F.once s p (source t).waker (source t).waking t h (let l = f.0 in let k = r.1 in omega arith) e (op-step (P.ops (source t).waker) (source t).waking (start t) f.1) in
        (r.0, r.1, q.0, q.1);
    within = λ s p o h a. F.within s p o h (op-step (P.ops s) p o a);
  }

-- Neither fault of an opening.
no_faults : (r q : Option ℕ) → cond {A = Option ℕ} (found r) (Some 41) (cond (found q) (Some 42) None) ≡ None → (r ≡ None) × (q ≡ None)
no_faults None None e = (refl, refl)
no_faults None (Some x) e = not_none e
no_faults (Some x) q e = not_none e

empty-is : (n : ℕ) → ¬ (T (not (eqb n 0))) → n ≡ 0
empty-is n h = elim (ℕ_discrete n 0) [ yes e ↦ e | no ne ↦ absurd (h (T_from_false _ (ne_eqb n 0 ne))) ]

roomy-is : (b : Bool) (r s : ℕ) → T b → ¬ (T (b && ltb r s)) → s ≤ r
roomy-is true r s t h = let n : ¬ (r < s) = λ l. h (lt→ltb r s l) in omega arith
roomy-is false r s t h = absurd t

module _ {Level Message Mailbox : Type 0} (P : Program Level Message) (F : Frame P) (K : MailboxKind Message Mailbox) where
  pub opened-is : (blank : Message) (b : Mailbox) (w : Machine Message Mailbox) → opening_fault P K b ≡ None → Opening P K blank b w → Opened P K blank w
  opened-is blank b w no_fault o =
      let q = no_faults _ _ no_fault in
      record {
        main = o.main;
        rest = o.rest;
        going = o.halted ∙ ap found no_fault;
        empty = λ c h. ap (λ (x : Mailbox). length (K.waiting x c)) o.mailbox
            ∙ empty-is _ (none_first (not_empty K b) 0 mailbox_numbers q.0 c (omega arith) (let few = F.few_objects in omega arith));
        room = λ c h k. subst (λ (x : Mailbox). sends P ≤ K.room x c) (sym o.mailbox)
            (roomy-is (P.channel c) _ _ k (none_first (tight P K b) 0 P.objects q.1 c (omega arith) (omega arith)));
      }

-- An opening without a fault, and with 41, in words.
module _ {Level Message Mailbox : Type 0} (P : Program Level Message) (K : MailboxKind Message Mailbox) (b : Mailbox) where
  some_list : {A : Type 0} (xs : List A) → T (not (eqb (length xs) 0)) → ¬ (xs ≡ [])
  some_list xs h e = subst (λ ys. T (not (eqb (length ys) 0))) e h

  list_test : {A : Type 0} (xs : List A) → ¬ (xs ≡ []) → T (not (eqb (length xs) 0))
  list_test xs n = T_from_false _ (ne_eqb (length xs) 0 (λ e. n (nil_from_length xs e)))

  not_tight : (t : Bool) (r s : ℕ) → (T t → s ≤ r) → ¬ (T (t && ltb r s))
  not_tight true r s f h = let l = ltb→lt r s h in let k = f tt in omega arith
  not_tight false r s f h = h

  -- 41 where the first search finds a number, and only there
  fault_of : Option ℕ → Option ℕ → Option ℕ
  fault_of r q = cond (found r) (Some 41) (cond (found q) (Some 42) None)

  found_41 : (r q : Option ℕ) → fault_of r q ≡ Some 41 → (x : ℕ) × (r ≡ Some x)
  unfolding fault_of
  found_41 (Some x) q e = (x, refl)
  found_41 None (Some y) e = absurd (let n = same_Some 42 41 e in omega arith)
  found_41 None None e = not_none (sym e)

  some_41 : (r q : Option ℕ) → ¬ (r ≡ None) → fault_of r q ≡ Some 41
  unfolding fault_of
  some_41 (Some x) q n = refl
  some_41 None q n = absurd (n refl)

  pub opening_law : OpeningFault P K b
  unfolding fault_of
  opening_law = record {
    no_fault = (
      λ e.
          let q = no_faults _ _ e in
          record {
            empty = λ c h. nil_from_length (K.waiting b c) (empty-is _ (none_first (not_empty K b) 0 mailbox_numbers q.0 c (omega arith) (omega arith)));
            roomy = λ c h k. roomy-is (P.channel c) _ _ k (none_first (tight P K b) 0 P.objects q.1 c (omega arith) (omega arith));
          },
      λ n.
          ap (λ (r : Option ℕ). fault_of r (first (tight P K b) P.objects))
          (first-none (not_empty K b) 0 mailbox_numbers (λ c l h t. some_list (K.waiting b c) t (n.empty c (omega arith))))
          ∙ ap (fault_of None) (first-none (tight P K b) 0 P.objects (λ c l h t. not_tight (P.channel c) _ _ (n.roomy c (omega arith)) t)),
    );
    fault_41 = (
      λ e.
          let r = found_41 _ _ e in
          let s = some_first (not_empty K b) 0 mailbox_numbers r.0 r.1 in
          (r.0, omega (arith, s.1), some_list (K.waiting b r.0) s.2),
      λ r. some_41 _ _ (λ e. none_first (not_empty K b) 0 mailbox_numbers e r.0 (omega arith) (omega (arith, r.1)) (list_test (K.waiting b r.0) r.2)),
    );
  }
