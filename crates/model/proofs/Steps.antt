-- What one granted move keeps: the walk of each thread, the counts, the sum on each channel. Assumes nothing.
use Rattle.std.proofs.Common.{◌≡◌, ℕ, suc, ◌+◌, ◌*◌, ◌<◌, ◌≤◌, Bool, false, ◌≢◌, ◌⊎◌, [], ◌∷◌, length, pos, ◌+ℤ◌, sym, refl, ap, ◌∙◌, subst, inl, inr, arith, length-append}
use mathlib.Core.Path.{fun_ext}
use native.Mathlib.Decide.{ℕ_discrete}
use Rattle.std.proofs.lemmas.Int.{ints}
use Rattle.model.specs.Machine.{asleep, running, home, Thread, Machine, Wakes, Woken, Performed, Closed}
use Rattle.model.specs.Mailbox.{MailboxKind}
use Rattle.model.specs.Position.{sent_on, received_on}
use Rattle.model.specs.Program.{Op, send, receive, acquire, release, start, Account, Locks, Program, tally, sum, sumℤ, same, send_weight}
use Rattle.model.specs.Rules.{locked, paid, account_at, locks_at}
use Rattle.model.specs.Threads.{at_start}
use Rattle.model.proofs.States.{apart}
use Rattle.model.proofs.Sums.{same_refl, same_eq, same-other, sum_same, sum_change, sumℤ_change, sumℤ_change_2}
use Rattle.model.proofs.Tools.{At, Settled, Permitted, Frame, Turn, Next, Last, PermittedHere, SettledHere}
use Rattle.model.proofs.Walks.{at_one, at-below, starts-some, after_more, after-end, tally_more, tally-end}

module _ {Message : Type 0} where
  is-start : (o : Op Message) (u : ℕ) → (o ≡ start u) ⊎ ¬ (o ≡ start u)
  is-start o u = elim (ℕ_discrete (at_start 0 suc o) (suc u)) [
    | yes e ↦ (let s = starts-some suc o (omega (arith, e)) in let n : s.0 ≡ u = omega (arith, e, s.2) in inl (s.1 ∙ ap start n))
    | no ne ↦ inr (λ e. ne (ap (at_start 0 suc) e))
  ]

module _ {Level Message : Type 0} (below : Level → Level → Bool) (P : Program Level Message) (F : Frame P) where
  -- Thread u, awake, is where its walk is; `wp` is the place of the thread that starts it.
  pub record Walked (u : ℕ) (h : Thread Message) (wp : ℕ) : Type 0 where
    pub account : (x : ℕ) → h.account x ≡ account_at P u h.place x
    pub locks : (x : ℕ) → h.locks x ≡ locks_at P u h.place x
    pub legal : (p : ℕ) (o : Op Message) → p < h.place → At (P.ops u) p o → Permitted P below o (account_at P u p) (locks_at P u p)
    pub woken : 0 < u → F.waking u < wp

  pub record Sleeping (u : ℕ) (h : Thread Message) (wp : ℕ) : Type 0 where
    pub started : 0 < u
    pub place : h.place ≡ 0
    pub account : (x : ℕ) → h.account x ≡ pos 0
    pub locks : (x : ℕ) → h.locks x ≡ false
    pub unwoken : wp ≤ F.waking u

  pub data Stand (u : ℕ) (h : Thread Message) (wp : ℕ) : Type 0 where
    sleeps : h.state ≡ asleep → Sleeping u h wp → Stand u h wp
    runs : h.state ≡ running → h.place ≤ length (P.ops u) → Walked u h wp → Stand u h wp
    rests : h.state ≡ home → h.place ≡ suc (length (P.ops u)) → Settled P h.account h.locks → Walked u h wp → Stand u h wp

  pub walked : (u : ℕ) (h : Thread Message) (wp : ℕ) → h.state ≡ running → Stand u h wp → (h.place ≤ length (P.ops u)) × Walked u h wp
  walked u h wp e (sleeps s k) = apart running asleep e s (omega arith)
  walked u h wp e (runs s l k) = (l, k)
  walked u h wp e (rests s l d k) = apart running home e s (omega arith)

  -- The thread that starts u has moved on, and not past the start of u if u is asleep.
  pub stand_on : (u : ℕ) (h : Thread Message) (wp wp' : ℕ) → wp ≤ wp' → (h.state ≡ asleep → wp ≤ F.waking u → wp' ≤ F.waking u) → Stand u h wp → Stand u h wp'
  stand_on u h wp wp' le f (sleeps s k) = sleeps s (record { started = k.started; place = k.place; account = k.account; locks = k.locks; unwoken = f s k.unwoken })
  stand_on u h wp wp' le f (runs s l k) = runs s l (record { account = k.account; locks = k.locks; legal = k.legal; woken = λ z. let q = k.woken z in omega arith })
  stand_on u h wp wp' le f (rests s l d k) = rests s l d (record { account = k.account; locks = k.locks; legal = k.legal; woken = λ z. let q = k.woken z in omega arith })

  module _ {Mailbox : Type 0} (K : MailboxKind Message Mailbox) where
    -- messages that wait on channel c
    abbrev pub len : Mailbox → ℕ → ℕ
    len b c = length (K.waiting b c)

    module _ (w w' : Machine Message Mailbox) (t : ℕ) where
      -- Another thread is as it was, or is the one that the operation starts.
      pub other : (o : Op Message) → Performed P K w t w' o → (u : ℕ) → u ≢ t → (w'.thread u ≡ w.thread u) ⊎ (o ≡ start u)
      other (send c m) d u ne = inl (d.others u ne tt)
      other (receive c) d u ne = inl (d.others u ne tt)
      other (acquire l) d u ne = inl (d.others u ne tt)
      other (release l) d u ne = inl (d.others u ne tt)
      other (start v) d u ne = elim (ℕ_discrete u v) [
        | yes e ↦ inr (ap start (sym e))
        | no nv ↦ inl (d.others u ne nv)
      ]

      pub wakes : (o : Op Message) (u : ℕ) → Performed P K w t w' o → o ≡ start u → Wakes P K w t w' u
      wakes o u d e = subst (λ (y : Op Message). Woken P K w t w' y) e d.woken

      module _ (o : Op Message) (d : Performed P K w t w' o) where
        pub place_other : (u : ℕ) → u ≢ t → (w'.thread u).place ≡ (w.thread u).place
        place_other u ne = elim (other o d u ne) [
          | inl e ↦ ap (λ (h : Thread Message). h.place) e
          | inr e ↦ (wakes o u d e).place
        ]

        pub place_is : (u : ℕ) → (w'.thread u).place ≡ (w.thread u).place + same u t
        place_is u = elim (ℕ_discrete u t) [
          | yes e ↦ omega (arith, d.place, same_eq u t e, ap (λ v. (w'.thread v).place) e, ap (λ v. (w.thread v).place) e)
          | no ne ↦ omega (arith, place_other u ne, same-other u t ne)
        ]

        pub tally-sum : (turn : Turn below P K w t) → Next below P K w t o → (f : Op Message → ℕ) →
            sum (λ u. tally f (P.ops u) (w'.thread u).place) P.threads ≡ sum (λ u. tally f (P.ops u) (w.thread u).place) P.threads + f o
        tally-sum turn next f =
            let n : ℕ → ℕ = λ u. tally f (P.ops u) (w.thread u).place in
            let n' : ℕ → ℕ = λ u. tally f (P.ops u) (w'.thread u).place in
            let own : n' t ≡ n t + f o = ap (λ p. tally f (P.ops t) p) d.place ∙ tally_more f (P.ops t) (w.thread t).place o next in
            let change : sum n' P.threads + n t ≡ sum n P.threads + n' t = sum_change n n' P.threads t turn.exists (λ u h ne. ap (λ p. tally f (P.ops u) p) (place_other u ne)) in
            omega (arith, own, change)

      -- lengths and rooms
      pub length-is : (o : Op Message) → Performed P K w t w' o → (x : ℕ) → len w'.mailbox x + received_on x o ≡ len w.mailbox x + sent_on x o
      length-is (send c m) d x = elim (ℕ_discrete x c) [
        | yes e ↦ omega (arith, same_eq x c e, ap (len w.mailbox) e, ap (len w'.mailbox) e, ap length d.delivered.0.joined, length-append (K.waiting w.mailbox c) (m ∷ []))
        | no ne ↦ omega (arith, same-other x c ne, ap length (d.delivered.0.others x ne))
      ]
      length-is (receive c) d x = elim (ℕ_discrete x c) [
        | yes e ↦ omega (arith, same_eq x c e, ap (len w.mailbox) e, ap (len w'.mailbox) e, ap length d.delivered.0.removed)
        | no ne ↦ omega (arith, same-other x c ne, ap length (d.delivered.0.others x ne))
      ]
      length-is (acquire l) d x = omega (arith, ap (λ b. len b x) d.delivered.0)
      length-is (release l) d x = omega (arith, ap (λ b. len b x) d.delivered.0)
      length-is (start u) d x = omega (arith, ap (λ b. len b x) d.delivered.0)

      pub room-is : (o : Op Message) → Performed P K w t w' o → (x : ℕ) → K.room w.mailbox x ≤ K.room w'.mailbox x + send_weight o
      room-is (send c m) d x = omega (arith, d.delivered.0.roomy x)
      room-is (receive c) d x = omega (arith, d.delivered.0.roomy x)
      room-is (acquire l) d x = omega (arith, ap (λ b. K.room b x) d.delivered.0)
      room-is (release l) d x = omega (arith, ap (λ b. K.room b x) d.delivered.0)
      room-is (start u) d x = omega (arith, ap (λ b. K.room b x) d.delivered.0)

      -- The sum on channel x: the accounts and what the waiting messages carry come to the messages that wait there.
      module _ (turn : Turn below P K w t) where
        carried_change : (c x : ℕ) → c < P.objects → ((y : ℕ) → y ≢ c → len w'.mailbox y ≡ len w.mailbox y) →
            sum (λ k. P.carries k x * len w'.mailbox k) P.objects + P.carries c x * len w.mailbox c ≡ sum (λ k. P.carries k x * len w.mailbox k) P.objects + P.carries c x * len w'.mailbox c
        carried_change c x h e =
            sum_change (λ k. P.carries k x * len w.mailbox k) (λ k. P.carries k x * len w'.mailbox k) P.objects c h (λ u l ne. ap (λ n. P.carries u x * n) (e u ne))

        carried_same : (x : ℕ) → w'.mailbox ≡ w.mailbox → sum (λ k. P.carries k x * len w'.mailbox k) P.objects ≡ sum (λ k. P.carries k x * len w.mailbox k) P.objects
        carried_same x e = ap (λ b. sum (λ k. P.carries k x * len b k) P.objects) e

        accounts_change : (x : ℕ) → ((u : ℕ) → u ≢ t → w'.thread u ≡ w.thread u) →
            sumℤ (λ u. (w'.thread u).account x) P.threads +ℤ (w.thread t).account x ≡ sumℤ (λ u. (w.thread u).account x) P.threads +ℤ (w'.thread t).account x
        accounts_change x e =
            sumℤ_change (λ u. (w.thread u).account x) (λ u. (w'.thread u).account x) P.threads t turn.exists (λ u l ne. ap (λ (h : Thread Message). h.account x) (e u ne))

        abbrev Balanced : Machine Message Mailbox → ℕ → Type 0
        Balanced v x = sumℤ (λ u. (v.thread u).account x) P.threads +ℤ pos (sum (λ k. P.carries k x * len v.mailbox k) P.objects) ≡ pos (len v.mailbox x)

        -- Where no account and no list changes.
        balanced_still : (x : ℕ) → ((u : ℕ) → u ≢ t → w'.thread u ≡ w.thread u) → (w'.thread t).account x ≡ (w.thread t).account x → w'.mailbox ≡ w.mailbox → Balanced w x → Balanced w' x
        balanced_still x others own mailbox h =
            let here : len w'.mailbox x ≡ len w.mailbox x = ap (λ b. len b x) mailbox in
            let accounts = accounts_change x others in
            let carried = carried_same x mailbox in
            omega (arith, ints)

        pub balanced_on : (o : Op Message) → Next below P K w t o → Performed P K w t w' o → (x : ℕ) →
            ((u : ℕ) → o ≡ start u → (u ≢ t) × (u < P.threads) × ((w.thread u).account x ≡ pos 0)) → Balanced w x → Balanced w' x
        balanced_on (send c m) next d x fresh h =
            let inside : c < P.objects = (F.within t (w.thread t).place (send c m) turn.exists next).0 in
            let own = d.account x in
            let more : len w'.mailbox c ≡ suc (len w.mailbox c) = (let l = length-is (send c m) d c in omega (arith, same_refl c)) in
            let here = length-is (send c m) d x in
            let accounts = accounts_change x (λ u ne. d.others u ne tt) in
            let carried = carried_change c x inside (λ y ne. (let l = length-is (send c m) d y in omega (arith, same-other y c ne))) in
            let product : P.carries c x * len w'.mailbox c ≡ P.carries c x * suc (len w.mailbox c) = ap (λ n. P.carries c x * n) more in
            omega (arith, ints)
        balanced_on (receive c) next d x fresh h =
            let inside : c < P.objects = (F.within t (w.thread t).place (receive c) turn.exists next).0 in
            let own = d.account x in
            let less : len w.mailbox c ≡ suc (len w'.mailbox c) = (let l = length-is (receive c) d c in omega (arith, same_refl c)) in
            let here = length-is (receive c) d x in
            let accounts = accounts_change x (λ u ne. d.others u ne tt) in
            let carried = carried_change c x inside (λ y ne. (let l = length-is (receive c) d y in omega (arith, same-other y c ne))) in
            let product : P.carries c x * len w.mailbox c ≡ P.carries c x * suc (len w'.mailbox c) = ap (λ n. P.carries c x * n) less in
            omega (arith, ints)
        balanced_on (acquire l) next d x fresh h = balanced_still x (λ u ne. d.others u ne tt) (d.account x) d.delivered.0 h
        balanced_on (release l) next d x fresh h = balanced_still x (λ u ne. d.others u ne tt) (d.account x) d.delivered.0 h
        balanced_on (start v) next d x fresh h =
            let own = d.account x in
            let woken = d.woken.account x in
            let before = fresh v refl in
            let zeros = before.2 in
            let here = length-is (start v) d x in
            let accounts = sumℤ_change_2 (λ u. (w.thread u).account x) (λ u. (w'.thread u).account x) P.threads t v turn.exists before.1 (λ e. before.0 (sym e))
            (λ u l ne nv. ap (λ (h : Thread Message). h.account x) (d.others u ne nv)) in
            let carried = carried_same x d.delivered.0 in
            omega (arith, ints)

        pub balanced_closed : Closed P K w t w' → (x : ℕ) → Balanced w x → Balanced w' x
        balanced_closed d x h = balanced_still x d.others (d.account x) d.mailbox h

        -- Where each thread stands after a granted operation.
        module _ (stand : (u : ℕ) → u < P.threads → Stand u (w.thread u) (w.thread (F.waker u)).place) where
          abbrev own : Thread Message
          own = w.thread t

          own-walked : (own.place ≤ length (P.ops t)) × Walked t own (w.thread (F.waker t)).place
          own-walked = walked t own _ turn.awake (stand t turn.exists)

          own-account : own.account ≡ account_at P t own.place
          own-account = fun_ext own-walked.1.account

          own-locks : own.locks ≡ locks_at P t own.place
          own-locks = fun_ext own-walked.1.locks

          -- The thread that an operation starts sleeps.
          pub started-sleeps : (u : ℕ) → At (P.ops t) own.place (start u) → (u ≢ t) × (u < P.threads) × Sleeping u (w.thread u) (w.thread (F.waker u)).place
          started-sleeps u next =
              let f = F.once t own.place u turn.exists next in
              let g = F.woken u f.0 f.1 in
              let here : (w.thread (F.waker u)).place ≡ own.place = ap (λ v. (w.thread v).place) (sym f.2) in
              let sleeping : Stand u (w.thread u) (w.thread (F.waker u)).place → Sleeping u (w.thread u) (w.thread (F.waker u)).place = elim [
                | sleeps s k ↦ k
                | runs s l k ↦ absurd (let q = k.woken f.0 in omega (arith, f.3))
                | rests s l e k ↦ absurd (let q = k.woken f.0 in omega (arith, f.3))
              ] in
              (omega (arith, g.0, f.2), f.1, sleeping (stand u f.1))

          module _ (o : Op Message) (next : Next below P K w t o) (legal : PermittedHere below P K w t o) (d : Performed P K w t w' o) where
            waker_on : (u : ℕ) → (w.thread (F.waker u)).place ≤ (w'.thread (F.waker u)).place
            waker_on u = omega (arith, place_is o d (F.waker u))

            legal_walk : Permitted P below o (account_at P t own.place) (locks_at P t own.place)
            legal_walk = subst (λ (h : Locks). Permitted P below o (account_at P t own.place) h) own-locks (subst (λ (a : Account). Permitted P below o a own.locks) own-account legal)

            legal-all : (p : ℕ) (q : Op Message) → p < suc own.place → At (P.ops t) p q → Permitted P below q (account_at P t p) (locks_at P t p)
            legal-all p q h a = elim (ℕ_discrete p own.place) [
              | yes e ↦ subst (λ (p : ℕ). Permitted P below q (account_at P t p) (locks_at P t p)) (sym e)
                  (subst (λ (y : Op Message). Permitted P below y (account_at P t own.place) (locks_at P t own.place))
                  (at_one (P.ops t) own.place o q next (subst (λ (p : ℕ). At (P.ops t) p q) e a)) legal_walk)
              | no ne ↦ own-walked.1.legal p q (omega arith) a
            ]

            stand-own : Stand t (w'.thread t) (w'.thread (F.waker t)).place
            stand-own = runs d.state (omega (arith, d.place, at-below (P.ops t) own.place o next)) (record {
              account = λ x. d.account x ∙ ap (λ (a : Account). paid P o a x) own-account
                  ∙ ap (λ (a : Account). a x) (sym (after_more (paid P) (P.ops t) own.place o (P.opening t) next))
                  ∙ ap (λ p. account_at P t p x) (sym d.place);
              locks = λ x. d.locks x ∙ ap (λ (h : Locks). locked o h x) own-locks
                  ∙ ap (λ (h : Locks). h x) (sym (after_more (locked) (P.ops t) own.place o (λ y. false) next))
                  ∙ ap (λ p. locks_at P t p x) (sym d.place);
              legal = λ p q h a. legal-all p q (let e = d.place in omega arith) a;
              woken = λ z. let q = own-walked.1.woken z in omega (arith, waker_on t);
            })

            stand-woken : (u : ℕ) → u < P.threads → o ≡ start u → Stand u (w'.thread u) (w'.thread (F.waker u)).place
            stand-woken u h e =
                let at : At (P.ops t) own.place (start u) = subst (λ (y : Op Message). At (P.ops t) own.place y) e next in
                let k = started-sleeps u at in
                let f = F.once t own.place u turn.exists at in
                let v = wakes o u d e in
                let zero-place : (w'.thread u).place ≡ 0 = v.place ∙ k.2.place in
                let waker-place : (w'.thread (F.waker u)).place ≡ suc own.place = ap (λ s. (w'.thread s).place) (sym f.2) ∙ d.place in
                runs v.state (omega (arith, zero-place)) (record {
                  account = λ x. v.account x ∙ ap (λ p. account_at P u p x) (sym zero-place);
                  locks = λ x. v.locks x ∙ k.2.locks x ∙ ap (λ p. locks_at P u p x) (sym zero-place);
                  legal = λ p q l a. absurd (omega (arith, zero-place));
                  woken = λ z. omega (arith, waker-place, f.3);
                })

            -- Where u sleeps on, the operation was not the one that starts it.
            sleeps_on : (u : ℕ) → u < P.threads → u ≢ t → ¬ (o ≡ start u) → (w.thread u).state ≡ asleep → (w.thread (F.waker u)).place ≤ F.waking u → (w'.thread (F.waker u)).place ≤ F.waking u
            sleeps_on u h ne ns s l = elim (stand u h) [
              | runs r _ _ ↦ apart asleep running s r (omega arith)
              | rests r _ _ _ ↦ apart asleep home s r (omega arith)
              | sleeps _ k ↦ elim (ℕ_discrete (F.waker u) t) [
                | no nw ↦ omega (arith, place_other o d (F.waker u) nw)
                | yes e ↦ elim (ℕ_discrete own.place (F.waking u)) [
                  | yes same_place ↦ absurd (ns (at_one (P.ops t) own.place o (start u) next
                      (subst (λ (p : ℕ). At (P.ops t) p (start u)) (sym same_place) (subst (λ (v : ℕ). At (P.ops v) (F.waking u) (start u)) e (F.woken u k.started h).1))))
                  | no np ↦ omega (arith, np, d.place, ap (λ v. (w'.thread v).place) e, ap (λ v. (w.thread v).place) e)
                ]
              ]
            ]

            pub stand-next : (u : ℕ) → u < P.threads → Stand u (w'.thread u) (w'.thread (F.waker u)).place
            stand-next u h = elim (ℕ_discrete u t) [
              | yes e ↦ subst (λ (v : ℕ). Stand v (w'.thread v) (w'.thread (F.waker v)).place) (sym e) stand-own
              | no ne ↦ elim (is-start o u) [
                | inl s ↦ stand-woken u h s
                | inr ns ↦ elim (other o d u ne) [
                  | inl e ↦ subst (λ (g : Thread Message). Stand u g (w'.thread (F.waker u)).place) (sym e)
                      (stand_on u (w.thread u) (w.thread (F.waker u)).place (w'.thread (F.waker u)).place (waker_on u) (sleeps_on u h ne ns) (stand u h))
                  | inr s ↦ absurd (ns s)
                ]
              ]
            ]

          -- Where each thread stands after a closing.
          module _ (final : Last below P K w t) (settled : SettledHere below P K w t) (d : Closed P K w t w') where
            end : (w.thread t).place ≡ length (P.ops t)
            end = omega (arith, own-walked.0, final)

            pub closed_place_other : (u : ℕ) → u ≢ t → (w'.thread u).place ≡ (w.thread u).place
            closed_place_other u ne = ap (λ (h : Thread Message). h.place) (d.others u ne)

            pub closed_place_is : (u : ℕ) → (w'.thread u).place ≡ (w.thread u).place + same u t
            closed_place_is u = elim (ℕ_discrete u t) [
              | yes e ↦ omega (arith, d.place, end, same_eq u t e, ap (λ v. (w'.thread v).place) e, ap (λ v. (w.thread v).place) e)
              | no ne ↦ omega (arith, closed_place_other u ne, same-other u t ne)
            ]

            pub closed_tally_sum : (f : Op Message → ℕ) →
                sum (λ u. tally f (P.ops u) (w'.thread u).place) P.threads ≡ sum (λ u. tally f (P.ops u) (w.thread u).place) P.threads
            closed_tally_sum f = sum_same (λ u. tally f (P.ops u) (w.thread u).place) (λ u. tally f (P.ops u) (w'.thread u).place) P.threads (λ u h. elim (ℕ_discrete u t) [
              | yes e ↦ subst (λ (v : ℕ). tally f (P.ops v) (w'.thread v).place ≡ tally f (P.ops v) (w.thread v).place) (sym e)
                  (ap (λ p. tally f (P.ops t) p) d.place ∙ tally-end f (P.ops t) ∙ ap (λ p. tally f (P.ops t) p) (sym end))
              | no ne ↦ ap (λ p. tally f (P.ops u) p) (closed_place_other u ne)
            ])

            closed-place : (w'.thread t).place ≡ suc (length (P.ops t))
            closed-place = d.place

            closed-own : Stand t (w'.thread t) (w'.thread (F.waker t)).place
            closed-own = rests d.state closed-place
                (subst (λ (h : Locks). Settled P (w'.thread t).account h) (sym (fun_ext d.locks)) (subst (λ (a : Account). Settled P a own.locks) (sym (fun_ext d.account)) settled))
                (record {
                  account = λ x. d.account x ∙ own-walked.1.account x ∙ ap (λ p. account_at P t p x) end
                      ∙ ap (λ (a : Account). a x) (sym (after-end (paid P) (P.ops t) (P.opening t))) ∙ ap (λ p. account_at P t p x) (sym closed-place);
                  locks = λ x. d.locks x ∙ own-walked.1.locks x ∙ ap (λ p. locks_at P t p x) end
                      ∙ ap (λ (h : Locks). h x) (sym (after-end (locked) (P.ops t) (λ y. false))) ∙ ap (λ p. locks_at P t p x) (sym closed-place);
                  legal = λ p q h a. own-walked.1.legal p q (omega (arith, at-below (P.ops t) p q a, end)) a;
                  woken = λ z. let q = own-walked.1.woken z in omega (arith, closed_place_is (F.waker t));
                })

            -- A closing starts no thread.
            closed_sleeps_on : (u : ℕ) → u < P.threads → (w.thread u).state ≡ asleep → (w.thread (F.waker u)).place ≤ F.waking u → (w'.thread (F.waker u)).place ≤ F.waking u
            closed_sleeps_on u h s l = elim (stand u h) [
              | runs r _ _ ↦ apart asleep running s r (omega arith)
              | rests r _ _ _ ↦ apart asleep home s r (omega arith)
              | sleeps _ k ↦ elim (ℕ_discrete (F.waker u) t) [
                | no nw ↦ omega (arith, closed_place_other (F.waker u) nw)
                | yes e ↦ absurd (omega (arith, end, ap (λ v. (w.thread v).place) e, ap (λ v. length (P.ops v)) e, at-below (P.ops (F.waker u)) (F.waking u) (start u) (F.woken u k.started h).1))
              ]
            ]

            pub closed_stand_next : (u : ℕ) → u < P.threads → Stand u (w'.thread u) (w'.thread (F.waker u)).place
            closed_stand_next u h = elim (ℕ_discrete u t) [
              | yes e ↦ subst (λ (v : ℕ). Stand v (w'.thread v) (w'.thread (F.waker v)).place) (sym e) closed-own
              | no ne ↦ subst (λ (g : Thread Message). Stand u g (w'.thread (F.waker u)).place) (sym (d.others u ne))
                  (stand_on u (w.thread u) (w.thread (F.waker u)).place (w'.thread (F.waker u)).place (omega (arith, closed_place_is (F.waker u))) (closed_sleeps_on u h) (stand u h))
            ]
