-- The opening of a run, and its histories. Assumes nothing.
use Rattle.std.specs.Prelude.{◌≡◌, ℕ, ◌+◌, ◌<◌, ◌≤◌, Bool, true, false, cond, not, ◌&&◌, ◌||◌, T, ◌↔◌, List, [], ◌∷◌, length, pos, Some, None, Option, ◌==◌, nat_lt}
use Rattle.model.specs.Machine.{State, asleep, running, Thread, Machine, Answer, granted, refused, breached, found, Move}
use Rattle.model.specs.Mailbox.{MailboxKind}
use Rattle.model.specs.Program.{Program, same, sends, mailbox_numbers}
use Rattle.model.specs.Rules.{first}

-- Messages wait under number c.
abbrev pub not_empty : {Message Mailbox : Type 0} → MailboxKind Message Mailbox → Mailbox → ℕ → Bool
not_empty K b c = not (length (K.waiting b c) == 0)

-- A thread before the first move; `blank` is its last word before it receives one.
pub record Fresh {Message : Type 0} (blank : Message) (s : State) (h : Thread Message) : Type 0 where
  pub state : h.state ≡ s
  pub place : h.place ≡ 0
  pub account : (x : ℕ) → h.account x ≡ pos 0
  pub locks : (x : ℕ) → h.locks x ≡ false
  pub last : h.last ≡ blank

module _ {Level Message Mailbox : Type 0} (P : Program Level Message) (K : MailboxKind Message Mailbox) where
  -- Object c is a channel and has less room than the sends of the whole program.
  abbrev pub tight : Mailbox → ℕ → Bool
  tight b c = P.channel c && nat_lt (K.room b c) (sends P)

  -- The fault of an opening with mailbox b, if any: 41 where the mailbox is not empty under some number 0 to 31, else
  -- 42 where a channel of the program has less room than the sends of the whole program.
  abbrev pub opening_fault : Mailbox → Option ℕ
  opening_fault b = cond (found (first (not_empty K b) mailbox_numbers)) (Some 41) (cond (found (first (tight b) P.objects)) (Some 42) None)

  -- The same in words: no message waits under any number 0 to 31, and every channel of the program has room for the
  -- sends of the whole program.
  pub record NoFault (b : Mailbox) : Type 0 where
    pub empty : (c : ℕ) → c < mailbox_numbers → K.waiting b c ≡ []
    pub roomy : (c : ℕ) → c < P.objects → T (P.channel c) → sends P ≤ K.room b c

  -- Opening a run with mailbox b gives the machine m: thread 0 runs, the others sleep, the run is halted where there
  -- was a fault, and the mailbox is as before.
  pub record Opening (blank : Message) (b : Mailbox) (m : Machine Message Mailbox) : Type 0 where
    pub main : Fresh blank running (m.thread 0)
    pub rest : (t : ℕ) → 0 < t → t < P.threads → Fresh blank asleep (m.thread t)
    pub halted : m.halted ≡ found (opening_fault b)
    pub mailbox : m.mailbox ≡ b

-- One attempted move in the log of a run: of which thread, and its answer.
pub record Entry : Type 0 where
  pub thread : ℕ
  pub answer : Answer

module _ {Level Message Mailbox : Type 0} (below : Level → Level → Bool) (P : Program Level Message) (K : MailboxKind Message Mailbox) where
  -- Any list of attempted moves, of any thread numbers, each finding what the earlier ones left; the log has the latest first.
  pub data Attempts (from : Machine Message Mailbox) : Machine Message Mailbox → List Entry → Type 0 where
    no_attempt : Attempts from from []
    attempted : {m m' : Machine Message Mailbox} {log : List Entry} {e : Entry} → Attempts from m log → Move below P K m e.thread e.answer m' → Attempts from m' (e ∷ log)

  -- A history: an opening that neither 41 nor 42 halted, and then attempted moves, which lead to the machine m with this log.
  pub record History (m : Machine Message Mailbox) (log : List Entry) : Type 0 where
    pub blank : Message
    pub before : Mailbox
    pub opened : Machine Message Mailbox
    pub no_fault : opening_fault P K before ≡ None
    pub opening : Opening P K blank before opened
    pub attempts : Attempts opened m log

-- 1 for an answer that grants, else 0; and the same for thread t, of an attempt of thread u.
abbrev pub grant : Answer → ℕ
grant (granted l) = 1
grant (refused n) = 0
grant (breached u l x) = 0

abbrev pub grant_to : ℕ → ℕ → Answer → ℕ
grant_to t u (granted l) = same t u
grant_to t u (refused n) = 0
grant_to t u (breached v l x) = 0

-- How many moves the log grants, in all and to thread t.
abbrev pub grants : List Entry → ℕ
grants [] = 0
grants (e ∷ log) = grants log + grant e.answer

abbrev pub grants_to : ℕ → List Entry → ℕ
grants_to t [] = 0
grants_to t (e ∷ log) = grants_to t log + grant_to t e.thread e.answer

-- Some move of the log was answered by a breach.
abbrev pub is_breach : Answer → Bool
is_breach (granted l) = false
is_breach (refused n) = false
is_breach (breached u l x) = true

abbrev pub breached_in : List Entry → Bool
breached_in [] = false
breached_in (e ∷ log) = is_breach e.answer || breached_in log

-- What the fault of an opening says: none exactly if both hold, and 41 exactly if some list is not empty.
pub record OpeningFault {Level Message Mailbox : Type 0} (P : Program Level Message) (K : MailboxKind Message Mailbox) (b : Mailbox) : Type 0 where
  pub no_fault : (opening_fault P K b ≡ None) ↔ NoFault P K b
  pub fault_41 : (opening_fault P K b ≡ Some 41) ↔ ((c : ℕ) × (c < mailbox_numbers) × ¬ (K.waiting b c ≡ []))

abbrev pub OpeningLaw : Type 0 → Type 0 → Type 0 → Type 0
OpeningLaw Level Message Mailbox = (P : Program Level Message) (K : MailboxKind Message Mailbox) (b : Mailbox) → OpeningFault P K b
