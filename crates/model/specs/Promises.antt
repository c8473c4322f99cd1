-- What is promised of every history, for every wait order, every kind of mailbox and every program. Assumes nothing.
use Rattle.std.specs.Prelude.{◌≡◌, ℕ, ◌*◌, ◌<◌, Bool, false, T, ◌↔◌, List, length, pos, ◌+ℤ◌}
use Rattle.model.specs.History.{Entry, Attempts, History, grants, grants_to, breached_in}
use Rattle.model.specs.Machine.{home, Machine, Answer, granted, refused, breached, answer}
use Rattle.model.specs.Mailbox.{MailboxKind, Put, Take}
use Rattle.model.specs.Position.{position, SamePosition, position_after}
use Rattle.model.specs.Program.{Program, sum, sumℤ, moves, Formed}
use Rattle.model.specs.Rules.{Irreflexive, Transitive, Cleared}

-- Every thread of the program is home.
abbrev pub AllHome : {Level Message Mailbox : Type 0} → Program Level Message → Machine Message Mailbox → Type 0
AllHome P m = (t : ℕ) → t < P.threads → (m.thread t).state ≡ home

-- The move is granted, or it halts the run by a breach.
abbrev pub GrantedOrBreached : Answer → Type 0
GrantedOrBreached (granted l) = Unit {0}
GrantedOrBreached (refused n) = ⊥
GrantedOrBreached (breached t l x) = Unit {0}

-- What is promised of the machine m that a history with this log led to; `cleared` says that the program is cleared.
pub record Promises {Level Message Mailbox : Type 0} (below : Level → Level → Bool) (P : Program Level Message) (K : MailboxKind Message Mailbox) (cleared : Type 0) (m : Machine Message Mailbox) (log : List Entry) : Type 0 where
  -- a run of a cleared program never halts
  pub cleared_never_halts : cleared → m.halted ≡ false
  -- the run is halted exactly if some move was answered by a breach
  pub halted_by_breach : m.halted ≡ breached_in log
  -- until all threads are home or the run is halted, the next move of some thread would be granted or would halt the run; cleared or not
  pub never_stuck : m.halted ≡ false → ¬ (AllHome P m) → (t : ℕ) × (t < P.threads) × GrantedOrBreached (answer below P K m t)
  -- all threads are home exactly if the program is cleared and as many moves were granted as it counts
  pub home_exactly : AllHome P m ↔ (cleared × (grants log ≡ moves P))
  -- on every channel the accounts of all threads and, for each carrier, its count times the messages waiting on it, add
  -- up to the messages waiting on the channel
  pub credits_balance : (c : ℕ) → c < P.objects →
      sumℤ (λ t. (m.thread t).account c) P.threads +ℤ pos (sum (λ k. P.carries k c * length (K.waiting m.mailbox k)) P.objects) ≡ pos (length (K.waiting m.mailbox c))
  -- no two threads hold one lock
  pub locks_exclusive : (t u x : ℕ) → t < P.threads → u < P.threads → T ((m.thread t).locks x) → T ((m.thread u).locks x) → t ≡ u
  -- the place of a thread is the number of its granted moves
  pub place_counts_grants : (t : ℕ) → t < P.threads → (m.thread t).place ≡ grants_to t log
  -- the position is the one that the program and the grants to each thread determine
  pub position_determined : SamePosition P (position K m) (position_after P (λ t. grants_to t log))

-- The promises hold after every history of every program, under every wait order and with every kind of mailbox.
abbrev pub RunPromises : Type 0 → Type 0 → Type 0 → Type 0
RunPromises Level Message Mailbox =
    (below : Level → Level → Bool) → Irreflexive below → Transitive below → (K : MailboxKind Message Mailbox) (P : Program Level Message) → Formed P →
    (m : Machine Message Mailbox) (log : List Entry) → History below P K m log → Promises below P K (Cleared P below) m log

-- Two histories of one program that granted each thread equally many moves are at the same position, whichever kind of
-- mailbox each used and whichever wait order each was judged by.
abbrev pub OrderDoesNotMatter : Type 0 → Type 0 → Type 0 → Type 0 → Type 0
OrderDoesNotMatter Level Message Mailbox Mailbox' =
    (below below' : Level → Level → Bool) (K : MailboxKind Message Mailbox) (K' : MailboxKind Message Mailbox') (P : Program Level Message) → Formed P →
    (m : Machine Message Mailbox) (log : List Entry) → History below P K m log →
    (m' : Machine Message Mailbox') (log' : List Entry) → History below' P K' m' log' →
    ((t : ℕ) → t < P.threads → grants_to t log ≡ grants_to t log') →
    SamePosition P (position K m) (position K' m')

-- A kind of mailbox whose puts and takes can be made whenever the rules ask for one.
pub record Serves {Message Mailbox : Type 0} (K : MailboxKind Message Mailbox) : Type 0 where
  pub puts : (b : Mailbox) (c : ℕ) (x : Message) → 0 < K.room b c → (b' : Mailbox) × Put K b c x b'
  pub takes : (b : Mailbox) (c : ℕ) → 0 < length (K.waiting b c) → (x : Message) × (b' : Mailbox) × Take K b c x b'

-- From every point of a history of a cleared program, further moves bring all threads home.
abbrev pub Completes : Type 0 → Type 0 → Type 0 → Type 0
Completes Level Message Mailbox =
    (below : Level → Level → Bool) → Irreflexive below → Transitive below → (K : MailboxKind Message Mailbox) → Serves K → (P : Program Level Message) → Formed P → Cleared P below →
    (m : Machine Message Mailbox) (log : List Entry) → History below P K m log →
    (m' : Machine Message Mailbox) × (further : List Entry) × Attempts below P K m m' further × AllHome P m'

-- A program cleared under one wait order is cleared under every order in which at least the same levels are below one another.
abbrev pub ClearedMore : Type 0 → Type 0 → Type 0
ClearedMore Level Message =
    (below below' : Level → Level → Bool) → ((a b : Level) → T (below a b) → T (below' a b)) → (P : Program Level Message) → Cleared P below → Cleared P below'
