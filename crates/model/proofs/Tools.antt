-- The rules of a move once more as relations, by cases on the operation: the form that the proofs work with. Assumes nothing.
use Rattle.std.proofs.Common.{◌≡◌, ℕ, zero, suc, ◌-◌, ◌<◌, ◌≤◌, Bool, false, T, ◌≢◌, ◌⊎◌, List, [], ◌∷◌, length, pos, ◌≤ℤ◌, ◌<ℤ◌}
use Rattle.model.specs.History.{Fresh}
use Rattle.model.specs.Machine.{asleep, running, Machine, Answer, granted, refused, breached, Halts, Performed, Closed}
use Rattle.model.specs.Mailbox.{MailboxKind}
use Rattle.model.specs.Program.{Op, send, receive, acquire, release, start, Account, Locks, Program, sends, Within, mailbox_numbers}
use Rattle.model.specs.Rules.{account_at, locks_at}

-- Number p of the list is o.
abbrev pub At : {A : Type 0} → List A → ℕ → A → Type 0
At [] p o = ⊥
At (x ∷ xs) zero o = x ≡ o
At (x ∷ xs) (suc p) o = At xs p o

-- Object x is owed or held.
abbrev pub Busy : Account → Locks → ℕ → Type 0
Busy a h x = (a x <ℤ pos 0) ⊎ T (h x)

module _ {Level Message : Type 0} (P : Program Level Message) where
  -- Nothing is owed or held.
  abbrev pub Settled : Account → Locks → Type 0
  Settled a h = (x : ℕ) → x < P.objects → ¬ (Busy a h x)

  module _ (below : Level → Level → Bool) where
    -- Every object owed or held is below object o.
    abbrev pub Under : ℕ → Account → Locks → Type 0
    Under o a h = (x : ℕ) → x < P.objects → Busy a h x → T (below (P.level x) (P.level o))

    -- The operation breaks no rule.
    abbrev pub Permitted : Op Message → Account → Locks → Type 0
    Permitted (send c m) a h = Unit {0}
    Permitted (receive c) a h = (pos 1 ≤ℤ a c) × Under c a h
    Permitted (acquire l) a h = Under l a h
    Permitted (release l) a h = T (h l)
    Permitted (start u) a h = Unit {0}

    -- Every operation and every closing breaks no rule where the walk meets it.
    pub record Walkable : Type 0 where
      pub operations : (t p : ℕ) (o : Op Message) → t < P.threads → At (P.ops t) p o → Permitted o (account_at P t p) (locks_at P t p)
      pub closings : (t : ℕ) → t < P.threads → Settled (account_at P t (length (P.ops t))) (locks_at P t (length (P.ops t)))

-- Which thread starts each thread, and where.
pub record Frame {Level Message : Type 0} (P : Program Level Message) : Type 0 where
  pub few_objects : P.objects ≤ mailbox_numbers
  pub main_opening : (x : ℕ) → P.opening 0 x ≡ pos 0
  pub waker : ℕ → ℕ
  pub waking : ℕ → ℕ
  pub woken : (t : ℕ) → 0 < t → t < P.threads → (waker t < t) × At (P.ops (waker t)) (waking t) (start t)
  pub once : (s p t : ℕ) → s < P.threads → At (P.ops s) p (start t) → (0 < t) × (t < P.threads) × (s ≡ waker t) × (p ≡ waking t)
  pub within : (s p : ℕ) (o : Op Message) → s < P.threads → At (P.ops s) p o → Within P o

-- What is known of a plan by task.
pub record Known {Level Message : Type 0} (B : Program Level Message) : Type 0 where
  pub has_task : 0 < B.threads
  pub falls : (i p k : ℕ) → i < B.threads → At (B.ops i) p (start k) → k < i
  pub named : (k : ℕ) → suc k < B.threads → (i : ℕ) × (p : ℕ) × (i < B.threads) × At (B.ops i) p (start k)
  pub main_opening : (x : ℕ) → B.opening (B.threads - 1) x ≡ pos 0
  pub within : (i p : ℕ) (o : Op Message) → i < B.threads → At (B.ops i) p o → Within B o
  pub few_objects : B.objects ≤ mailbox_numbers

-- A run that opened without a fault.
pub record Opened {Level Message Mailbox : Type 0} (P : Program Level Message) (K : MailboxKind Message Mailbox) (blank : Message) (w : Machine Message Mailbox) : Type 0 where
  pub main : Fresh blank running (w.thread 0)
  pub rest : (t : ℕ) → 0 < t → t < P.threads → Fresh blank asleep (w.thread t)
  pub going : w.halted ≡ false
  pub empty : (c : ℕ) → c < P.objects → length (K.waiting w.mailbox c) ≡ 0
  pub room : (c : ℕ) → c < P.objects → T (P.channel c) → sends P ≤ K.room w.mailbox c

module _ {Level Message Mailbox : Type 0} (below : Level → Level → Bool) (P : Program Level Message) (K : MailboxKind Message Mailbox) (w : Machine Message Mailbox) (t : ℕ) where
  -- Thread t is running in a run that is not halted.
  pub record Turn : Type 0 where
    pub exists : t < P.threads
    pub going : w.halted ≡ false
    pub awake : (w.thread t).state ≡ running

  -- Its next operation, or that the closing comes next.
  abbrev pub Next : Op Message → Type 0
  Next o = At (P.ops t) (w.thread t).place o

  abbrev pub Last : Type 0
  Last = length (P.ops t) ≤ (w.thread t).place

  abbrev pub PermittedHere : Op Message → Type 0
  PermittedHere o = Permitted P below o (w.thread t).account (w.thread t).locks

  abbrev pub SettledHere : Type 0
  SettledHere = Settled P (w.thread t).account (w.thread t).locks

  -- Nothing keeps the operation.
  abbrev pub Ready : Op Message → Type 0
  Ready (send c m) = 0 < K.room w.mailbox c
  Ready (receive c) = 0 < length (K.waiting w.mailbox c)
  Ready (acquire l) = (u : ℕ) → u < P.threads → u ≢ t → ¬ (T ((w.thread u).locks l))
  Ready (release l) = Unit {0}
  Ready (start u) = Unit {0}

  -- The operation waits: for a message, or for a lock that another thread holds.
  abbrev pub Blocked : Op Message → Type 0
  Blocked (send c m) = ⊥
  Blocked (receive c) = length (K.waiting w.mailbox c) ≡ 0
  Blocked (acquire l) = (u : ℕ) × (u < P.threads) × (u ≢ t) × T ((w.thread u).locks l)
  Blocked (release l) = ⊥
  Blocked (start u) = ⊥

  -- The next move would be granted.
  pub data Grantable : Type 0 where
    grants-op : (o : Op Message) → Next o → PermittedHere o → Ready o → Grantable
    grants-end : Last → SettledHere → Grantable

  -- The next move would halt the run.
  pub data Breach : Type 0 where
    breaks-op : (o : Op Message) → Next o → ¬ (PermittedHere o) → Breach
    breaks-end : Last → ¬ SettledHere → Breach

  -- The next move would be kept waiting.
  pub record Waiting : Type 0 where
    pub turn : Turn
    pub op : Op Message
    pub next : Next op
    pub legal : PermittedHere op
    pub blocked : Blocked op

  module _ (w' : Machine Message Mailbox) where
    -- A move that was granted.
    pub data Grant : Type 0 where
      operates : Turn → (o : Op Message) → Next o → PermittedHere o → Ready o → Performed P K w t w' o → Grant
      closes : Turn → Last → SettledHere → Closed P K w t w' → Grant

    -- What an attempted move with this answer was, and did.
    abbrev pub Seen : Answer → Type 0
    Seen (granted l) = Grant
    Seen (refused n) = w' ≡ w
    Seen (breached u l x) = Turn × Breach × Halts w w'
