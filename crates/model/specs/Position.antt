-- The position of a run, and the position that a program and the grants to its threads determine. Assumes nothing.
use Rattle.std.specs.Prelude.{◌≡◌, ℕ, ◌-◌, ◌<◌, Bool, false, cond, ◌||◌, length, pos, ◌==◌, nat_lt}
use Rattle.model.specs.Machine.{Machine}
use Rattle.model.specs.Mailbox.{MailboxKind}
use Rattle.model.specs.Program.{Op, send, receive, acquire, release, start, Account, Locks, Program, tally, sum, same}
use Rattle.model.specs.Rules.{account_at, locks_at}

-- Where a run stands: place, account and locks of each thread, and how many messages wait on each channel. No words, no
-- wait order and no mailbox enters.
pub record Position : Type 0 where
  pub place : ℕ → ℕ
  pub account : ℕ → Account
  pub locks : ℕ → Locks
  pub waiting : ℕ → ℕ

-- The position of a machine.
abbrev pub position : {Message Mailbox : Type 0} → MailboxKind Message Mailbox → Machine Message Mailbox → Position
position K m = record {
  place = λ t. (m.thread t).place;
  account = λ t. (m.thread t).account;
  locks = λ t. (m.thread t).locks;
  waiting = λ c. length (K.waiting m.mailbox c);
}

-- 1 for an operation that sends on channel x; that receives from it; that starts thread u; else 0.
abbrev pub sent_on : {Message : Type 0} → ℕ → Op Message → ℕ
sent_on x (send c m) = same x c
sent_on x (receive c) = 0
sent_on x (acquire l) = 0
sent_on x (release l) = 0
sent_on x (start v) = 0

abbrev pub received_on : {Message : Type 0} → ℕ → Op Message → ℕ
received_on x (send c m) = 0
received_on x (receive c) = same x c
received_on x (acquire l) = 0
received_on x (release l) = 0
received_on x (start v) = 0

abbrev pub started : {Message : Type 0} → ℕ → Op Message → ℕ
started u (send c m) = 0
started u (receive c) = 0
started u (acquire l) = 0
started u (release l) = 0
started u (start v) = same u v

module _ {Level Message : Type 0} (P : Program Level Message) where
  -- Two positions are the same, for the threads and the objects of the program.
  pub record SamePosition (a b : Position) : Type 0 where
    pub place : (t : ℕ) → t < P.threads → a.place t ≡ b.place t
    pub account : (t x : ℕ) → t < P.threads → a.account t x ≡ b.account t x
    pub locks : (t x : ℕ) → t < P.threads → a.locks t x ≡ b.locks t x
    pub waiting : (c : ℕ) → c < P.objects → a.waiting c ≡ b.waiting c

  -- Below, g says of each thread how many moves it was granted.
  -- The operations that all threads have passed, each counted by its weight.
  abbrev pub passed : (ℕ → ℕ) → (Op Message → ℕ) → ℕ
  passed g weight = sum (λ t. tally weight (P.ops t) (g t)) P.threads

  -- Thread t is awake: it is thread 0, or its start was passed.
  abbrev pub awake : (ℕ → ℕ) → ℕ → Bool
  awake g t = t == 0 || nat_lt 0 (passed g (started t))

  -- The position that the program and the grants determine: a thread that is awake is where its walk is after its
  -- grants, one that sleeps has nothing, and on each channel wait the sends that were passed less the receives.
  abbrev pub position_after : (ℕ → ℕ) → Position
  position_after g = record {
    place = g;
    account = λ t x. cond (awake g t) (account_at P t (g t) x) (pos 0);
    locks = λ t x. cond (awake g t) (locks_at P t (g t) x) false;
    waiting = λ c. passed g (sent_on c) - passed g (received_on c);
  }
