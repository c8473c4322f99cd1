-- The machine, a run with its mailbox, and one attempted move of it: the exact answer, and what the run and the mailbox
-- hold after it. Assumes nothing.
use Rattle.std.specs.Prelude.{◌≡◌, ℕ, suc, Bool, true, false, cond, not, ◌&&◌, ◌≢◌, length, Some, None, Option, ◌==◌, nat_lt}
use Rattle.model.specs.Mailbox.{MailboxKind, Put, Take}
use Rattle.model.specs.Program.{Op, send, receive, acquire, release, start, Account, Locks, Program, Step, operation, closing, step_at}
use Rattle.model.specs.Rules.{Offence, first, locked, paid, offence}

pub data State : Type 0 where
  asleep running home : State

pub record Thread (Message : Type 0) : Type 0 where
  pub state : State
  -- how many operations it has done; of a thread that is home, one more for its closing
  pub place : ℕ
  pub account : Account
  pub locks : Locks
  -- the last word received
  pub last : Message

-- A run and its mailbox.
pub record Machine (Message Mailbox : Type 0) : Type 0 where
  pub thread : ℕ → Thread Message
  pub halted : Bool
  pub mailbox : Mailbox

-- The exact answer to an attempted move.
pub data Answer : Type 0 where
  -- granted, with the line of the step that is made
  granted : ℕ → Answer
  -- turned away with a number from 31 to 36; of these 35 keeps the move waiting, the others deny it
  refused : ℕ → Answer
  -- an illegal step, which halts the run: the thread, the line, and the rule with its object
  breached : ℕ → ℕ → Offence → Answer

-- Something was found.
abbrev pub found : Option ℕ → Bool
found None = false
found (Some x) = true

module _ {Level Message Mailbox : Type 0} (below : Level → Level → Bool) (P : Program Level Message) (K : MailboxKind Message Mailbox) (m : Machine Message Mailbox) (t : ℕ) where
  -- The next step of thread t, and its line.
  abbrev pub next_step : Step Message
  next_step = step_at (P.ops t) (m.thread t).place

  abbrev pub next_line : ℕ
  next_line = P.line t (m.thread t).place

  -- Thread u is not t and holds lock l.
  abbrev pub holds_too : ℕ → ℕ → Bool
  holds_too l u = not (u == t) && (m.thread u).locks l

  -- The answer to a legal step. A send is refused with 36 where the channel has no room; a receive waits, 35, while the
  -- channel is empty; an acquire waits, 35, while another thread holds the lock.
  abbrev pub if_legal : Step Message → Answer
  if_legal (operation (send c x)) = cond (K.room m.mailbox c == 0) (refused 36) (granted next_line)
  if_legal (operation (receive c)) = cond (length (K.waiting m.mailbox c) == 0) (refused 35) (granted next_line)
  if_legal (operation (acquire l)) = cond (found (first (holds_too l) P.threads)) (refused 35) (granted next_line)
  if_legal (operation (release l)) = granted next_line
  if_legal (operation (start u)) = granted next_line
  if_legal closing = granted next_line

  -- The answer to a step, by the rule that it breaks.
  abbrev pub judged : Option Offence → Answer → Answer
  judged None a = a
  judged (Some x) a = breached t next_line x

  -- The answer in a run that is not halted, to a thread that runs, by its next step; by the state of the thread; by
  -- whether the run is halted; by whether there is such a thread.
  abbrev pub if_running : Step Message → Answer
  if_running s = judged (offence P below s (m.thread t).account (m.thread t).locks) (if_legal s)

  abbrev pub by_state : State → Answer
  by_state asleep = refused 33
  by_state home = refused 34
  by_state running = if_running next_step

  abbrev pub unless_halted : Bool → Answer
  unless_halted true = refused 32
  unless_halted false = by_state (m.thread t).state

  abbrev pub if_exists : Bool → Answer
  if_exists true = unless_halted m.halted
  if_exists false = refused 31

  -- The exact answer to a move of thread t: 31 no such thread, 32 run halted, 33 asleep, 34 home; then 21 to 26; then
  -- 35 waits and 36 put refused; else granted.
  abbrev pub answer : Answer
  answer = if_exists (nat_lt t P.threads)

-- An illegal step halts the run and changes nothing else: m becomes m'.
pub record Halts {Message Mailbox : Type 0} (m m' : Machine Message Mailbox) : Type 0 where
  pub halted : m'.halted ≡ true
  pub thread : (u : ℕ) → m'.thread u ≡ m.thread u
  pub mailbox : m'.mailbox ≡ m.mailbox

-- What a move of thread t makes of machine m, which becomes m'.
module _ {Level Message Mailbox : Type 0} (P : Program Level Message) (K : MailboxKind Message Mailbox) (m : Machine Message Mailbox) (t : ℕ) (m' : Machine Message Mailbox) where
  -- The mailbox, and the last word of the thread: a send puts its word, a receive takes one and keeps it, no other
  -- operation touches either.
  abbrev pub Delivered : Op Message → Type 0
  Delivered (send c x) = Put K m.mailbox c x m'.mailbox × ((m'.thread t).last ≡ (m.thread t).last)
  Delivered (receive c) = Take K m.mailbox c (m'.thread t).last m'.mailbox × Unit {0}
  Delivered (acquire l) = (m'.mailbox ≡ m.mailbox) × ((m'.thread t).last ≡ (m.thread t).last)
  Delivered (release l) = (m'.mailbox ≡ m.mailbox) × ((m'.thread t).last ≡ (m.thread t).last)
  Delivered (start u) = (m'.mailbox ≡ m.mailbox) × ((m'.thread t).last ≡ (m.thread t).last)

  -- Thread u wakes with its opening account; all else of it is as before.
  pub record Wakes (u : ℕ) : Type 0 where
    pub state : (m'.thread u).state ≡ running
    pub place : (m'.thread u).place ≡ (m.thread u).place
    pub account : (x : ℕ) → (m'.thread u).account x ≡ P.opening u x
    pub locks : (x : ℕ) → (m'.thread u).locks x ≡ (m.thread u).locks x
    pub last : (m'.thread u).last ≡ (m.thread u).last

  abbrev pub Woken : Op Message → Type 0
  Woken (send c x) = Unit {0}
  Woken (receive c) = Unit {0}
  Woken (acquire l) = Unit {0}
  Woken (release l) = Unit {0}
  Woken (start u) = Wakes u

  -- Thread u is not one that the operation starts.
  abbrev pub Apart : Op Message → ℕ → Type 0
  Apart (send c x) u = Unit {0}
  Apart (receive c) u = Unit {0}
  Apart (acquire l) u = Unit {0}
  Apart (release l) u = Unit {0}
  Apart (start v) u = u ≢ v

  -- What a granted operation changes: its own thread, the mailbox, the thread that it starts; and nothing else.
  pub record Performed (o : Op Message) : Type 0 where
    pub state : (m'.thread t).state ≡ running
    pub place : (m'.thread t).place ≡ suc (m.thread t).place
    pub account : (x : ℕ) → (m'.thread t).account x ≡ paid P o (m.thread t).account x
    pub locks : (x : ℕ) → (m'.thread t).locks x ≡ locked o (m.thread t).locks x
    pub delivered : Delivered o
    pub woken : Woken o
    pub others : (u : ℕ) → u ≢ t → Apart o u → m'.thread u ≡ m.thread u
    pub going : m'.halted ≡ m.halted

  -- What a granted closing changes: the thread is home, its place is one more than its operations, and nothing else changes.
  pub record Closed : Type 0 where
    pub state : (m'.thread t).state ≡ home
    pub place : (m'.thread t).place ≡ suc (length (P.ops t))
    pub account : (x : ℕ) → (m'.thread t).account x ≡ (m.thread t).account x
    pub locks : (x : ℕ) → (m'.thread t).locks x ≡ (m.thread t).locks x
    pub last : (m'.thread t).last ≡ (m.thread t).last
    pub others : (u : ℕ) → u ≢ t → m'.thread u ≡ m.thread u
    pub mailbox : m'.mailbox ≡ m.mailbox
    pub going : m'.halted ≡ m.halted

  -- What a granted step changes.
  abbrev pub Done : Step Message → Type 0
  Done (operation o) = Performed o
  Done closing = Closed

  -- What the run and the mailbox hold after the answer: 31 to 36 leave both as before.
  abbrev pub Leaves : Answer → Type 0
  Leaves (granted l) = Done (step_at (P.ops t) (m.thread t).place)
  Leaves (refused n) = m' ≡ m
  Leaves (breached u l x) = Halts m m'

-- One attempted move of thread t: on machine m it has the answer a, and leaves the machine m'.
pub record Move {Level Message Mailbox : Type 0} (below : Level → Level → Bool) (P : Program Level Message) (K : MailboxKind Message Mailbox) (m : Machine Message Mailbox) (t : ℕ) (a : Answer) (m' : Machine Message Mailbox) : Type 0 where
  pub exact : a ≡ answer below P K m t
  pub leaves : Leaves P K m t m' a
