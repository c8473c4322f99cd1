-- A program of threads over channels and locks. An object is a channel or a lock. Threads, objects and the operations
-- of a thread go by number, from 0. Assumes nothing.
use Rattle.std.specs.Prelude.{◌≡◌, ℕ, zero, suc, ◌+◌, ◌<◌, ◌≤◌, Bool, cond, T, List, [], ◌∷◌, length, ℤ, pos, ◌+ℤ◌, ◌==◌}

-- Send a message on a channel, receive from a channel, acquire a lock, release a lock, start a thread.
pub data Op (Message : Type 0) : Type 0 where
  send : ℕ → Message → Op Message
  receive : ℕ → Op Message
  acquire : ℕ → Op Message
  release : ℕ → Op Message
  start : ℕ → Op Message

-- The account of a thread: for each channel a signed number, above zero credit (the right to receive), below zero debt.
abbrev pub Account : Type 0
Account = ℕ → ℤ

-- Which locks a thread holds.
abbrev pub Locks : Type 0
Locks = ℕ → Bool

pub record Program (Level Message : Type 0) : Type 0 where
  pub threads : ℕ
  pub objects : ℕ
  -- the wait level of an object
  pub level : ℕ → Level
  -- whether an object is a channel; the others are locks
  pub channel : ℕ → Bool
  -- how many credits of the second channel each message on the first carries
  pub carries : ℕ → ℕ → ℕ
  pub ops : ℕ → List (Op Message)
  -- the account with which a thread is woken
  pub opening : ℕ → Account
  -- the line of operation p of a thread; past its operations, the line of its closing
  pub line : ℕ → ℕ → ℕ

-- What a thread does next: an operation or, after the last one, its closing.
pub data Step (Message : Type 0) : Type 0 where
  operation : Op Message → Step Message
  closing : Step Message

-- Step number p of a thread with these operations.
abbrev pub step_at : {Message : Type 0} → List (Op Message) → ℕ → Step Message
step_at [] p = closing
step_at (x ∷ xs) zero = operation x
step_at (x ∷ xs) (suc p) = step_at xs p

-- What the first p operations of the list make of s, where each does `effect`.
abbrev pub after : {Message S : Type 0} → (Op Message → S → S) → List (Op Message) → ℕ → S → S
after effect xs zero s = s
after effect [] (suc p) s = s
after effect (x ∷ xs) (suc p) s = after effect xs p (effect x s)

-- The first p operations of the list, each counted by its weight.
abbrev pub tally : {Message : Type 0} → (Op Message → ℕ) → List (Op Message) → ℕ → ℕ
tally weight xs p = after (λ o k. k + weight o) xs p 0

-- The sum of f over the numbers below n, of naturals and of integers.
abbrev pub sum : (ℕ → ℕ) → ℕ → ℕ
sum f zero = 0
sum f (suc n) = sum f n + f n

abbrev pub sumℤ : (ℕ → ℤ) → ℕ → ℤ
sumℤ f zero = pos 0
sumℤ f (suc n) = sumℤ f n +ℤ f n

-- 1 where the two numbers are one, else 0.
unfoldable pub same : ℕ → ℕ → ℕ
same a b = cond (a == b) 1 0

-- 1 for a send, else 0.
abbrev pub send_weight : {Message : Type 0} → Op Message → ℕ
send_weight (send c m) = 1
send_weight (receive c) = 0
send_weight (acquire l) = 0
send_weight (release l) = 0
send_weight (start u) = 0

module _ {Level Message : Type 0} (P : Program Level Message) where
  -- The moves that the program counts: the operations of all threads, and one closing each.
  abbrev pub moves : ℕ
  moves = sum (λ t. suc (length (P.ops t))) P.threads

  -- The sends that the program counts, over all threads.
  abbrev pub sends : ℕ
  sends = sum (λ t. tally send_weight (P.ops t) (length (P.ops t))) P.threads

  -- Sends and receives name channels of the program, acquires and releases name objects of it.
  abbrev pub Within : Op Message → Type 0
  Within (send c m) = (c < P.objects) × T (P.channel c)
  Within (receive c) = (c < P.objects) × T (P.channel c)
  Within (acquire l) = l < P.objects
  Within (release l) = l < P.objects
  Within (start u) = Unit {0}

-- A mailbox has a list and a room for each object number below this.
abbrev pub mailbox_numbers : ℕ
mailbox_numbers = 32

-- A program of which a run can be made: there is a list in the mailbox for each object, thread 0 opens with nothing,
-- and each other thread is started by exactly one operation, of a thread with a smaller number.
pub record Formed {Level Message : Type 0} (P : Program Level Message) : Type 0 where
  pub few_objects : P.objects ≤ mailbox_numbers
  pub main_opening : (x : ℕ) → P.opening 0 x ≡ pos 0
  pub started : (u : ℕ) → 0 < u → u < P.threads → (s : ℕ) × (p : ℕ) × (s < u) × (step_at (P.ops s) p ≡ operation (start u))
  pub once : (s p s' p' u : ℕ) → s < P.threads → s' < P.threads → step_at (P.ops s) p ≡ operation (start u) → step_at (P.ops s') p' ≡ operation (start u) → (s ≡ s') × (p ≡ p')
  pub starts : (s p u : ℕ) → s < P.threads → step_at (P.ops s) p ≡ operation (start u) → (0 < u) × (u < P.threads)
  pub within : (s p : ℕ) (o : Op Message) → s < P.threads → step_at (P.ops s) p ≡ operation o → Within P o
