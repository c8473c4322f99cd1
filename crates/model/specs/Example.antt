-- Two plans: one with a history that ends with every thread home, and one with many threads, written out. Assumes nothing.
use Rattle.std.specs.Prelude.{◌≡◌, ℕ, zero, suc, true, List, [], ◌∷◌, ◌++◌, pos, negsuc, nat_lt}
use Rattle.model.specs.History.{Entry, History}
use Rattle.model.specs.Machine.{Machine, granted}
use Rattle.model.specs.Mailbox.{MailboxKind}
use Rattle.model.specs.Program.{Op, send, receive, start, Account, Program, moves, sends}
use Rattle.model.specs.Promises.{AllHome, Serves}
use Rattle.model.specs.Rules.{Cleared}
use Rattle.model.specs.Threads.{tree, weight, main, by_thread, Sound}

-- Two channels: the first has level 20, the second level 10.
abbrev pub levels : ℕ → ℕ
levels zero = 20
levels (suc c) = 10

-- Task 0 receives on channel 0 and answers on channel 1; the main task starts it, sends to it and receives its answer.
abbrev pub bodies : ℕ → List (Op ℕ)
bodies zero = receive 0 ∷ send 1 0 ∷ []
bodies (suc zero) = start 0 ∷ send 0 7 ∷ receive 1 ∷ []
bodies (suc (suc i)) = []

-- Task 0 starts with a credit of channel 0 and a debt of channel 1, the main task with nothing.
abbrev pub counts : ℕ → Account
counts zero zero = pos 1
counts zero (suc zero) = negsuc 0
counts zero (suc (suc c)) = pos 0
counts (suc i) c = pos 0

-- Their lines in the text of the plan; the closing of a task has the line where the task begins.
abbrev pub lines : ℕ → ℕ → ℕ
lines zero zero = 7
lines zero (suc zero) = 8
lines zero (suc (suc p)) = 4
lines (suc i) zero = 10
lines (suc i) (suc zero) = 11
lines (suc i) (suc (suc zero)) = 12
lines (suc i) (suc (suc (suc p))) = 9

abbrev pub hoist : Program ℕ ℕ
hoist = record { threads = 2; objects = 2; level = levels; channel = λ x. true; carries = λ k c. 0; ops = bodies; opening = counts; line = lines }

-- A kind of mailbox that always has room for a thousand.
abbrev pub Lists : Type 0
Lists = ℕ → List ℕ

abbrev pub endless : MailboxKind ℕ Lists
endless = record { waiting = λ b c. b c; room = λ b c. 1000 }

-- A granted move of thread t with this line.
abbrev pub went : ℕ → ℕ → Entry
went t line = record { thread = t; answer = granted line }

-- The log of a history that offers each thread moves in turn; the latest move comes first.
abbrev pub home_log : List Entry
home_log = went 0 9 ∷ went 1 4 ∷ went 0 12 ∷ went 1 8 ∷ went 1 7 ∷ went 0 11 ∷ went 0 10 ∷ []

-- The plan is sound and cleared, it counts 7 moves and 2 sends, and a history with this log brings both threads home.
pub record HoistRuns : Type 0 where
  pub sound : Sound hoist
  pub cleared : Cleared hoist nat_lt
  pub seven_moves : moves (by_thread hoist) ≡ 7
  pub two_sends : sends (by_thread hoist) ≡ 2
  pub machine : Machine ℕ Lists
  pub history : History nat_lt (by_thread hoist) endless machine home_log
  pub all_home : AllHome (by_thread hoist) machine
  -- its kind of mailbox can do every put and take that the rules ask for
  pub serves : Serves endless

-- Four tasks: task 1 starts 0 twice; task 2 starts 0 and 1; the main task starts 1, 2 and 0.
abbrev pub deep_bodies : ℕ → List (Op ℕ)
deep_bodies zero = send 0 7 ∷ receive 0 ∷ []
deep_bodies (suc zero) = start 0 ∷ send 0 1 ∷ receive 0 ∷ start 0 ∷ []
deep_bodies (suc (suc zero)) = start 0 ∷ start 1 ∷ []
deep_bodies (suc (suc (suc zero))) = start 1 ∷ send 0 2 ∷ start 2 ∷ receive 0 ∷ start 0 ∷ []
deep_bodies (suc (suc (suc (suc i)))) = []

abbrev pub deep : Program ℕ ℕ
deep = record { threads = 4; objects = 1; level = λ x. 5; channel = λ x. true; carries = λ k c. 0; ops = deep_bodies; opening = λ i x. pos 0; line = λ i p. p }

-- the operations of threads 0 to n - 1
abbrev pub listed : {Level Message : Type 0} → Program Level Message → ℕ → List (List (Op Message))
listed P zero = []
listed P (suc n) = listed P n ++ P.ops n ∷ []

-- Its ten threads, by task and by operations, and the counts of the plan.
pub record DeepThreads : Type 0 where
  pub sound : Sound deep
  pub tasks : tree deep (main deep) ≡ 3 ∷ 1 ∷ 0 ∷ 0 ∷ 2 ∷ 0 ∷ 1 ∷ 0 ∷ 0 ∷ 0 ∷ []
  pub ops : listed (by_thread deep) 10 ≡
      (start 1 ∷ send 0 2 ∷ start 4 ∷ receive 0 ∷ start 9 ∷ [])
      ∷ (start 2 ∷ send 0 1 ∷ receive 0 ∷ start 3 ∷ [])
      ∷ (send 0 7 ∷ receive 0 ∷ [])
      ∷ (send 0 7 ∷ receive 0 ∷ [])
      ∷ (start 5 ∷ start 6 ∷ [])
      ∷ (send 0 7 ∷ receive 0 ∷ [])
      ∷ (start 7 ∷ send 0 1 ∷ receive 0 ∷ start 8 ∷ [])
      ∷ (send 0 7 ∷ receive 0 ∷ [])
      ∷ (send 0 7 ∷ receive 0 ∷ [])
      ∷ (send 0 7 ∷ receive 0 ∷ [])
      ∷ []
  pub thread_count : weight deep (λ k. 1) (main deep) ≡ 10
  pub move_count : moves (by_thread deep) ≡ 37
  pub send_count : sends (by_thread deep) ≡ 9
