-- Each fault number met once, in a small program, with its exact answer. Assumes nothing.
use Rattle.std.specs.Prelude.{◌≡◌, ℕ, zero, suc, Bool, true, false, cond, ◌&&◌, List, [], ◌∷◌, pos, negsuc, Some, None, Option, ◌==◌, nat_lt}
use Rattle.model.specs.Example.{hoist, Lists, endless}
use Rattle.model.specs.History.{opening_fault}
use Rattle.model.specs.Machine.{State, asleep, running, home, Thread, Machine, granted, refused, breached, answer}
use Rattle.model.specs.Mailbox.{MailboxKind}
use Rattle.model.specs.Program.{Op, send, receive, acquire, release, Account, Program}
use Rattle.model.specs.Rules.{Offence, walk_offence}
use Rattle.model.specs.Threads.{by_thread}

-- No credits and no debts; a credit of channel 0 and a debt on channel 1; a debt on channel 1.
abbrev pub nothing : Account
nothing x = pos 0

abbrev pub credit_and_debt : Account
credit_and_debt zero = pos 1
credit_and_debt (suc zero) = negsuc 0
credit_and_debt (suc (suc x)) = pos 0

abbrev pub debt : Account
debt zero = pos 0
debt (suc zero) = negsuc 0
debt (suc (suc x)) = pos 0

-- One thread with these operations over two objects of the same level; each message carries `carried` credits of its own channel.
abbrev pub alone : ℕ → Account → List (Op ℕ) → Program ℕ ℕ
alone carried opening ops = record {
  threads = 1;
  objects = 2;
  level = λ x. 5;
  channel = λ x. true;
  carries = λ k c. carried;
  ops = λ t. ops;
  opening = λ t. opening;
  line = λ t p. p;
}

-- Rule n is broken by object x.
abbrev pub rule : ℕ → ℕ → Option Offence
rule n x = Some (record { number = n; object = x })

-- What the walk meets: each rule from 21 to 26, at the place of the last number.
pub record WalkExamples : Type 0 where
  -- a receive without a credit; after a send whose message takes the credit away again
  pub no_credit : walk_offence (alone 0 nothing (receive 0 ∷ [])) nat_lt 0 0 ≡ rule 21 0
  pub credit_gone : walk_offence (alone 1 nothing (send 0 7 ∷ receive 0 ∷ [])) nat_lt 0 1 ≡ rule 21 0
  -- a send brings its credit, and the receive is legal
  pub credit_made : walk_offence (alone 0 nothing (send 0 7 ∷ receive 0 ∷ [])) nat_lt 0 1 ≡ None
  -- a debt on an object that is not below
  pub receive_barred : walk_offence (alone 0 credit_and_debt (receive 0 ∷ [])) nat_lt 0 0 ≡ rule 22 1
  -- 21 is tried before 22
  pub no_credit_first : walk_offence (alone 0 debt (receive 0 ∷ [])) nat_lt 0 0 ≡ rule 21 0
  -- a lock that is held already; a held lock whose level cannot be compared
  pub held_already : walk_offence (alone 0 nothing (acquire 1 ∷ acquire 1 ∷ [])) nat_lt 0 1 ≡ rule 23 1
  pub incomparable : walk_offence (alone 0 nothing (acquire 0 ∷ acquire 1 ∷ [])) (λ a b. false) 0 1 ≡ rule 23 0
  pub comparable : walk_offence (alone 0 nothing (acquire 0 ∷ acquire 1 ∷ [])) (λ a b. true) 0 1 ≡ None
  pub not_held : walk_offence (alone 0 nothing (release 1 ∷ [])) nat_lt 0 0 ≡ rule 24 1
  -- closings
  pub owed : walk_offence (alone 0 debt []) nat_lt 0 0 ≡ rule 25 1
  pub held : walk_offence (alone 0 nothing (acquire 0 ∷ [])) nat_lt 0 1 ≡ rule 26 0
  -- 25 is tried before 26, though the object held is declared first
  pub owed_first : walk_offence (alone 0 debt (acquire 0 ∷ [])) nat_lt 0 1 ≡ rule 25 1
  pub settled : walk_offence (alone 0 nothing (acquire 0 ∷ release 0 ∷ [])) nat_lt 0 2 ≡ None

-- The main thread of the example plan in this state, at this place and with this account; thread 1 sleeps and holds lock 1 if `held`.
abbrev pub two_threads : State → ℕ → Account → Bool → ℕ → Thread ℕ
two_threads s p a held zero = record { state = s; place = p; account = a; locks = λ x. false; last = 0 }
two_threads s p a held (suc t) = record { state = asleep; place = 0; account = nothing; locks = λ x. (x == 1) && held; last = 0 }

abbrev pub machine : State → ℕ → Account → Bool → Lists → Machine ℕ Lists
machine s p a halted b = record { thread = two_threads s p a false; halted = halted; mailbox = b }

-- One message under number c, and none elsewhere.
abbrev pub one_under : ℕ → Lists
one_under c d = cond (c == d) (3 ∷ []) []

abbrev pub empty : Lists
empty c = []

-- A kind of mailbox that never has room.
abbrev pub full : MailboxKind ℕ Lists
full = record { waiting = λ b c. b c; room = λ b c. 0 }

abbrev pub credit_of_1 : Account
credit_of_1 zero = pos 0
credit_of_1 (suc zero) = pos 1
credit_of_1 (suc (suc x)) = pos 0

-- Two threads that only acquire lock 1, and nothing else.
abbrev pub lockers : Program ℕ ℕ
lockers = record { threads = 2; objects = 2; level = λ x. 5; channel = λ x. false; carries = λ k c. 0; ops = λ t. acquire 1 ∷ []; opening = λ t. nothing; line = λ t p. p }

abbrev pub locker : Bool → Machine ℕ Lists
locker held = record { thread = two_threads running 0 nothing held; halted = false; mailbox = empty }

-- What a move answers: 31 to 36, a breach and a grant, with the line of the step.
pub record MoveExamples : Type 0 where
  pub no_such_thread : answer nat_lt (by_thread hoist) endless (machine running 0 nothing false empty) 2 ≡ refused 31
  -- 31 is tried before 32
  pub no_such_thread_first : answer nat_lt (by_thread hoist) endless (machine running 0 nothing true empty) 2 ≡ refused 31
  pub run_halted : answer nat_lt (by_thread hoist) endless (machine running 0 nothing true empty) 0 ≡ refused 32
  pub is_asleep : answer nat_lt (by_thread hoist) endless (machine running 0 nothing false empty) 1 ≡ refused 33
  pub is_home : answer nat_lt (by_thread hoist) endless (machine home 4 nothing false empty) 0 ≡ refused 34
  pub starts : answer nat_lt (by_thread hoist) endless (machine running 0 nothing false empty) 0 ≡ granted 10
  pub sends : answer nat_lt (by_thread hoist) endless (machine running 1 nothing false empty) 0 ≡ granted 11
  pub no_room : answer nat_lt (by_thread hoist) full (machine running 1 nothing false empty) 0 ≡ refused 36
  pub receives : answer nat_lt (by_thread hoist) endless (machine running 2 credit_of_1 false (one_under 1)) 0 ≡ granted 12
  pub waits : answer nat_lt (by_thread hoist) endless (machine running 2 credit_of_1 false empty) 0 ≡ refused 35
  -- 21 is tried before 35
  pub breaches : answer nat_lt (by_thread hoist) endless (machine running 2 nothing false empty) 0 ≡ breached 0 12 (record { number = 21; object = 1 })
  pub closes : answer nat_lt (by_thread hoist) endless (machine running 3 nothing false empty) 0 ≡ granted 9
  pub lock_free : answer nat_lt lockers endless (locker false) 0 ≡ granted 0
  pub lock_held : answer nat_lt lockers endless (locker true) 0 ≡ refused 35

-- What an opening answers.
pub record OpeningExamples : Type 0 where
  pub opens : opening_fault (by_thread hoist) endless empty ≡ None
  -- a message under a number that is no object of the plan
  pub waiting_elsewhere : opening_fault (by_thread hoist) endless (one_under 31) ≡ Some 41
  pub no_room : opening_fault (by_thread hoist) full empty ≡ Some 42
  -- 41 is tried before 42
  pub waiting_first : opening_fault (by_thread hoist) full (one_under 0) ≡ Some 41

pub record Examples : Type 0 where
  pub walks : WalkExamples
  pub moves : MoveExamples
  pub openings : OpeningExamples
