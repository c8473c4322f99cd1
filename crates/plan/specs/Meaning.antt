-- What a plan that was read means, under a wait order that makes levels from two numbers: a sound program by task,
-- within the limits of a text, whose threads, moves and sends are those that the plan counts.
use Rattle.std.specs.Prelude.{◌≡◌, ℕ, ◌≤◌, List, ℤ, pos}
use Rattle.model.specs.Program.{Program, moves as moves_of, sends as sends_of}
use Rattle.model.specs.Threads.{Limited, Sound, by_thread, main, tree}
use Rattle.records.specs.declared.record.Record.{Record}
use Rattle.plan.specs.Good.{Checked}
use Rattle.plan.specs.Plans.{plan_moves, plan_sends, plan_threads, records_in}
use Rattle.plan.specs.Program.{program_of}

-- No message carries and no task starts with anything past the 32 objects that a plan may have.
pub record Narrow {Level Message : Type 0} (B : Program Level Message) : Type 0 where
  pub carried : (c x : ℕ) → 32 ≤ x → B.carries c x ≡ 0
  pub opened : (k x : ℕ) → 32 ≤ x → B.opening k x ≡ pos 0

pub record Meant {Level : Type 0} (made : ℤ → ℤ → Level) (sheet : List Record) : Type 0 where
  pub checked : Checked (records_in sheet)
  pub sound : Sound (program_of made (records_in sheet))
  pub limited : Limited (program_of made (records_in sheet))
  pub narrow : Narrow (program_of made (records_in sheet))
  pub threads : plan_threads sheet ≡ tree (program_of made (records_in sheet)) (main (program_of made (records_in sheet)))
  pub moves : plan_moves sheet ≡ moves_of (by_thread (program_of made (records_in sheet)))
  pub sends : plan_sends sheet ≡ sends_of (by_thread (program_of made (records_in sheet)))
