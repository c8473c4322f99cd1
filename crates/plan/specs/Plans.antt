-- A text and a sheet that make a plan, and what the plan counts.
use Rattle.std.specs.Prelude.{ℕ, ◌≤◌, List, length, take}
use Rattle.records.specs.declared.record.Record.{Record}
use Rattle.records.specs.Order.{Written}
use Rattle.tasks.specs.Records.{tasks_of}
use Rattle.tasks.specs.Threads.{moves_in, sends_in, threads_in}
use Rattle.reader.specs.Reading.{Shows, reading}
use Rattle.text.specs.Text.{bytes_at}
use Rattle.plan.specs.Program.{object}

-- under some written order reading the text gives no fault and exactly this sheet
abbrev pub WasRead : List ℕ → List Record → Type 0
WasRead text sheet = ∥ ((o : Written) × (1 ≤ o.fields) × (o.fields ≤ 2) × Shows (reading o text (length sheet)) sheet) ∥₁

-- The records of the lines stand in the first 800 of the sheet, then come blank ones; what comes after the 800 is blank.
abbrev pub records_in : List Record → List Record
records_in sheet = take 800 sheet

-- the task of each thread of the plan
abbrev pub plan_threads : List Record → List ℕ
plan_threads sheet = threads_in (records_in sheet) (tasks_of (records_in sheet))

-- the moves and the sends of all its threads
abbrev pub plan_moves : List Record → ℕ
plan_moves sheet = moves_in (records_in sheet) (tasks_of (records_in sheet))

abbrev pub plan_sends : List Record → ℕ
plan_sends sheet = sends_in (records_in sheet) (tasks_of (records_in sheet))

-- the bytes of the name of an object
abbrev pub name_of : List ℕ → List Record → ℕ → List ℕ
name_of text rs x = bytes_at text (object rs x).name
