-- What the index of a plan holds.
use Rattle.std.specs.Prelude.{◌≡◌, ℕ, ◌<◌, ◌≤◌, List, [], length, pos, slice_index_or}
use Rattle.records.specs.declared.record.Record.{Record}
use Rattle.records.specs.declared.rows.TaskRow.{TaskRow}
use Rattle.tasks.specs.Records.{no_task}
use Rattle.tasks.specs.Threads.{counts_of, first_operation, operations_of}
use Rattle.index.specs.declared.entry.TaskEntry.{TaskEntry}
use Rattle.index.specs.declared.index.Index.{Index}
use Rattle.index.specs.Amounts.{amount_at, amount_in, carried_by, counted_on}

-- The entry of a task: its T line, the index of the record of its first operation, how many operations it has, and
-- what it starts with on each channel.
pub record EntryOf (rs : List Record) (t : TaskRow) (e : TaskEntry) : Type 0 where
  pub line : e.line ≡ t.line
  pub first : e.first ≡ first_operation rs t
  pub operations : e.operations ≡ length (operations_of rs t)
  pub opening : (x : ℕ) → x < 32 → amount_in e.opening x ≡ counted_on (counts_of rs t) x

abbrev pub no_entry : TaskEntry
no_entry = record { line = 0; first = 0; operations = 0; opening = [] }

-- An entry of nothing: all of it is zero.
pub record EmptyEntry (e : TaskEntry) : Type 0 where
  pub line : e.line ≡ 0
  pub first : e.first ≡ 0
  pub operations : e.operations ≡ 0
  pub opening : (x : ℕ) → x < 32 → amount_in e.opening x ≡ pos 0

-- The index of these records and tasks: what each message carries, an entry for each task, of which there is room for
-- 24, and entries of nothing past the tasks.
pub record Indexed (rs : List Record) (tasks : List TaskRow) (i : Index) : Type 0 where
  pub carried : (c d : ℕ) → c < 32 → d < 32 → amount_at i.carried c d ≡ pos (carried_by rs c d)
  pub entries : (k : ℕ) → k < 24 → k < length tasks → EntryOf rs (slice_index_or tasks k no_task) (slice_index_or i.tasks k no_entry)
  pub past : (k : ℕ) → k < 24 → length tasks ≤ k → EmptyEntry (slice_index_or i.tasks k no_entry)
