-- What the records of a plan mean: a program by task, whose start operations name tasks.
use Rattle.std.specs.Prelude.{ℕ, ◌+◌, Bool, true, false, cond, List, map, length, ℤ, ◌==◌, nat_lt, slice_index_or}
use Rattle.index.specs.Amounts.{carried_by, counted_on, natural}
use Rattle.model.specs.Program.{Account, Op, Program, send, receive, acquire, release, start}
use Rattle.records.specs.declared.record.Record.{Record}
use Rattle.records.specs.declared.rows.Kind.{Kind}
use Rattle.records.specs.declared.rows.Kind.TheVariants.{Channel, Lock}
use Rattle.records.specs.declared.rows.ObjectRow.{ObjectRow}
use Rattle.records.specs.declared.rows.TaskRow.{TaskRow}
use Rattle.tasks.specs.Records.{no_object, no_task, objects_of, tasks_of}
use Rattle.tasks.specs.Threads.{body_of, counts_of, first_operation}
use Rattle.text.specs.Text.{byte}

-- the operation of a record: S, R, A, L, and else F
abbrev pub op_of : Record → Op ℕ
op_of r =
    cond (r.letter == (byte "S")) (send r.first (natural r.number))
    (cond (r.letter == (byte "R")) (receive r.first)
    (cond (r.letter == (byte "A")) (acquire r.first)
    (cond (r.letter == (byte "L")) (release r.first)
    (start r.first))))

abbrev pub is_channel : Kind → Bool
is_channel Channel = true
is_channel Lock = false

-- The line of operation p of a task, and past its operations that of its T line.
abbrev pub line_of : List Record → TaskRow → ℕ → ℕ → ℕ
line_of rs t size p = cond (nat_lt p size) (first_operation rs t + p + 1) t.line

module _ (rs : List Record) where
  abbrev pub object : ℕ → ObjectRow
  object x = slice_index_or (objects_of rs) x no_object

  abbrev pub task_at : ℕ → TaskRow
  task_at k = slice_index_or (tasks_of rs) k no_task

  -- the operations of task k, what it starts with, and the line of its step p
  abbrev pub task_ops : ℕ → List (Op ℕ)
  task_ops k = map op_of (body_of rs (tasks_of rs) k)

  abbrev pub task_opening : ℕ → Account
  task_opening k = counted_on (counts_of rs (task_at k))

  abbrev pub task_line : ℕ → ℕ → ℕ
  task_line k p = line_of rs (task_at k) (length (body_of rs (tasks_of rs) k)) p

-- The program by task of these records, under an order that makes levels from two numbers.
abbrev pub program_of : {Level : Type 0} → (ℤ → ℤ → Level) → List Record → Program Level ℕ
program_of made rs =
    record {
      threads = length (tasks_of rs);
      objects = length (objects_of rs);
      level = λ x. made (object rs x).number (object rs x).extra;
      channel = λ x. is_channel (object rs x).kind;
      carries = carried_by rs;
      ops = task_ops rs;
      opening = task_opening rs;
      line = task_line rs;
    }
