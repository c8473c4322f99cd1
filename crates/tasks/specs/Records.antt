-- What the records so far say: the objects and tasks that they declare, and where the text stands.
use Rattle.std.specs.Prelude.{ℕ, ◌+◌, ◌-◌, Bool, true, cond, ◌&&◌, List, [], ◌∷◌, ◌++◌, length, pos, codes, ◌==◌, nat_lt, slice_index_or}
use Rattle.std.specs.List.{flat_map}
use Rattle.records.specs.declared.record.Record.{Record}
use Rattle.records.specs.declared.rows.Kind.{Kind}
use Rattle.records.specs.declared.rows.Kind.TheVariants.{Channel, Lock}
use Rattle.records.specs.declared.rows.ObjectRow.{ObjectRow}
use Rattle.records.specs.declared.rows.TaskRow.{TaskRow}
use Rattle.text.specs.Text.{byte, nowhere, one_of}

-- all zero
abbrev pub blank : Record
blank = record { letter = 0; first = 0; second = 0; number = pos 0; extra = pos 0; name = nowhere }

abbrev pub is_task : Record → Bool
is_task r = r.letter == (byte "T")

-- a Q line: what the task starts with
abbrev pub is_count : Record → Bool
is_count r = r.letter == (byte "Q")

abbrev pub is_send : Record → Bool
is_send r = r.letter == (byte "S")

abbrev pub is_start : Record → Bool
is_start r = r.letter == (byte "F")

-- a channel or a lock
abbrev pub is_object : Record → Bool
is_object r = one_of r.letter (codes "CK")

-- send, receive, acquire, release and start
abbrev pub is_operation : Record → Bool
is_operation r = one_of r.letter (codes "SRALF")

-- The objects, channels and locks, in the order of their declaration; their numbers count from 0.

abbrev pub kind_of : Record → Kind
kind_of r = cond (r.letter == (byte "C")) Channel Lock

abbrev pub object_row : Record → ObjectRow
object_row r = record { name = r.name; kind = kind_of r; number = r.number; extra = r.extra }

abbrev pub objects_in : Record → List ObjectRow
objects_in r = cond (is_object r) (object_row r ∷ []) []

abbrev pub objects_of : List Record → List ObjectRow
objects_of rs = flat_map objects_in rs

-- The tasks, with the line numbers of their T lines; the first record is that of line `line`.

abbrev pub task_row : ℕ → Record → TaskRow
task_row line r = record { name = r.name; line = line }

abbrev pub tasks_in : ℕ → Record → List TaskRow
tasks_in line r = cond (is_task r) (task_row line r ∷ []) []

abbrev pub tasks_from : ℕ → List Record → List TaskRow
tasks_from line [] = []
tasks_from line (r ∷ rs) = let after = tasks_from (line + 1) rs in cond (is_task r) (task_row line r ∷ after) after

abbrev pub tasks_of : List Record → List TaskRow
tasks_of rs = tasks_from 1 rs

-- a row of nothing
abbrev pub no_object : ObjectRow
no_object = record { name = nowhere; kind = Channel; number = pos 0; extra = pos 0 }

abbrev pub no_task : TaskRow
no_task = record { name = nowhere; line = 0 }

-- the operations at the end of the records: those of the task that stands open, `n` counted before
abbrev pub open_from : ℕ → List Record → ℕ
open_from n [] = n
open_from n (r ∷ rs) = open_from (cond (is_operation r) (n + 1) 0) rs

abbrev pub open_operations : List Record → ℕ
open_operations rs = open_from 0 rs

-- the letter of the last record, 0 where there is none
abbrev pub last_letter : List Record → ℕ
last_letter rs = (slice_index_or rs (length rs - 1) blank).letter

-- What records declare: the objects, the tasks, the operations of the task that stands open, and how many lines they are.
pub record View : Type 0 where
  pub objects : List ObjectRow
  pub tasks : List TaskRow
  pub operations : ℕ
  pub lines : ℕ

abbrev pub view_of : List Record → View
view_of rs = record { objects = objects_of rs; tasks = tasks_of rs; operations = open_operations rs; lines = length rs }

-- one record more
abbrev pub pushed : View → Record → View
pushed v r =
    record {
      objects = v.objects ++ objects_in r;
      tasks = v.tasks ++ tasks_in (v.lines + 1) r;
      operations = cond (is_operation r) (v.operations + 1) 0;
      lines = v.lines + 1;
    }

-- Whether there is room for one more record: 800 lines, 32 objects, 24 tasks, and 512 operations of a task.
abbrev pub room_in : View → Record → Bool
room_in v r =
    nat_lt v.lines 800
    && cond (is_object r) (nat_lt (length v.objects) 32)
    (cond (is_task r) (nat_lt (length v.tasks) 24)
    (cond (is_operation r) (nat_lt v.operations 512)
    true))

abbrev pub has_room : List Record → Record → Bool
has_room rs r = room_in (view_of rs) r
