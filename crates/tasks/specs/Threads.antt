-- The tasks of the records, and the threads that they start.
use Rattle.std.specs.Prelude.{ℕ, zero, suc, ◌+◌, ◌-◌, Bool, cond, ◌&&◌, List, [], ◌∷◌, length, take, drop, sum_by, count_by, nat_lt, slice_index_or}
use Rattle.std.specs.List.{flat_map, prefix_len}
use Rattle.records.specs.declared.record.Record.{Record}
use Rattle.records.specs.declared.rows.TaskRow.{TaskRow}
use Rattle.tasks.specs.Records.{is_count, is_operation, is_send, is_start, no_task}

-- the longest front of a list whose elements all pass
abbrev pub front : {A : Type 0} → (A → Bool) → List A → List A
front p xs = take (prefix_len p xs) xs

-- A task is its T line, then its Q lines, then its operations.

abbrev pub counts_of : List Record → TaskRow → List Record
counts_of rs t = front is_count (drop t.line rs)

-- the index of the record of its first operation
abbrev pub first_operation : List Record → TaskRow → ℕ
first_operation rs t = t.line + prefix_len is_count (drop t.line rs)

abbrev pub operations_of : List Record → TaskRow → List Record
operations_of rs t = front is_operation (drop (first_operation rs t) rs)

-- the operations of the task with this number
abbrev pub body_of : List Record → List TaskRow → ℕ → List Record
body_of rs tasks k = operations_of rs (slice_index_or tasks k no_task)

-- The threads of a task are one, and the threads of every task that its F operations name.
-- F names only tasks above, so the task number falls, and as many levels as it counts are enough.

-- an F operation of task k
abbrev pub starts : ℕ → Record → Bool
starts k r = is_start r && nat_lt r.first k

-- what the F operations of task k bring about, one after another, where each task brings about `each` of it
abbrev pub brought : (ℕ → List ℕ) → ℕ → List Record → List ℕ
brought each k ops = flat_map (λ r. cond (starts k r) (each r.first) []) ops

unfoldable pub crew_within : ℕ → (ℕ → List Record) → ℕ → List ℕ
crew_within zero body k = []
crew_within (suc levels) body k = k ∷ brought (crew_within levels body) k (body k)

-- The tasks of the threads of task k, in the order of their numbers: each thread is followed at once by all those it brings about.
unfoldable pub crew : (ℕ → List Record) → ℕ → List ℕ
crew body k = crew_within (suc k) body k

-- the main task is the last one
abbrev pub main_task : List TaskRow → ℕ
main_task tasks = length tasks - 1

-- The threads of the plan: the task of each, thread 0 being of the main task.
abbrev pub threads_in : List Record → List TaskRow → List ℕ
threads_in rs tasks = crew (body_of rs tasks) (main_task tasks)

-- the moves of a thread of task k, its operations and its closing; and its sends
abbrev pub moves_of : List Record → List TaskRow → ℕ → ℕ
moves_of rs tasks k = length (body_of rs tasks k) + 1

abbrev pub sends_of : List Record → List TaskRow → ℕ → ℕ
sends_of rs tasks k = count_by is_send (body_of rs tasks k)

-- the same of all threads
abbrev pub moves_in : List Record → List TaskRow → ℕ
moves_in rs tasks = sum_by (moves_of rs tasks) (threads_in rs tasks)

abbrev pub sends_in : List Record → List TaskRow → ℕ
sends_in rs tasks = sum_by (sends_of rs tasks) (threads_in rs tasks)
