-- What reading a text gives: the records of its lines, or the first fault.
use Rattle.std.specs.Prelude.{◌≡◌, ℕ, ◌+◌, ◌-◌, Bool, cond, ◌&&◌, List, [], ◌∷◌, ◌++◌, length, take, drop, replicate, Ok, Err, Result, ◌==◌, nat_le}
use Rattle.std.specs.List.{prefix_len}
use Rattle.records.specs.declared.fault.Cause.{Cause}
use Rattle.records.specs.declared.fault.Cause.TheVariants.{Full}
use Rattle.records.specs.declared.fault.ReadFault.{ReadFault}
use Rattle.records.specs.declared.fault.ReadFault.TheVariants.{TextTooLong, SheetTooShort, BadLine, NoTask, NeverStarted, MainHasCounts, TooManyThreads, TooManySends}
use Rattle.text.specs.declared.place.Line.{Line}
use Rattle.records.specs.declared.record.Record.{Record}
use Rattle.records.specs.declared.rows.TaskRow.{TaskRow}
use Rattle.reader.specs.Lines.{and_then, before, last_task_line, read_line}
use Rattle.records.specs.Order.{Written}
use Rattle.tasks.specs.Records.{blank, has_room, is_count, is_start, tasks_of}
use Rattle.text.specs.Text.{lines, some}
use Rattle.tasks.specs.Threads.{sends_in, threads_in}

-- The lines, 3 to 10

-- a record has room after those before it, or the cause is that there is none
abbrev pub roomed : List Record → Result Record Cause → Result Record Cause
roomed rs (Ok r) = cond (has_room rs r) (Ok r) (Err Full)
roomed rs (Err cause) = Err cause

-- a cause is the fault of the line with this number
abbrev pub at_line : {A : Type 0} → ℕ → Result A Cause → Result A ReadFault
at_line n (Ok x) = Ok x
at_line n (Err cause) = Err (BadLine cause n)

-- a record for which there is no room is the last fault of its line; a fault has the line's number
abbrev pub placed : List Record → Result Record Cause → Result Record ReadFault
placed rs (Ok r) = cond (has_room rs r) (Ok r) (Err (BadLine Full (length rs + 1)))
placed rs (Err cause) = Err (BadLine cause (length rs + 1))

-- one line more; shut, so that the proofs of the loops do not see into a line
unfoldable pub read_next : Written → List ℕ → List Record → Line → Result Record ReadFault
read_next o text rs l = placed rs (read_line o (before text rs) l)

-- the records so far are all that is kept from line to line
abbrev pub read_rest : Written → List ℕ → List Record → List Line → Result (List Record) ReadFault
read_rest o text rs [] = Ok rs
read_rest o text rs (l ∷ ls) = and_then (read_next o text rs l) (λ r. read_rest o text (rs ++ r ∷ []) ls)

-- After all lines, 11 to 15

abbrev pub some_task : List TaskRow → Result (Unit {0}) ReadFault
some_task tasks = cond (length tasks == 0) (Err NoTask) (Ok tt)

-- an F line that names task k
abbrev pub is_start_of : ℕ → Record → Bool
is_start_of k r = is_start r && r.first == k

-- the tasks, counted from k, are each named by some F line
abbrev pub started_from : List Record → ℕ → List TaskRow → Result (Unit {0}) ReadFault
started_from rs k [] = Ok tt
started_from rs k (t ∷ ts) = cond (some (is_start_of k) rs) (started_from rs (k + 1) ts) (Err (NeverStarted t.line))

-- all tasks but the last
abbrev pub others_started : List Record → List TaskRow → Result (Unit {0}) ReadFault
others_started rs tasks = started_from rs 0 (take (length tasks - 1) tasks)

abbrev pub main_without_counts : List Record → List TaskRow → Result (Unit {0}) ReadFault
main_without_counts rs tasks =
    cond (prefix_len is_count (drop (last_task_line tasks) rs) == 0) (Ok tt) (Err (MainHasCounts (last_task_line tasks)))

abbrev pub few_threads : List Record → List TaskRow → Result (Unit {0}) ReadFault
few_threads rs tasks = cond (nat_le (length (threads_in rs tasks)) 64) (Ok tt) (Err TooManyThreads)

abbrev pub few_sends : List Record → List TaskRow → Result (Unit {0}) ReadFault
few_sends rs tasks = cond (nat_le (sends_in rs tasks) 1000) (Ok tt) (Err TooManySends)

abbrev pub few_threads_and_sends : List Record → List TaskRow → Result (Unit {0}) ReadFault
few_threads_and_sends rs tasks = and_then (few_threads rs tasks) (λ _. few_sends rs tasks)

abbrev pub finished : List Record → List TaskRow → Result (Unit {0}) ReadFault
finished rs tasks =
    and_then (some_task tasks) (λ _.
    and_then (others_started rs tasks) (λ _.
    and_then (main_without_counts rs tasks) (λ _.
    few_threads_and_sends rs tasks)))

-- The whole text; shut at the end of the lines, so that the proofs of the loops do not see into what comes after them.
unfoldable pub ended : List Record → Result (List Record) ReadFault
ended rs = and_then (finished rs (tasks_of rs)) (λ _. Ok rs)

abbrev pub read_lines : Written → List ℕ → Result (List Record) ReadFault
read_lines o text = and_then (read_rest o text [] (lines text)) ended

-- reading a text into a sheet that has room for so many records: 1, then 2, then the lines
abbrev pub reading : Written → List ℕ → ℕ → Result (List Record) ReadFault
reading o text room = cond (nat_le (length text) 32768) (cond (nat_le 800 room) (read_lines o text) (Err SheetTooShort)) (Err TextTooLong)

-- the answer
abbrev pub verdict : Result (List Record) ReadFault → Result (Unit {0}) ReadFault
verdict (Ok rs) = Ok tt
verdict (Err f) = Err f

-- the sheet after reading: the records, then blank ones; after a fault all blank
abbrev pub sheet_of : ℕ → List Record → List Record
sheet_of room rs = rs ++ replicate (room - length rs) blank

abbrev pub sheet_after : ℕ → Result (List Record) ReadFault → List Record
sheet_after room (Ok rs) = sheet_of room rs
sheet_after room (Err f) = replicate room blank

-- reading gave no fault and exactly this sheet
abbrev pub Shows : Result (List Record) ReadFault → List Record → Type 0
Shows (Ok rs) sheet = sheet ≡ sheet_of (length sheet) rs
Shows (Err f) sheet = ⊥
