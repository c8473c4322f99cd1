-- What a record that was read says, given the records of the lines before it.
use Rattle.std.specs.Prelude.{◌≡◌, ℕ, ◌+◌, ◌-◌, ◌<◌, Bool, true, false, List, length, get_or, take, drop, ℤ, pos, negsuc, ◌≤ℤ◌, codes, ◌==◌, ◌≢◌, slice_index_or}
use Rattle.std.specs.List.{prefix_len}
use Rattle.records.specs.declared.record.Record.{Record}
use Rattle.reader.specs.Lines.{last_task_line, may_follow, section_of}
use Rattle.reader.specs.Reading.{is_start_of}
use Rattle.tasks.specs.Records.{blank, is_count, is_object, is_send, is_start, is_task, last_letter, no_object, objects_of, tasks_of}
use Rattle.tasks.specs.Roomy.{Roomy}
use Rattle.text.specs.Text.{byte, one_of, some}
use Rattle.plan.specs.Program.{is_channel}

-- number x is an object of these records: a channel, or a lock
abbrev pub Uses : List Record → Bool → ℕ → Type 0
Uses rs channel x = (x < length (objects_of rs)) × (is_channel (get_or (objects_of rs) x no_object).kind ≡ channel)

-- a number from low to high
abbrev pub Between : ℤ → ℤ → ℤ → Type 0
Between low high z = (low ≤ℤ z) × (z ≤ℤ high)

-- a word is 0 to 65535
abbrev pub Word : ℤ → Type 0
Word = Between (pos 0) (pos 65535)

-- a W line
abbrev pub is_carry : Record → Bool
is_carry r = r.letter == (byte "W")

-- an R line
abbrev pub is_receive : Record → Bool
is_receive r = r.letter == (byte "R")

-- an acquire or a release
abbrev pub is_locking : Record → Bool
is_locking r = one_of r.letter (codes "AL")

pub record Good (rs : List Record) (r : Record) : Type 0 where
  -- the letter is known, and follows its section
  pub known : one_of r.letter (codes "PCKWTQSRALF") ≡ true
  pub follows : may_follow (section_of (last_letter rs)) r.letter ≡ true
  -- objects and tasks are numbered in the order of their lines
  pub objects : is_object r ≡ true → r.first ≡ length (objects_of rs)
  pub tasks : is_task r ≡ true → r.first ≡ length (tasks_of rs)
  -- a W line names two channels, and a count
  pub carries : is_carry r ≡ true → Uses rs true r.first × Uses rs true r.second × Between (pos 1) (pos 100) r.number
  -- a Q line names a channel, and a count other than zero
  pub counts : is_count r ≡ true → Uses rs true r.first × Between (negsuc 99) (pos 100) r.number × (r.number ≢ pos 0)
  -- a send names a channel and a word, a receive names a channel, an acquire and a release name a lock
  pub sends : is_send r ≡ true → Uses rs true r.first × Word r.number
  pub receives : is_receive r ≡ true → Uses rs true r.first
  pub locks : is_locking r ≡ true → Uses rs false r.first
  -- a start names a task above the one that stands open
  pub starts : is_start r ≡ true → r.first < length (tasks_of rs) - 1

-- What holds of the records of a text that was read; blank records may stand after them.
pub record Checked (rs : List Record) : Type 0 where
  pub good : (i : ℕ) → i < length rs → ((get_or rs i blank).letter ≢ 0) → Good (take i rs) (slice_index_or rs i blank)
  pub roomy : Roomy rs
  pub has_task : 0 < length (tasks_of rs)
  -- every task but the last is named by some F line, and the last has no Q line
  pub started : (k : ℕ) → k + 1 < length (tasks_of rs) → some (is_start_of k) rs ≡ true
  pub main_counts : prefix_len is_count (drop (last_task_line (tasks_of rs)) rs) ≡ 0
