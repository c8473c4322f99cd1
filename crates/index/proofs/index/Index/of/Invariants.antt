use Rattle.std.proofs.Common.{◌≡◌, ℕ, ◌<◌, ◌≤◌, length, get_or}
use Rattle.tasks.specs.Records.{no_task}
use Rattle.index.specs.Entries.{EmptyEntry, EntryOf, no_entry}
use Rattle.index.proofs.index.Index.of.Given as goal

-- the entries so far: those of the tasks, and past the tasks nothing
abbrev pub invariant-loop-k : goal.invariant-loop-k
invariant-loop-k l =
    let rs = l.tasks.records.now in
    let rows = l.tasks.rows.now in
    (length l.entry-items ≡ 24)
    × ((k : ℕ) → k < l.k → k < length rows → EntryOf rs (get_or rows k no_task) (get_or l.entry-items k no_entry))
    × ((k : ℕ) → k < l.k → length rows ≤ k → EmptyEntry (get_or l.entry-items k no_entry))
