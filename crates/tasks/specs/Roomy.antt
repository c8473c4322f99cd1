-- Each record had room after those before it.
use Rattle.std.specs.Prelude.{◌≡◌, ℕ, ◌<◌, true, List, length, take, slice_index_or}
use Rattle.records.specs.declared.record.Record.{Record}
use Rattle.tasks.specs.Records.{blank, has_room}

abbrev pub Roomy : List Record → Type 0
Roomy rs = (i : ℕ) → i < length rs → has_room (take i rs) (slice_index_or rs i blank) ≡ true
