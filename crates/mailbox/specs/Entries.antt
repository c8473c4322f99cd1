-- Entries in the order of their arrival, each with its channel. Assumes nothing.
use Rattle.std.specs.Prelude.{ℕ, cond, List, [], filter, map, nat_lt, ◌==◌}
use Rattle.mailbox.specs.declared.entry.Entry.{Entry}

module _ {T : Type 0} where
  -- The messages of channel c.
  abbrev pub chosen : ℕ → List (Entry T) → List T
  chosen c es = map (λ e. e.message) (filter (λ e. e.channel == c) es)

  -- The same, and none above number 31.
  abbrev pub listed : List (Entry T) → ℕ → List T
  listed es c = cond (nat_lt c 32) (chosen c es) []
