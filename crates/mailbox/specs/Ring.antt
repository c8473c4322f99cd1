-- Lanes of a memory, each read as a ring. Assumes nothing.
use Rattle.std.specs.Prelude.{ℕ, ◌+◌, ◌-◌, ◌*◌, ◌≤◌, cond, List, [], ◌++◌, take, drop, nat_lt}
use Rattle.mailbox.specs.declared.ring.Ring.{Ring}

-- The ring of an empty list.
abbrev pub no_messages : Ring
no_messages = record { head = 0; count = 0 }

-- The head and the count of a ring are within a lane of this size.
abbrev pub Within : ℕ → Ring → Type 0
Within size r = (r.head ≤ size) × (r.count ≤ size)

module _ {M : Type 0} where
  -- The lane of channel c in a memory of lanes of this size.
  abbrev pub lane : List M → ℕ → ℕ → List M
  lane memory size c = take size (drop (c * size) memory)

  -- The elements from head on, and then those before it.
  abbrev pub turned : ℕ → List M → List M
  turned head xs = drop head xs ++ take head xs

  -- The messages of channel c, of which the first stands at the head of its ring; none above number 31.
  abbrev pub waits : List M → ℕ → Ring → ℕ → List M
  waits memory size ring c = cond (nat_lt c 32) (take ring.count (turned ring.head (lane memory size c))) []

-- The place that stands so many steps after a head in a lane of this size: past its end a lane goes on at its start.
abbrev pub around : ℕ → ℕ → ℕ → ℕ
around size head steps = cond (nat_lt (head + steps) size) (head + steps) (head + steps - size)
