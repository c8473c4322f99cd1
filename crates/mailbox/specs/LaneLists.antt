-- What lanes hold: the list and the room of each object number.
use Rattle.std.specs.Prelude.{ℕ, ◌-◌, ◌/◌, cond, List, [], length, take, nat_lt, slice_index_or}
use Rattle.std.proofs.Common.{ap}
use Rattle.std.proofs.lemmas.Bool.{le-ltb}
use Rattle.model.specs.Mailbox.{MailboxKind}
use Rattle.mailbox.specs.Contract.{Bounded}
use Rattle.mailbox.specs.Ring.{no_messages, lane, turned, waits}
use Rattle.mailbox.specs.declared.ring.Ring.{Ring}
use Rattle.mailbox.specs.declared.lanes.Lanes.{Lanes}

-- The ring of channel c; past the last ring an empty one.
abbrev pub ring_of : List Ring → ℕ → Ring
ring_of rings c = slice_index_or rings c no_messages

module _ {T : Type 0} where
  abbrev pub lanes_waiting : Lanes T → ℕ → List T
  lanes_waiting b c = waits b.memory.now b.size (ring_of b.rings c) c

  -- A lane's room: its share of the memory, rounded down, less the length of its list.
  abbrev pub lanes_room : Lanes T → ℕ → ℕ
  lanes_room b c = cond (nat_lt c 32) (length b.memory.now / 32 - length (lanes_waiting b c)) 0

  abbrev pub lanes_kind : MailboxKind T (Lanes T)
  lanes_kind = record { waiting = lanes_waiting; room = lanes_room }

  pub lanes_bounded : Bounded lanes_kind
  lanes_bounded b c h = (
    ap (λ q. cond q (take (ring_of b.rings c).count (turned (ring_of b.rings c).head (lane b.memory.now b.size c))) []) (le-ltb c 32 h),
    ap (λ q. cond q (length b.memory.now / 32 - length (lanes_waiting b c)) 0) (le-ltb c 32 h),
  )
