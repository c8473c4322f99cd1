use Rattle.std.proofs.Common.{◌/◌, length, arith}
use Rattle.std.proofs.lemmas.List.Elements.{All-same, All-replicate}
use Rattle.mailbox.specs.Ring.{no_messages, Within}
use Rattle.mailbox.proofs.Rings.{none_waits, room_at_first}
use Rattle.mailbox.proofs.lanes.Lanes.new.Goals as goal

pub invariant_of-result-clause-inside : goal.invariant_of-result-clause-inside
invariant_of-result-clause-inside g c =
    let size = length c.args.memory.now / 32 in
    All-same (Within size) _ _ c.empty.ensures (All-replicate (Within size) 32 no_messages (omega arith, omega arith))

pub returns-clause-lists : goal.returns-clause-lists
returns-clause-lists g c k = none_waits c.args.memory.now (length c.args.memory.now / 32) c.empty.result c.empty.ensures k

pub returns-clause-rooms : goal.returns-clause-rooms
returns-clause-rooms g c k low = room_at_first c.args.memory.now (length c.args.memory.now / 32) c.empty.result c.empty.ensures k low
