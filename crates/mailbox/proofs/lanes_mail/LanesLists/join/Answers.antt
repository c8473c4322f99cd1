use Rattle.std.proofs.Common.{◌+◌, refl, ◌∙◌, arith}
use Rattle.std.proofs.lemmas.List.{length-set}
use Rattle.std.proofs.lemmas.List.Elements.{All-set}
use Rattle.mailbox.specs.LaneLists.{ring_of}
use Rattle.mailbox.specs.Ring.{Within}
use Rattle.mailbox.proofs.Rings.{within_lane, room_is, put_made}
use Rattle.mailbox.proofs.lanes_mail.LanesLists.join.Goals as goal

pub invariant_of-self-clause-each : goal.invariant_of-self-clause-each
invariant_of-self-clause-each g c =
    let s = c.args.self.now in
    let r = ring_of s.rings c.args.channel.number in
    length-set s.rings c.args.channel.number (record { head = r.head; count = r.count + 1 }) ∙ s.each

pub invariant_of-self-clause-inside : goal.invariant_of-self-clause-inside
invariant_of-self-clause-inside g c =
    let s = c.args.self.now in
    let ch = c.args.channel in
    let room = room_is s ch.number ch.below in
    All-set (Within s.size) s.rings ch.number _ ((within_lane s ch.number ch.below).0, omega (arith, room, c.requires)) s.inside

pub returns-clause-put : goal.returns-clause-put
returns-clause-put g c =
    let s = c.args.self.now in
    let ch = c.args.channel in
    let place = c.next_place-place in
    let room = room_is s ch.number ch.below in
    put_made s ch.number ch.below _ place.result c.index-i.result c.args.message place.ensures.inside c.index-i.ensures.place refl (omega (arith, room, c.requires)) place.ensures.place refl refl
