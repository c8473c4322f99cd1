use Rattle.std.proofs.Common.{◌<◌, length, take, refl, arith}
use Rattle.std.proofs.lemmas.List.{length-set, take_more_set}
use Rattle.std.proofs.lemmas.List.Elements.{All-same, All-push}
use Rattle.mailbox.proofs.Arrivals.{told, room_is, put_made}
use Rattle.mailbox.proofs.pool_mail.PoolLists.join.Goals as goal

pub invariant_of-self : goal.invariant_of-self
invariant_of-self g c =
    let s = c.args.self.now in
    let ch = c.args.channel in
    let e = told ch.number c.args.message in
    let room = room_is s ch.number ch.below in
    let free : s.count < length s.memory.now = omega (arith, room, c.requires) in
    let l = length-set s.memory.now s.count e in
    record {
      fits = omega (arith, l);
      filed = All-same (λ e. e.channel < 32) _ _ (take_more_set s.memory.now s.count e free) (All-push (λ e. e.channel < 32) (take s.count s.memory.now) e s.filed ch.below);
    }

pub returns-clause-put : goal.returns-clause-put
returns-clause-put g c =
    let s = c.args.self.now in
    let ch = c.args.channel in
    let room = room_is s ch.number ch.below in
    put_made s _ ch.number ch.below c.args.message (omega (arith, room, c.requires)) refl refl
