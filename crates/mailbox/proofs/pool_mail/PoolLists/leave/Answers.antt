use Rattle.std.proofs.Common.{[], take, cond, ltb, refl, ap, ◌∙◌}
use Rattle.mailbox.proofs.Rooms.{cond_same}
use Rattle.mailbox.proofs.Arrivals.{none_chosen}
use Rattle.mailbox.proofs.pool_mail.PoolLists.leave.Goals as goal

pub returns-in_err-place-clause-answer : goal.returns-in_err-place-clause-answer
returns-in_err-place-clause-answer g c =
    let s = c.args.self.now in
    let ch = c.args.channel in
    rw c.from_residual.ensures (record { empty = ap (λ z. cond (ltb ch.number 32) z []) (none_chosen ch.number (take s.count s.memory.now) c.in_err-place.ensures) ∙ cond_same (ltb ch.number 32) []; same = refl })
