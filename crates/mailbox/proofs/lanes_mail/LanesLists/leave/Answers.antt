use Rattle.std.proofs.Common.{get_or, refl, ap, arith}
use Rattle.mailbox.proofs.Rings.{take_made}
use Rattle.mailbox.proofs.lanes_mail.LanesLists.leave.Goals as goal

pub returns-clause-answer : goal.returns-clause-answer
returns-clause-answer g c =
    let s = c.args.self.now in
    let ch = c.args.channel in
    let place = c.first_place-place in
    let i = c.index-i.result in
    let m = get_or s.memory.now i c.index-self-i.result in
    take_made s ch.number ch.below _ place.result i m place.ensures.inside c.index-i.ensures.place refl (omega (arith, c.if-ring-eq0.false)) place.ensures.place (ap (λ d. get_or s.memory.now i d) c.index-self-i.is) refl refl
