use Rattle.std.proofs.Common.{drop, arith}
use Rattle.std.proofs.lemmas.List.{length-take-le, length-append, length-drop}
use Rattle.mailbox.proofs.Arrivals.{place_within, gap_closed, take_made}
use Rattle.mailbox.proofs.pool.Pool.remove.Goals as goal

pub returns-clause-taken : goal.returns-clause-taken
returns-clause-taken g c =
    let s = c.args.self.now in
    let ch = c.args.channel in
    let mem = s.memory.now in
    let moved = c.copy_within.new.self in
    let d = c.index-self-place.result in
    let a = length-append moved (drop s.count mem) in
    let b = length-drop s.count mem in
    let l = length-take-le s.count mem s.fits in
    let n = s.fits in
    take_made s _ ch.number ch.below c.args.place d c.requires (gap_closed mem moved s.count c.args.place s.fits (place_within s ch.number c.args.place d c.requires) c.copy_within.ensures.after) (omega (arith, a, b, l, n, c.copy_within.ensures.len))
