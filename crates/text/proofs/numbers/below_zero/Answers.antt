use Rattle.std.proofs.Common.{rules, ◌≡◌, pos, ◌-ℤ◌, neg_ℤ, sym, arith, w64, to_z, of_z}
use Rattle.std.proofs.lemmas.Int.{ints}
use Rattle.text.specs.Text.{natural}
use Rattle.text.proofs.Ranges.{within-below, capped_small}
use Rattle.text.proofs.numbers.below_zero.Goals as goal

pub returns-in-Some : goal.returns-in-Some
returns-in-Some c =
    let n = c.in-Some.n in
    let small = capped_small (natural c.args.digits.now) n (sym c.in-Some.ensures) in
    let same = within-below c.args.range.low c.args.range.high (natural c.args.digits.now) n (search rules) c.if-n-gt0.true (sym c.in-Some.ensures) in
    let z : to_z w64 (of_z w64 (pos 0 -ℤ to_z w64 n)) ≡ neg_ℤ (pos n) = omega (arith, ints, small) in
    cc
