use Rattle.std.proofs.Common.{◌<◌, get_or, pos, ◌-ℤ◌, arith, w32, SFits, rules}
use Rattle.std.proofs.lemmas.Int.{ints}
use Rattle.index.specs.Amounts.{amount_in}
use Rattle.model.specs.Program.{same}
use Rattle.rules.proofs.Turns.{filled_more}
use Rattle.rules.proofs.counts.gained.Goals as goal

pub loop-i-preserved : goal.loop-i-preserved
loop-i-preserved c =
    let i = c.loop-i.i in
    let few : i < 32 = omega arith in
    let not-below = c.requires i few in
    let one = c.own.ensures in
    let fits : SFits w32 (get_or c.args.carried.now i (pos 0)) = search rules in
    let own : SFits w32 c.own.result = search rules in
    filled_more (λ x. pos (same x c.args.channel) -ℤ amount_in c.args.carried.now x) c.loop-i.amounts i _ c.loop-i.invariant.0 c.loop-i.invariant.1 few (omega (arith, ints))
