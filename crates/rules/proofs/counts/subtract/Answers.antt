use Rattle.std.proofs.Common.{◌-ℤ◌, arith, w32, rules}
use Rattle.std.specs.Int.{int_wrap}
use Rattle.std.proofs.lemmas.Int.{wraps}
use Rattle.index.specs.Amounts.{amount_in}
use Rattle.rules.proofs.Turns.{changed_more}
use Rattle.rules.proofs.counts.subtract.Goals as goal

pub loop-i-preserved : goal.loop-i-preserved
loop-i-preserved c = changed_more (λ x z. int_wrap w32 (z -ℤ amount_in c.args.amounts.now x)) c.args.counts.now c.loop-i.i c.loop-i.counts _ c.loop-i.invariant (omega arith) (search (rules, wraps))

pub returns : goal.returns
returns c x h = c.loop-i.invariant.0 x (omega arith)
