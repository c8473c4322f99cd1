use Rattle.std.proofs.Common.{◌-ℤ◌, w32}
use Rattle.std.specs.Int.{int_wrap}
use Rattle.index.specs.Amounts.{amount_in}
use Rattle.rules.proofs.Turns.{Changed}
use Rattle.rules.proofs.counts.subtract.Given as goal

abbrev pub invariant-loop-i : goal.invariant-loop-i
invariant-loop-i l = Changed (λ x z. int_wrap w32 (z -ℤ amount_in l.amounts x)) l.initial.counts l.i l.counts
