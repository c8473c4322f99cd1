use Rattle.std.proofs.Common.{◌≡◌, ℕ, ◌<◌, length, pos, ◌-ℤ◌}
use Rattle.index.specs.Amounts.{amount_in}
use Rattle.model.specs.Program.{same}
use Rattle.rules.proofs.counts.gained.Given as goal

abbrev pub invariant-loop-i : goal.invariant-loop-i
invariant-loop-i l = ((x : ℕ) → x < l.i → amount_in l.amounts x ≡ pos (same x l.channel) -ℤ amount_in l.carried x) × (length l.amounts ≡ 32)
