use Rattle.std.proofs.Common.{◌≡◌, ℕ, ◌<◌, ◌++◌, length, drop}
use Rattle.std.specs.Iterator.Adapters.{rev_source}
use Rattle.std.specs.Slice.Iter.{iter_rest}
use Rattle.index.specs.Amounts.{amount_in, counted_on}
use Rattle.index.proofs.opening.counted_on.Given as goal

-- the amounts are what the lines past those left say
abbrev pub invariant-loop-row : goal.invariant-loop-row
invariant-loop-row l =
    let all = iter_rest (rev_source l.initial.row-iterator) in
    let left = iter_rest (rev_source l.row-iterator) in
    (left ++ drop (length left) all ≡ all)
    × ((x : ℕ) → x < 32 → amount_in l.amounts x ≡ counted_on (drop (length left) all) x)
