use Rattle.std.proofs.Common.{◌≡◌, ℕ, ◌<◌, ◌++◌, length, drop, pos}
use Rattle.std.specs.Iterator.Adapters.{rev_source}
use Rattle.std.specs.Slice.Iter.{iter_rest}
use Rattle.index.specs.Amounts.{amount_at, carried_by}
use Rattle.index.proofs.carried.carried_by.Given as goal

-- the rows say what the records past those left say
abbrev pub invariant-loop-row : goal.invariant-loop-row
invariant-loop-row l =
    let all = iter_rest (rev_source l.initial.row-iterator) in
    let left = iter_rest (rev_source l.row-iterator) in
    (left ++ drop (length left) all ≡ all)
    × ((c d : ℕ) → c < 32 → d < 32 → amount_at l.rows c d ≡ pos (carried_by (drop (length left) all) c d))
