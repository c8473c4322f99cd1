use Rattle.std.proofs.Common.{◌^◌, rules, arith}
use Rattle.std.proofs.lemmas.Iterator.{YieldsList-from_slice}
use Rattle.std.proofs.lemmas.Iterator.Adapters.{at_most_from_yields_List, fits_from_length}
use Rattle.tasks.proofs.table.Threads.moves.Goals as goal

-- 64 threads, and each has no more of them than there are records
pub sum-requires-clause-fits : goal.sum-requires-clause-fits
sum-requires-clause-fits c =
    fits_from_length _ _ 64 (2 ^ 64) (at_most_from_yields_List (YieldsList-from_slice c.rows.result.now cc) c.rows.ensures.few) c.map.ensures.closure (omega arith)
    (λ x r q k. search rules)
