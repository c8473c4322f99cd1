use Rattle.std.proofs.Common.{◌≡◌, ◌+◌, ◌-◌, ◌*◌, min, subst, arith, rules}
use Rattle.std.proofs.lemmas.Fn.{fold_over, slice_gives, fronts}
use Rattle.std.proofs.lemmas.List.Sums.{fold_push}
use Rattle.text.specs.Text.{enough, value_of}
use Rattle.text.proofs.numbers.value.Goals as goal

-- the number of the digits so far, cut down
pub returns : goal.returns
returns c = subst (λ ds. c.fold.result ≡ min (value_of ds) enough) c.iter.ensures.rest
    (fold_over fronts (λ y. y.now) _ (λ ds n. n ≡ min (value_of ds) enough) _ (λ ds a x b f' j k. let more = fold_push (λ n d. n * 10 + (d - 48)) 0 ds x.now in search rules)
    _ _ _ _ (slice_gives c.iter.result) (omega arith) c.fold.ensures.ran)
