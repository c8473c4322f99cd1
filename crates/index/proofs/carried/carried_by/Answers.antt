use Rattle.std.proofs.Common.{[], length, drop, replicate, pos, sym, ap, ◌∙◌, append-nil, ◌++◌, arith}
use Rattle.std.proofs.lemmas.List.{drop_all, get_or-replicate}
use Rattle.std.specs.Iterator.Adapters.{rev_source}
use Rattle.std.specs.Slice.Iter.{iter_rest}
use Rattle.index.specs.Amounts.{amount_in, carried_by}
use Rattle.index.proofs.Tables.{carried_more, left_less}
use Rattle.index.proofs.carried.carried_by.Goals as goal

pub loop-row-init : goal.loop-row-init
loop-row-init c =
    let all = iter_rest (rev_source c.into_iter-row-iterator.result) in
    let none = drop_all (length all) all (omega arith) in
    let row = replicate 32 (pos 0) in (
      ap (λ xs. all ++ xs) none ∙ append-nil all,
      λ x y h k. ap (λ r. amount_in r y) (get_or-replicate 32 x row [] h) ∙ get_or-replicate 32 y (pos 0) (pos 0) k ∙ ap (λ xs. pos (carried_by xs x y)) (sym none),
    )

pub loop-row-preserved : goal.loop-row-preserved
loop-row-preserved c =
    let all = iter_rest (rev_source c.into_iter-row-iterator.result) in
    let more = iter_rest (rev_source c.loop-row.row-iterator) in
    let left = iter_rest (rev_source c.next.new.self) in
    let gone = drop (length more) all in
    let one = c.in-Some.ensures.steps in (
      left_less all left more gone c.in-Some.row.now one c.loop-row.invariant.0,
      λ x y h k. carried_more all left more gone c.in-Some.row.now one c.loop-row.invariant.0 x y _ _ (c.loop-row.invariant.1 x y h k) (c.note_carried.ensures x y h k),
    )
