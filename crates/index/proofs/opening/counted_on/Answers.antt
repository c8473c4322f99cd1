use Rattle.std.proofs.Common.{cond, eqb, length, drop, pos, sym, ap, ◌∙◌, append-nil, ◌++◌, arith, w32, SFits, rules}
use Rattle.std.proofs.lemmas.List.{drop_all, get_or-replicate}
use Rattle.std.proofs.lemmas.Int.{to_z-of_z}
use Rattle.std.specs.Iterator.Adapters.{rev_source}
use Rattle.std.specs.Slice.Iter.{iter_rest}
use Rattle.index.specs.Amounts.{amount_in, counted_on}
use Rattle.index.proofs.Tables.{counted_more, left_less}
use Rattle.index.proofs.opening.counted_on.Goals as goal

pub loop-row-init : goal.loop-row-init
loop-row-init c =
    let all = iter_rest (rev_source c.into_iter-row-iterator.result) in
    let none = drop_all (length all) all (omega arith) in (
      ap (λ xs. all ++ xs) none ∙ append-nil all,
      λ x h. get_or-replicate 32 x (pos 0) (pos 0) h ∙ ap (λ xs. counted_on xs x) (sym none),
    )

pub loop-row-preserved : goal.loop-row-preserved
loop-row-preserved c =
    let all = iter_rest (rev_source c.into_iter-row-iterator.result) in
    let more = iter_rest (rev_source c.loop-row.row-iterator) in
    let left = iter_rest (rev_source c.next.new.self) in
    let gone = drop (length more) all in
    let row = c.in-Some.row.now in
    let one = c.in-Some.ensures.steps in
    let fits : SFits w32 row.number = search rules in (
      left_less all left more gone row one c.loop-row.invariant.0,
      λ x h. let old = amount_in c.loop-row.amounts x in
          counted_more all left more gone row one c.loop-row.invariant.0 x old _ (c.loop-row.invariant.1 x h)
          (c.note.ensures x h ∙ ap (λ z. cond (eqb row.first x) z old) (to_z-of_z w32 row.number fits)),
    )
