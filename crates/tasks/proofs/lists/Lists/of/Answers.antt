use Rattle.std.proofs.Common.{◌≡◌, true, cond, get_or, take, sym, ap, ◌∙◌}
use Rattle.std.proofs.lemmas.List.{take_all, take_more}
use Rattle.tasks.specs.Records.{blank, pushed, room_in, view_of}
use Rattle.tasks.proofs.Pushed.{view_push}
use Rattle.tasks.proofs.lists.Lists.of.Goals as goal

pub loop-row-preserved : goal.loop-row-preserved
loop-row-preserved c roomy =
    let rs = c.args.records.now in
    let i = c.loop-row.row-index in
    let row = get_or rs i blank in
    let lists = c.loop-row.lists in
    let inv = c.loop-row.invariant roomy in
    let room : room_in lists row ≡ true = ap (λ v. room_in v row) inv ∙ roomy i c.loop-row-test.true in
    c.push.ensures.after ∙ ap (λ b. cond b (pushed lists row) lists) room ∙ ap (λ v. pushed v row) inv
    ∙ sym (view_push (take i rs) row) ∙ ap view_of (sym (take_more rs i blank c.loop-row-test.true))

pub returns : goal.returns
returns c roomy = c.loop-row.invariant roomy ∙ ap view_of (take_all c.loop-row.row-index c.args.records.now c.loop-row-test.false)
