use Rattle.std.proofs.Common.{◌≡◌, ◌<◌, ◌≤◌, [], get_or, pos, sym, ap, ◌∙◌, inl, rules}
use Rattle.std.proofs.lemmas.List.{get_or-replicate}
use Rattle.index.specs.Amounts.{amount_in}
use Rattle.plan.specs.Plans.{records_in}
use Rattle.plan.proofs.Checks.{was_checked}
use Rattle.plan.proofs.Edges.{carried_past}
use Rattle.plan.proofs.Kept.{carried-is}
use Rattle.plan.proofs.plan.Plan.carried.Goals as goal

pub returns-in-Some : goal.returns-in-Some
returns-in-Some c x h =
    let p = c.args.self.now in
    let inside : c.args.channel < 32 = search rules in
    let here : c.in-Some.row.now ≡ get_or p.index.carried c.args.channel [] = search rules in
    ap (λ row. amount_in row x) here ∙ carried-is p.lists p.threads p.index p.sheet.now p.made c.args.channel x inside h

pub returns-in-None : goal.returns-in-None
returns-in-None c x h =
    let p = c.args.self.now in
    let past : 32 ≤ c.args.channel = search rules in
    get_or-replicate 32 x (pos 0) (pos 0) h
    ∙ ap pos (sym (carried_past (records_in p.sheet.now) (was_checked p.text.now p.sheet.now p.read) c.args.channel x (inl past)))
