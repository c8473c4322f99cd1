use Rattle.std.proofs.Common.{◌≡◌, ◌∙◌, true, false, ap, rules}
use Rattle.std.proofs.lemmas.Iterator.{first_from_Range}
use Rattle.model.specs.Rules.{bars, first}
use Rattle.plan.specs.Plans.{records_in}
use Rattle.plan.specs.Program.{program_of}
use Rattle.rules.specs.Accounts.{count_of, held_by}
use Rattle.rules.proofs.Firsts.{is_first}
use Rattle.rules.proofs.searches.barring.Goals as goal

pub returns : goal.returns
returns g c =
    let rs = records_in c.args.plan.now.sheet.now in
    let a = c.args.account.now in
    let barred = bars (program_of g.O.WaitOrder.made rs) g.O.WaitOrder.below c.args.object (count_of a) (held_by a) in
    is_first barred c.object_count.result c.find.result
    (first_from_Range _ _ _ c.find.result (λ x. barred x ≡ true) (λ x. barred x ≡ false) c.find.ensures.ran (λ x q k. search rules) (λ x q k. search rules))
    ∙ ap (first barred) c.object_count.ensures
