use Rattle.std.proofs.Common.{◌≡◌, true, false, rules}
use Rattle.std.proofs.lemmas.Iterator.{first_from_Range}
use Rattle.rules.specs.Accounts.{held_by}
use Rattle.rules.proofs.Firsts.{is_first}
use Rattle.rules.proofs.searches.first_held.Goals as goal

pub returns : goal.returns
returns c =
    let held = held_by c.args.account.now in
    is_first held c.args.objects c.find.result
    (first_from_Range _ _ _ c.find.result (λ x. held x ≡ true) (λ x. held x ≡ false) c.find.ensures.ran (λ x q k. search rules) (λ x q k. search rules))
