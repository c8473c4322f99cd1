use Rattle.std.proofs.Common.{◌≡◌, true, false, rules}
use Rattle.std.proofs.lemmas.Iterator.{first_from_Range}
use Rattle.model.specs.Rules.{owes}
use Rattle.rules.specs.Accounts.{count_of}
use Rattle.rules.proofs.Firsts.{is_first}
use Rattle.rules.proofs.searches.first_owed.Goals as goal

pub returns : goal.returns
returns c =
    let owed = owes (count_of c.args.account.now) in
    is_first owed c.args.objects c.find.result
    (first_from_Range _ _ _ c.find.result (λ x. owed x ≡ true) (λ x. owed x ≡ false) c.find.ensures.ran (λ x q k. search rules) (λ x q k. search rules))
