use Rattle.std.proofs.Common.{◌≡◌, rules}
use Rattle.std.proofs.lemmas.Iterator.{cases_from_all, YieldsList-from_slice}
use Rattle.tasks.specs.Records.{blank}
use Rattle.reader.proofs.Sheets.{all_blank}
use Rattle.reader.proofs.sheet.is_blank.Goals as goal

pub returns : goal.returns
returns c =
    all_blank c.args.rows.now c.all.result
    (cases_from_all _ _ _ (λ r. r ≡ blank) (λ r. r ≡ blank → ⊥) c.all.ensures.ran (YieldsList-from_slice c.args.rows.now cc) (λ x q k. search rules) (λ x q k. search rules))
