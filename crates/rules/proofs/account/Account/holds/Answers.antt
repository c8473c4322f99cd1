use Rattle.std.proofs.Common.{false, sym, ◌∙◌, arith}
use Rattle.std.proofs.lemmas.Bool.{le-ltb}
use Rattle.std.proofs.lemmas.List.{get_or_past}
use Rattle.rules.proofs.account.Account.holds.Goals as goal

pub returns-else-lock-lt-MOST_OBJECTS : goal.returns-else-lock-lt-MOST_OBJECTS
returns-else-lock-lt-MOST_OBJECTS c = le-ltb c.args.lock 32 c.if-lock-lt-MOST_OBJECTS.false ∙ sym (get_or_past c.args.self.now.locks c.args.lock false (omega arith))
