use Rattle.std.proofs.Common.{pos, sym, arith}
use Rattle.std.proofs.lemmas.List.{get_or_past}
use Rattle.rules.proofs.account.Account.count.Goals as goal

pub returns-else-channel-lt-MOST_OBJECTS : goal.returns-else-channel-lt-MOST_OBJECTS
returns-else-channel-lt-MOST_OBJECTS c = sym (get_or_past c.args.self.now.counts c.args.channel (pos 0) (omega arith))
