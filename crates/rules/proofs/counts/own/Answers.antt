use Rattle.std.proofs.Common.{pos, sym, ap}
use Rattle.model.proofs.Sums.{same_eq, same-other}
use Rattle.rules.proofs.counts.own.Goals as goal

pub returns-then-other-channel : goal.returns-then-other-channel
returns-then-other-channel c = ap pos (sym (same_eq c.args.other c.args.channel c.if-other-channel.true))

pub returns-else-other-channel : goal.returns-else-other-channel
returns-else-other-channel c = ap pos (sym (same-other c.args.other c.args.channel c.if-other-channel.false))
