use Rattle.std.proofs.Common.{◌≡◌, ◌==◌, take}
use Rattle.std.specs.List.{count_by}
use Rattle.mailbox.proofs.pool.Pool.count_of.Given as goal

abbrev pub invariant-loop-e : goal.invariant-loop-e
invariant-loop-e g l = l.n ≡ count_by (λ e. e.channel == l.channel) (take l.e-index l.entries)
