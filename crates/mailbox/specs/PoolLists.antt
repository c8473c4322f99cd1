-- What a pool holds: the list and the room of each object number.
use Rattle.std.specs.Prelude.{ℕ, ◌-◌, cond, List, [], length, take, nat_lt}
use Rattle.std.proofs.Common.{ap}
use Rattle.std.proofs.lemmas.Bool.{le-ltb}
use Rattle.model.specs.Mailbox.{MailboxKind}
use Rattle.mailbox.specs.Contract.{Bounded, together}
use Rattle.mailbox.specs.Entries.{chosen, listed}
use Rattle.mailbox.specs.declared.pool.Pool.{Pool}

module _ {T : Type 0} where
  abbrev pub pool_waiting : Pool T → ℕ → List T
  pool_waiting b c = listed (take b.count b.memory.now) c

  -- The room of a pool, the same under every number: its memory less all that wait.
  abbrev pub pool_room : Pool T → ℕ → ℕ
  pool_room b c = cond (nat_lt c 32) (length b.memory.now - together (λ d. pool_waiting b d)) 0

  abbrev pub pool_kind : MailboxKind T (Pool T)
  pool_kind = record { waiting = pool_waiting; room = pool_room }

  pub pool_bounded : Bounded pool_kind
  pool_bounded b c h = (
    ap (λ q. cond q (chosen c (take b.count b.memory.now)) []) (le-ltb c 32 h),
    ap (λ q. cond q (length b.memory.now - together (λ d. pool_waiting b d)) 0) (le-ltb c 32 h),
  )
