-- What an account holds.
use Rattle.std.specs.Prelude.{ℕ, Bool, false, replicate, ℤ, pos, slice_index_or}
use Rattle.rules.specs.declared.account.Account.{Account}

-- the count of a channel, and whether a lock is held; past the 32 objects there is nothing
abbrev pub count_of : Account → ℕ → ℤ
count_of a x = slice_index_or a.counts x (pos 0)

abbrev pub held_by : Account → ℕ → Bool
held_by a x = slice_index_or a.locks x false

-- an account that reads zero everywhere
abbrev pub empty_account : Account
empty_account = record { counts = replicate 32 (pos 0); locks = replicate 32 false }
