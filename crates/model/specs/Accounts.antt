-- How far an account can go. Assumes nothing.
use Rattle.std.specs.Prelude.{ℕ, suc, ◌*◌, ◌<◌, ◌≤◌, Bool, List, length, ℤ, pos, neg_ℤ, ◌≤ℤ◌}
use Rattle.model.specs.History.{Entry, History}
use Rattle.model.specs.Machine.{Machine}
use Rattle.model.specs.Mailbox.{MailboxKind}
use Rattle.model.specs.Program.{Program, Formed}
use Rattle.model.specs.Rules.{account_at}

-- z lies between -n and n.
abbrev pub Near : ℕ → ℤ → Type 0
Near n z = (neg_ℤ (pos n) ≤ℤ z) × (z ≤ℤ pos n)

-- No thread opens with more than `most` credits or debts of a channel, and no message carries more.
pub record Bounded {Level Message : Type 0} (P : Program Level Message) (most : ℕ) : Type 0 where
  pub some_count : 1 ≤ most
  pub opened : (t x : ℕ) → t < P.threads → Near most (P.opening t x)
  pub carried : (k x : ℕ) → P.carries k x ≤ most

-- Accounts stay within `most` for the opening and as much for each operation, on every walk and after every history.
pub record AccountsWithin {Level Message : Type 0} (Mailbox : Type 0) (P : Program Level Message) (most : ℕ) : Type 0 where
  pub walks : (t p x : ℕ) → t < P.threads → Near (suc p * most) (account_at P t p x)
  pub runs : (below : Level → Level → Bool) (K : MailboxKind Message Mailbox) (m : Machine Message Mailbox) (log : List Entry) → History below P K m log →
      (t x : ℕ) → t < P.threads → Near (suc (length (P.ops t)) * most) ((m.thread t).account x)

abbrev pub AccountLaw : Type 0 → Type 0 → Type 0 → Type 0
AccountLaw Level Message Mailbox = (P : Program Level Message) → Formed P → (most : ℕ) → Bounded P most → AccountsWithin Mailbox P most
