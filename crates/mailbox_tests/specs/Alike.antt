-- Two mailboxes, each of its own kind, with the same lists. Assumes nothing.
use Rattle.std.specs.Prelude.{◌≡◌, ℕ}
use Rattle.model.specs.Mailbox.{MailboxKind}

abbrev pub Alike : {Message A B : Type 0} → MailboxKind Message A → MailboxKind Message B → A → B → Type 0
Alike K L a b = (c : ℕ) → K.waiting a c ≡ L.waiting b c
