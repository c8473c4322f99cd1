-- What a mailbox of any kind answers to a put and to a take, and what then holds. Assumes nothing.
use Rattle.std.specs.Prelude.{◌≡◌, ℕ, ◌<◌, ◌≤◌, Bool, true, false, List, [], length, Option, MatchOption}
use Rattle.model.specs.Program.{sum}
use Rattle.model.specs.Mailbox.{MailboxKind, Put, Take}

-- How many messages the lists of all object numbers have together.
unfoldable pub together : {Message : Type 0} → (ℕ → List Message) → ℕ
together lists = sum (λ c. length (lists c)) 32

module _ {Message Mailbox : Type 0} (K : MailboxKind Message Mailbox) where
  -- There was room, and the message is put.
  pub record Accepted (b : Mailbox) (c : ℕ) (m : Message) (b' : Mailbox) : Type 0 where
    pub had_room : 1 ≤ K.room b c
    pub put : Put K b c m b'

  -- There was no room, and nothing has changed.
  pub record Refused (b : Mailbox) (c : ℕ) (b' : Mailbox) : Type 0 where
    pub no_room : K.room b c ≡ 0
    pub same : b' ≡ b

  -- The answer to a put of m on channel c, which turns b into b'.
  abbrev pub PutAnswer : Mailbox → ℕ → Message → Bool → Mailbox → Type 0
  PutAnswer b c m true b' = Accepted b c m b'
  PutAnswer b c m false b' = Refused b c b'

  -- No message waited, and nothing has changed.
  pub record NoneWaits (b : Mailbox) (c : ℕ) (b' : Mailbox) : Type 0 where
    pub empty : K.waiting b c ≡ []
    pub same : b' ≡ b

  -- The answer to a take from channel c, which turns b into b': none, or the first message, which is taken.
  abbrev pub TakeAnswer : Mailbox → ℕ → Option Message → Mailbox → Type 0
  TakeAnswer b c r b' = MatchOption r (NoneWaits b c b') (λ m. Take K b c m b')

  -- A number above 31 has no messages and no room.
  abbrev pub Bounded : Type 0
  Bounded = (b : Mailbox) (c : ℕ) → 31 < c → (K.waiting b c ≡ []) × (K.room b c ≡ 0)
