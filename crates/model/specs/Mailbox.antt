-- What a mailbox means, and what a put and a take do to it. Assumes nothing.
use Rattle.std.specs.Prelude.{◌≡◌, ℕ, suc, ◌≤◌, ◌≢◌, List, [], ◌∷◌, ◌++◌}

-- A kind of mailbox: what a mailbox of that kind means for each object number, the messages that wait, earliest first, and the room.
pub record MailboxKind (Message Mailbox : Type 0) : Type 0 where
  pub waiting : Mailbox → ℕ → List Message
  pub room : Mailbox → ℕ → ℕ

module _ {Message Mailbox : Type 0} (K : MailboxKind Message Mailbox) where
  -- A put of m on channel c turns b into b': m joins the end of that list, no other list changes, and no room falls by more than one.
  pub record Put (b : Mailbox) (c : ℕ) (m : Message) (b' : Mailbox) : Type 0 where
    pub joined : K.waiting b' c ≡ K.waiting b c ++ (m ∷ [])
    pub others : (d : ℕ) → d ≢ c → K.waiting b' d ≡ K.waiting b d
    pub roomy : (d : ℕ) → K.room b d ≤ suc (K.room b' d)

  -- A take of m from channel c turns b into b': m was the first of that list and leaves it, no other list changes, and no room falls.
  pub record Take (b : Mailbox) (c : ℕ) (m : Message) (b' : Mailbox) : Type 0 where
    pub removed : K.waiting b c ≡ m ∷ K.waiting b' c
    pub others : (d : ℕ) → d ≢ c → K.waiting b' d ≡ K.waiting b d
    pub roomy : (d : ℕ) → K.room b d ≤ K.room b' d
