-- Wait orders; what an operation does to the account and the locks of its thread; which rule it breaks; and when a
-- program is cleared. Assumes nothing.
use Rattle.std.specs.Prelude.{◌≡◌, ℕ, zero, suc, ◌<◌, ◌≤◌, Bool, true, false, cond, not, ◌&&◌, ◌||◌, T, length, pos, ◌+ℤ◌, ◌-ℤ◌, Some, None, Option, ◌==◌, int_le, int_lt}
use Rattle.model.specs.Program.{Op, send, receive, acquire, release, start, Account, Locks, Program, Step, operation, closing, step_at, after, same}

-- A wait order says when one wait level is below another. Its two laws: no level is below itself; and if a is below b
-- and b is below c, a is below c. Levels may be incomparable.
abbrev pub Irreflexive : {Level : Type 0} → (Level → Level → Bool) → Type 0
Irreflexive {Level} below = (a : Level) → T (below a a) → ⊥

abbrev pub Transitive : {Level : Type 0} → (Level → Level → Bool) → Type 0
Transitive {Level} below = (a b c : Level) → T (below a b) → T (below b c) → T (below a c)

-- A rule that is broken: its number, 21 to 26, and the object that breaks it.
pub record Offence : Type 0 where
  pub number : ℕ
  pub object : ℕ

-- The first of the n numbers from i on that has p, if one has.
abbrev pub first_number_from : (ℕ → Bool) → ℕ → ℕ → Option ℕ
first_number_from p i zero = None
first_number_from p i (suc n) = cond (p i) (Some i) (first_number_from p (suc i) n)

-- The first number below n that has p, if one has.
abbrev pub first : (ℕ → Bool) → ℕ → Option ℕ
first p n = first_number_from p 0 n

-- The object, where there is one, breaks rule n.
abbrev pub breaks : ℕ → Option ℕ → Option Offence
breaks n None = None
breaks n (Some x) = Some (record { number = n; object = x })

-- The first of two offences that there is.
abbrev pub or_else : Option Offence → Option Offence → Option Offence
or_else None r = r
or_else (Some x) r = Some x

-- Object x is owed by the account.
abbrev pub owes : Account → ℕ → Bool
owes a x = int_lt (a x) (pos 0)

-- Object x is owed or held.
abbrev pub busy : Account → Locks → ℕ → Bool
busy a h x = owes a x || h x

-- What an operation makes of the locks that its thread holds.
abbrev pub locked : {Message : Type 0} → Op Message → Locks → Locks
locked (send c m) h x = h x
locked (receive c) h x = h x
locked (acquire l) h x = cond (x == l) true (h x)
locked (release l) h x = cond (x == l) false (h x)
locked (start u) h x = h x

module _ {Level Message : Type 0} (P : Program Level Message) where
  -- What an operation makes of the account of its thread.
  abbrev pub paid : Op Message → Account → Account
  paid (send c m) a x = a x +ℤ pos (same x c) -ℤ pos (P.carries c x)
  paid (receive c) a x = a x -ℤ pos (same x c) +ℤ pos (P.carries c x)
  paid (acquire l) a x = a x
  paid (release l) a x = a x
  paid (start u) a x = a x -ℤ P.opening u x

  -- The walk of thread t: its account and its locks after p operations, as if nothing waited.
  abbrev pub account_at : ℕ → ℕ → Account
  account_at t p = after paid (P.ops t) p (P.opening t)

  abbrev pub locks_at : ℕ → ℕ → Locks
  locks_at t p = after locked (P.ops t) p (λ x. false)

  -- The rule that a closing breaks, if any: 25 with the first object owed, else 26 with the first object held.
  abbrev pub unsettled : Account → Locks → Option Offence
  unsettled a h = or_else (breaks 25 (first (owes a) P.objects)) (breaks 26 (first h P.objects))

  module _ (below : Level → Level → Bool) where
    -- Object x is owed or held and its wait level is not below that of object o.
    abbrev pub bars : ℕ → Account → Locks → ℕ → Bool
    bars o a h x = busy a h x && not (below (P.level x) (P.level o))

    -- The rule that an operation breaks, if any. Receive: 21 with its own channel for want of a credit, else 22 with
    -- the first object that bars it. Acquire: 23 with the first object that bars it. Release: 24 with its own lock
    -- where it is not held.
    abbrev pub breach : Op Message → Account → Locks → Option Offence
    breach (send c m) a h = None
    breach (receive c) a h = cond (int_le (pos 1) (a c)) (breaks 22 (first (bars c a h) P.objects)) (Some (record { number = 21; object = c }))
    breach (acquire l) a h = breaks 23 (first (bars l a h) P.objects)
    breach (release l) a h = cond (h l) None (Some (record { number = 24; object = l }))
    breach (start u) a h = None

    -- The rule that a step breaks, if any.
    abbrev pub offence : Step Message → Account → Locks → Option Offence
    offence (operation o) a h = breach o a h
    offence closing a h = unsettled a h

    -- A step is legal where it breaks no rule.
    abbrev pub Legal : Step Message → Account → Locks → Type 0
    Legal s a h = offence s a h ≡ None

    -- The rule that step p of thread t breaks where its walk meets it, if any.
    abbrev pub walk_offence : ℕ → ℕ → Option Offence
    walk_offence t p = offence (step_at (P.ops t) p) (account_at t p) (locks_at t p)

    -- The program is cleared: every operation and every closing is legal where the walk of its thread meets it.
    abbrev pub Cleared : Type 0
    Cleared = (t p : ℕ) → t < P.threads → p ≤ length (P.ops t) → Legal (step_at (P.ops t) p) (account_at t p) (locks_at t p)
