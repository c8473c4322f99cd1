-- The first breach of a plan: the tasks in the order of the file, each walked from what it starts with, as if nothing waited.
use Rattle.std.specs.Prelude.{◌≡◌, ℕ, zero, suc, ◌<◌, ◌≤◌, Bool, length, Some, None, Option}
use Rattle.model.specs.Program.{Program}
use Rattle.model.specs.Rules.{Offence, walk_offence}

-- a rule that is broken, 21 to 26, the line of the step that breaks it, and the object that is named
pub record Breach : Type 0 where
  pub number : ℕ
  pub line : ℕ
  pub object : ℕ

abbrev pub at_line : ℕ → Option Offence → Option Breach
at_line line None = None
at_line line (Some x) = Some (record { number = x.number; line = line; object = x.object })

abbrev pub or_else : Option Breach → Option Breach → Option Breach
or_else None r = r
or_else (Some x) r = Some x

-- the first of the n answers from number p on that names a breach
abbrev pub first_of : (ℕ → Option Breach) → ℕ → ℕ → Option Breach
first_of f p zero = None
first_of f p (suc n) = or_else (f p) (first_of f (suc p) n)

module _ {Level Message : Type 0} (B : Program Level Message) (below : Level → Level → Bool) where
  -- the breach of step p of task k, where its walk meets it
  abbrev pub step_breach : ℕ → ℕ → Option Breach
  step_breach k p = at_line (B.line k p) (walk_offence B below k p)

  -- the first one of task k: of its operations, and its closing
  unfoldable pub task_breach : ℕ → Option Breach
  task_breach k = first_of (step_breach k) 0 (suc (length (B.ops k)))

  -- the first one of all tasks
  unfoldable pub first_breach : Option Breach
  first_breach = first_of task_breach 0 B.threads

  -- The breach is the first: every step of the tasks before this one is legal, so is every step of this task before
  -- this place, and the step at this place breaks the rule.
  pub record FirstBreach (b : Breach) : Type 0 where
    pub task : ℕ
    pub place : ℕ
    pub exists : task < B.threads
    pub inside : place ≤ length (B.ops task)
    pub tasks-before : (k p : ℕ) → k < task → p ≤ length (B.ops k) → walk_offence B below k p ≡ None
    pub steps-before : (p : ℕ) → p < place → walk_offence B below task p ≡ None
    pub here : step_breach task place ≡ Some b
