-- The three states of a thread are apart. Assumes nothing.
use Rattle.std.proofs.Common.{◌≡◌, ℕ, sym, refl, ap, ◌∙◌, arith}
use Rattle.model.specs.Machine.{State, asleep, running, home}

abbrev pub code : State → ℕ
code asleep = 0
code running = 1
code home = 2

pub apart : {A : Type 0} {s : State} (a b : State) → s ≡ a → s ≡ b → ¬ (code a ≡ code b) → A
apart a b p q n = absurd (n (ap code (sym p ∙ q)))

pub decide_home : (s : State) → Dec (s ≡ home)
decide_home asleep = no (λ e. apart asleep home refl e (omega arith))
decide_home running = no (λ e. apart running home refl e (omega arith))
decide_home home = yes refl
