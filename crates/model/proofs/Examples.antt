-- The two example plans: they are sound, and the first runs home. Assumes nothing.
use Rattle.std.proofs.Common.{◌≡◌, ℕ, zero, suc, ◌<◌, ◌≤◌, false, ltb, ◌≢◌, List, [], ◌∷◌, ◌++◌, length, pos, sym, refl, ap, ◌∙◌, subst, arith, rules}
use Rattle.model.specs.Example.{bodies, hoist, Lists, endless, went, HoistRuns, deep_bodies, deep, DeepThreads}
use Rattle.model.specs.History.{Fresh, Opening, no_attempt, attempted}
use Rattle.model.specs.Machine.{State, asleep, running, home, Thread, Machine, granted, Move}
use Rattle.model.specs.Mailbox.{Take}
use Rattle.model.specs.Program.{Op, send, receive, acquire, release, start, Account, Program, operation, step_at, same, Within, mailbox_numbers}
use Rattle.model.specs.Promises.{Serves}
use Rattle.model.specs.RuleExamples.{nothing}
use Rattle.model.specs.Rules.{paid, Cleared}
use Rattle.model.specs.Threads.{main, by_thread, Sound}
use Rattle.model.proofs.Breaches.{step_op}
use Rattle.model.proofs.Completion.{replaced, replaced-here, replaced-other, wakes, performed, shut}
use Rattle.model.proofs.Tools.{At}

-- What holds of each operation of a list.
abbrev Each : {A : Type 0} → (A → Type 0) → List A → Type 0
Each Q [] = Unit {0}
Each Q (x ∷ xs) = Q x × Each Q xs

each_at : {A : Type 0} (Q : A → Type 0) (xs : List A) → Each Q xs → (p : ℕ) (o : A) → At xs p o → Q o
each_at Q [] e p o a = absurd a
each_at Q (x ∷ xs) e zero o a = subst Q a e.0
each_at Q (x ∷ xs) e (suc p) o a = each_at Q xs e.1 p o a

-- An operation of task i names objects of its kind, or a task above.
abbrev Fits : Program ℕ ℕ → ℕ → Op ℕ → Type 0
Fits B i (send c m) = Within B (send c m)
Fits B i (receive c) = Within B (receive c)
Fits B i (acquire l) = Within B (acquire l)
Fits B i (release l) = Within B (release l)
Fits B i (start k) = k < i

fits-within : (B : Program ℕ ℕ) (i : ℕ) (o : Op ℕ) → Fits B i o → Within B o
fits-within B i (send c m) f = f
fits-within B i (receive c) f = f
fits-within B i (acquire l) f = f
fits-within B i (release l) f = f
fits-within B i (start k) f = tt

-- A plan whose operations fit is sound, if it has a task, each task but the last is named, and the last opens with nothing.
sound : (B : Program ℕ ℕ) → 0 < B.threads → ((i : ℕ) → i < B.threads → Each (Fits B i) (B.ops i)) →
    ((k : ℕ) → suc k < B.threads → (i : ℕ) × (p : ℕ) × (i < B.threads) × (step_at (B.ops i) p ≡ operation (start k))) →
    ((x : ℕ) → B.opening (main B) x ≡ pos 0) → B.objects ≤ mailbox_numbers → Sound B
sound B some fits named opening few = record {
  has_task = some;
  falls = λ i p k h e. fit i p (start k) h e;
  named = named;
  main_opening = opening;
  within = λ i p o h e. fits-within B i o (fit i p o h e);
  few_objects = few;
}
  where
    fit : (i p : ℕ) (o : Op ℕ) → i < B.threads → step_at (B.ops i) p ≡ operation o → Fits B i o
    fit i p o h e = each_at (Fits B i) (B.ops i) (fits i h) p o (step_op (B.ops i) p o e)

pub deep-sound : Sound deep
deep-sound = sound deep (omega arith) fits named (λ x. refl) (omega arith)
  where
    fits : (i : ℕ) → i < 4 → Each (Fits deep i) (deep_bodies i)
    fits zero h = search rules
    fits (suc zero) h = search rules
    fits (suc (suc zero)) h = search rules
    fits (suc (suc (suc zero))) h = search rules
    fits (suc (suc (suc (suc i)))) h = absurd (omega arith)

    named : (k : ℕ) → suc k < 4 → (i : ℕ) × (p : ℕ) × (i < 4) × (step_at (deep_bodies i) p ≡ operation (start k))
    named zero h = (1, 0, omega arith, refl)
    named (suc zero) h = (2, 1, omega arith, refl)
    named (suc (suc zero)) h = (3, 2, omega arith, refl)
    named (suc (suc (suc k))) h = absurd (omega arith)

pub hoist-sound : Sound hoist
hoist-sound = sound hoist (omega arith) fits named (λ x. refl) (omega arith)
  where
    fits : (i : ℕ) → i < 2 → Each (Fits hoist i) (bodies i)
    fits zero h = search rules
    fits (suc zero) h = search rules
    fits (suc (suc i)) h = absurd (omega arith)

    named : (k : ℕ) → suc k < 2 → (i : ℕ) × (p : ℕ) × (i < 2) × (step_at (bodies i) p ≡ operation (start k))
    named zero h = (1, 0, omega arith, refl)
    named (suc k) h = absurd (omega arith)

-- The walk of each task, place by place.
pub hoist-cleared : Cleared hoist ltb
unfolding same
hoist-cleared zero zero h l = refl
hoist-cleared zero (suc zero) h l = refl
hoist-cleared zero (suc (suc zero)) h l = refl
hoist-cleared zero (suc (suc (suc p))) h l = absurd (omega arith)
hoist-cleared (suc zero) zero h l = refl
hoist-cleared (suc zero) (suc zero) h l = refl
hoist-cleared (suc zero) (suc (suc zero)) h l = refl
hoist-cleared (suc zero) (suc (suc (suc zero))) h l = refl
hoist-cleared (suc zero) (suc (suc (suc (suc p)))) h l = absurd (omega arith)
hoist-cleared (suc (suc i)) p h l = absurd (omega arith)

-- A table of two, with d past them; where one of them changes, the rest stays.
abbrev two : {A : Type 0} → A → A → A → ℕ → A
two d a b zero = a
two d a b (suc zero) = b
two d a b (suc (suc n)) = d

not_0 : {A : Type 0} (d a a' b : A) (n : ℕ) → n ≢ 0 → two d a' b n ≡ two d a b n
not_0 d a a' b zero ne = absurd (ne refl)
not_0 d a a' b (suc zero) ne = refl
not_0 d a a' b (suc (suc n)) ne = refl

not_1 : {A : Type 0} (d a b b' : A) (n : ℕ) → n ≢ 1 → two d a b' n ≡ two d a b n
not_1 d a b b' zero ne = refl
not_1 d a b b' (suc zero) ne = absurd (ne refl)
not_1 d a b b' (suc (suc n)) ne = refl

-- Two threads, and two channels.
abbrev one : State → ℕ → Account → ℕ → Thread ℕ
one s p a last = record { state = s; place = p; account = a; locks = λ x. false; last = last }

abbrev stage : Thread ℕ → Thread ℕ → List ℕ → List ℕ → Machine ℕ Lists
stage a b xs ys = record { thread = two (one asleep 0 nothing 0) a b; halted = false; mailbox = two [] xs ys }

abbrev P : Program ℕ ℕ
P = by_thread hoist

-- The accounts of the two threads, operation by operation.
abbrev a0 : Account
a0 = nothing

abbrev a1 : Account
a1 = paid P (start 1) a0

abbrev a2 : Account
a2 = paid P (send 0 7) a1

abbrev a3 : Account
a3 = paid P (receive 1) a2

abbrev b0 : Account
b0 = P.opening 1

abbrev b1 : Account
b1 = paid P (receive 0) b0

abbrev b2 : Account
b2 = paid P (send 1 0) b1

-- The machine after each of the seven moves.
abbrev m0 : Machine ℕ Lists
m0 = stage (one running 0 a0 0) (one asleep 0 nothing 0) [] []

abbrev m1 : Machine ℕ Lists
m1 = stage (one running 1 a1 0) (one running 0 b0 0) [] []

abbrev m2 : Machine ℕ Lists
m2 = stage (one running 2 a2 0) (one running 0 b0 0) (7 ∷ []) []

abbrev m3 : Machine ℕ Lists
m3 = stage (one running 2 a2 0) (one running 1 b1 7) [] []

abbrev m4 : Machine ℕ Lists
m4 = stage (one running 2 a2 0) (one running 2 b2 7) [] (0 ∷ [])

abbrev m5 : Machine ℕ Lists
m5 = stage (one running 3 a3 0) (one running 2 b2 7) [] []

abbrev m6 : Machine ℕ Lists
m6 = stage (one running 3 a3 0) (one home 3 b2 7) [] []

abbrev m7 : Machine ℕ Lists
m7 = stage (one home 4 a3 0) (one home 3 b2 7) [] []

move_1 : Move ltb P endless m0 0 (granted 10) m1
unfolding same
move_1 = record { exact = refl; leaves = performed P endless m0 0 m1 (start 1) 0 refl (refl, refl) (wakes P endless m0 0 m1 1 refl) (λ u ne nv. not_1 _ _ _ _ u nv ∙ not_0 _ _ _ _ u ne) refl }

move_2 : Move ltb P endless m1 0 (granted 11) m2
unfolding same
move_2 = record { exact = refl; leaves = performed P endless m1 0 m2 (send 0 7) 0 refl (record { joined = refl; others = not_0 _ _ _ _; roomy = λ d. omega arith }, refl) tt (λ u ne _. not_0 _ _ _ _ u ne) refl }

move_3 : Move ltb P endless m2 1 (granted 7) m3
unfolding same
move_3 = record { exact = refl; leaves = performed P endless m2 1 m3 (receive 0) 7 refl (record { removed = refl; others = not_0 _ _ _ _; roomy = λ d. omega arith }, tt) tt (λ u ne _. not_1 _ _ _ _ u ne) refl }

move_4 : Move ltb P endless m3 1 (granted 8) m4
unfolding same
move_4 = record { exact = refl; leaves = performed P endless m3 1 m4 (send 1 0) 7 refl (record { joined = refl; others = not_1 _ _ _ _; roomy = λ d. omega arith }, refl) tt (λ u ne _. not_1 _ _ _ _ u ne) refl }

move_5 : Move ltb P endless m4 0 (granted 12) m5
unfolding same
move_5 = record { exact = refl; leaves = performed P endless m4 0 m5 (receive 1) 0 refl (record { removed = refl; others = not_1 _ _ _ _; roomy = λ d. omega arith }, tt) tt (λ u ne _. not_0 _ _ _ _ u ne) refl }

move_6 : Move ltb P endless m5 1 (granted 4) m6
unfolding same
move_6 = record { exact = refl; leaves = shut P endless m5 1 m6 refl (not_1 _ _ _ _) refl refl }

move_7 : Move ltb P endless m6 0 (granted 9) m7
unfolding same
move_7 = record { exact = refl; leaves = shut P endless m6 0 m7 refl (not_0 _ _ _ _) refl refl }

opening-hoist : Opening P endless 0 (two [] [] []) m0
opening-hoist = record { main = fresh running; rest = rest; halted = refl; mailbox = refl }
  where
    fresh : (s : State) → Fresh 0 s (one s 0 nothing 0)
    fresh s = record { state = refl; place = refl; account = λ x. refl; locks = λ x. refl; last = refl }

    rest : (t : ℕ) → 0 < t → t < 2 → Fresh 0 asleep (m0.thread t)
    rest zero z h = absurd (omega arith)
    rest (suc zero) z h = fresh asleep
    rest (suc (suc t)) z h = fresh asleep

all_home : (t : ℕ) → t < 2 → (m7.thread t).state ≡ home
all_home zero h = refl
all_home (suc zero) h = refl
all_home (suc (suc t)) h = absurd (omega arith)

-- The mailbox of lists serves.
first_of : (b : Lists) (c : ℕ) (xs : List ℕ) → b c ≡ xs → 0 < length xs → (m : ℕ) × (b' : Lists) × Take endless b c m b'
first_of b c [] e h = absurd (omega arith)
first_of b c (m ∷ xs) e h = (
  m,
  replaced b c xs,
  record {
    removed = e ∙ ap (λ (ys : List ℕ). m ∷ ys) (sym (replaced-here b c xs));
    others = λ d ne. replaced-other b c xs d ne;
    roomy = λ d. omega arith;
  },
)

serves : Serves endless
serves = record {
  puts = λ b c m h. (
    replaced b c (b c ++ (m ∷ [])),
    record {
      joined = replaced-here b c (b c ++ (m ∷ []));
      others = λ d ne. replaced-other b c (b c ++ (m ∷ [])) d ne;
      roomy = λ d. omega arith;
    },
  );
  takes = λ b c h. first_of b c (b c) refl h;
}

pub hoist-runs : HoistRuns
hoist-runs = record {
  sound = hoist-sound;
  cleared = hoist-cleared;
  seven_moves = refl;
  two_sends = refl;
  machine = m7;
  history = record {
    blank = 0;
    before = two [] [] [];
    opened = m0;
    no_fault = refl;
    opening = opening-hoist;
    attempts =
        attempted {e = went 0 9} (attempted {e = went 1 4} (attempted {e = went 0 12} (attempted {e = went 1 8}
        (attempted {e = went 1 7} (attempted {e = went 0 11} (attempted {e = went 0 10} no_attempt move_1) move_2) move_3) move_4) move_5) move_6) move_7;
  };
  all_home = all_home;
  serves = serves;
}

pub deep-threads : DeepThreads
deep-threads = record { sound = deep-sound; tasks = refl; ops = refl; thread_count = refl; move_count = refl; send_count = refl }
