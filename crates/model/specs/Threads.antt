-- From tasks to threads. B is a plan by task: a program with one thread for each task, whose start operations name
-- tasks. `by_thread B` is the program of the threads that its last task brings about. Assumes nothing.
use Rattle.std.specs.Prelude.{◌≡◌, ℕ, zero, suc, ◌+◌, ◌-◌, ◌<◌, ◌≤◌, Bool, ◌↔◌, List, [], ◌∷◌, ◌++◌, length, get_or, pos, slice_index, slice_index_or}
use Rattle.model.specs.Accounts.{Near}
use Rattle.model.specs.History.{Entry, History, grants_to}
use Rattle.model.specs.Machine.{Machine}
use Rattle.model.specs.Mailbox.{MailboxKind}
use Rattle.model.specs.Position.{position, SamePosition}
use Rattle.model.specs.Program.{Op, send, receive, acquire, release, start, Program, Step, operation, closing, step_at, after, tally, send_weight, moves, sends, Within, mailbox_numbers, Formed}
use Rattle.model.specs.Promises.{Promises}
use Rattle.model.specs.Rules.{Irreflexive, Transitive, account_at, Cleared}

-- f of what the operation starts, d where it starts nothing.
abbrev pub at_start : {A Message : Type 0} → A → (ℕ → A) → Op Message → A
at_start d f (send c m) = d
at_start d f (receive c) = d
at_start d f (acquire l) = d
at_start d f (release l) = d
at_start d f (start k) = f k

-- The operation, starting u if it starts something.
abbrev pub renamed : {Message : Type 0} → ℕ → Op Message → Op Message
renamed u (send c m) = send c m
renamed u (receive c) = receive c
renamed u (acquire l) = acquire l
renamed u (release l) = release l
renamed u (start k) = start u

-- The step, starting u if it starts something.
abbrev pub renamed_step : {Message : Type 0} → ℕ → Step Message → Step Message
renamed_step u (operation o) = operation (renamed u o)
renamed_step u closing = closing

-- The trees of the tasks that the operations start, in order.
abbrev pub forest : {Message : Type 0} → (ℕ → List ℕ) → List (Op Message) → List ℕ
forest tree [] = []
forest tree (x ∷ xs) = at_start [] tree x ++ forest tree xs

-- The sum of what the tasks that the operations start weigh.
abbrev pub load : {Message : Type 0} → (ℕ → ℕ) → List (Op Message) → ℕ
load weight [] = 0
load weight (x ∷ xs) = at_start 0 weight x + load weight xs

-- The first n rows of a table, each made from those before it; d stands past the end.
abbrev pub row_on : {A : Type 0} → A → (ℕ → (ℕ → A) → A) → ℕ → List A → List A
row_on d step n rows = rows ++ step n (λ k. get_or rows k d) ∷ []

abbrev pub table : {A : Type 0} → A → (ℕ → (ℕ → A) → A) → ℕ → List A
table d step zero = []
table d step (suc n) = row_on d step n (table d step n)

-- The operations of a thread, where the first thread that it starts has number u: each started thread is followed at
-- once by all those that it brings about.
abbrev pub numbered : {Message : Type 0} → (ℕ → ℕ) → ℕ → List (Op Message) → List (Op Message)
numbered size u [] = []
numbered size u (x ∷ xs) = renamed u x ∷ numbered size (u + at_start 0 size x) xs

module _ {Level Message : Type 0} (B : Program Level Message) where
  -- The tasks of the threads that task i brings about: i itself, and then the trees of the tasks that it starts, in order.
  abbrev pub tree : ℕ → List ℕ
  tree i = slice_index_or (table [] (λ n trees. n ∷ forest trees (B.ops n)) B.threads) i []

  -- What all threads of the tree of task i weigh, where a thread of task k weighs w k.
  abbrev pub weight : (ℕ → ℕ) → ℕ → ℕ
  weight w i = slice_index (table 0 (λ n weights. w n + load weights (B.ops n)) B.threads) i

  -- The main task is the last one; thread 0 is made of it.
  abbrev pub main : ℕ
  main = B.threads - 1

  -- The task of thread t.
  abbrev pub task : ℕ → ℕ
  task t = slice_index (tree main) t

  -- How many threads a task brings about, itself included.
  abbrev pub size : ℕ → ℕ
  size k = length (tree k)

  -- The thread that a start at place p of thread t wakes: one more than t, and the trees of the starts before it.
  abbrev pub woken_at : ℕ → ℕ → ℕ
  woken_at t p = after (λ o u. u + at_start 0 size o) (B.ops (task t)) p (suc t)

  -- The program of threads: thread t has the operations of its task, with the numbers of the threads that it wakes.
  abbrev pub by_thread : Program Level Message
  by_thread = record {
    threads = length (tree main);
    objects = B.objects;
    level = B.level;
    channel = B.channel;
    carries = B.carries;
    ops = λ t. numbered size (suc t) (B.ops (task t));
    opening = λ t. B.opening (task t);
    line = λ t p. B.line (task t) p;
  }

  -- What holds of the tasks of a plan that was read: there is a task; a task starts only tasks with smaller numbers;
  -- every task but the last is started by some task; the last opens with nothing; operations name objects of the plan,
  -- of which there are at most as many as a mailbox has numbers.
  pub record Sound : Type 0 where
    pub has_task : 0 < B.threads
    pub falls : (i p k : ℕ) → i < B.threads → step_at (B.ops i) p ≡ operation (start k) → k < i
    pub named : (k : ℕ) → suc k < B.threads → (i : ℕ) × (p : ℕ) × (i < B.threads) × (step_at (B.ops i) p ≡ operation (start k))
    pub main_opening : (x : ℕ) → B.opening main x ≡ pos 0
    pub within : (i p : ℕ) (o : Op Message) → i < B.threads → step_at (B.ops i) p ≡ operation o → Within B o
    pub few_objects : B.objects ≤ mailbox_numbers

  -- The threads of a plan, and their counts.
  pub record Threads : Type 0 where
    -- they make a program of which a run can be made
    pub formed : Formed by_thread
    -- the tree of a task, and what it weighs, by the tasks that it starts
    pub tree_of : (i : ℕ) → i < B.threads → tree i ≡ i ∷ forest tree (B.ops i)
    pub weight_of : (w : ℕ → ℕ) (i : ℕ) → i < B.threads → weight w i ≡ w i + load (weight w) (B.ops i)
    -- the numbers of threads, of moves and of sends, each as a weight of the main task
    pub thread_count : by_thread.threads ≡ weight (λ k. 1) main
    pub move_count : moves by_thread ≡ weight (λ k. suc (length (B.ops k))) main
    pub send_count : sends by_thread ≡ weight (λ k. tally send_weight (B.ops k) (length (B.ops k))) main
    -- and the number of threads that any task brings about
    pub sizes : (i : ℕ) → i < B.threads → size i ≡ weight (λ k. 1) i
    -- thread 0 is of the main task
    pub main_thread : (0 < by_thread.threads) × (task 0 ≡ main)
    -- a thread does what its task does, step by step, but that a start names the thread that it wakes
    pub steps : (t p : ℕ) → step_at (by_thread.ops t) p ≡ renamed_step (woken_at t p) (step_at (B.ops (task t)) p)
    pub lengths : (t : ℕ) → length (by_thread.ops t) ≡ length (B.ops (task t))
    -- a start of task k wakes a thread of task k
    pub wakes : (t p k : ℕ) → t < by_thread.threads → step_at (B.ops (task t)) p ≡ operation (start k) →
        (step_at (by_thread.ops t) p ≡ operation (start (woken_at t p))) × (woken_at t p < by_thread.threads) × (task (woken_at t p) ≡ k)
    -- every task has a thread, and every thread a task
    pub threads_of : (i : ℕ) → i < B.threads → (t : ℕ) × (t < by_thread.threads) × (task t ≡ i)
    pub task_of : (t : ℕ) → t < by_thread.threads → task t < B.threads
    -- every thread is cleared exactly if every task is
    pub cleared : (below : Level → Level → Bool) → Cleared by_thread below ↔ Cleared B below

  -- The limits of a plan text: a count of an opening or of a message is at most 100, and a task has at most 512 operations.
  pub record Limited : Type 0 where
    pub opened : (i x : ℕ) → i < B.threads → Near 100 (B.opening i x)
    pub carried : (k x : ℕ) → B.carries k x ≤ 100
    pub short : (i : ℕ) → i < B.threads → length (B.ops i) ≤ 512

  -- No account leaves -51,300 to 51,300, on the walk of a task or after a history.
  pub record AccountsFit (Mailbox : Type 0) : Type 0 where
    pub walks : (i p x : ℕ) → i < B.threads → p ≤ length (B.ops i) → Near 51300 (account_at B i p x)
    pub runs : (below : Level → Level → Bool) (K : MailboxKind Message Mailbox) (m : Machine Message Mailbox) (log : List Entry) → History below by_thread K m log →
        (t x : ℕ) → t < by_thread.threads → Near 51300 ((m.thread t).account x)

-- The threads of every sound plan are as said.
abbrev pub ThreadLaws : Type 0 → Type 0 → Type 0
ThreadLaws Level Message = (B : Program Level Message) → Sound B → Threads B

-- The promises of a run, said of a plan by task: cleared means the walk of each task.
abbrev pub PlanPromises : Type 0 → Type 0 → Type 0 → Type 0
PlanPromises Level Message Mailbox =
    (below : Level → Level → Bool) → Irreflexive below → Transitive below → (K : MailboxKind Message Mailbox) (B : Program Level Message) → Sound B →
    (m : Machine Message Mailbox) (log : List Entry) → History below (by_thread B) K m log → Promises below (by_thread B) K (Cleared B below) m log

-- Two histories of one plan that granted each thread equally many moves are at the same position, whichever kind of
-- mailbox each used and whichever wait order each was judged by.
abbrev pub PlanOrderDoesNotMatter : Type 0 → Type 0 → Type 0 → Type 0 → Type 0
PlanOrderDoesNotMatter Level Message Mailbox Mailbox' =
    (below below' : Level → Level → Bool) (K : MailboxKind Message Mailbox) (K' : MailboxKind Message Mailbox') (B : Program Level Message) → Sound B →
    (m : Machine Message Mailbox) (log : List Entry) → History below (by_thread B) K m log →
    (m' : Machine Message Mailbox') (log' : List Entry) → History below' (by_thread B) K' m' log' →
    ((t : ℕ) → t < (by_thread B).threads → grants_to t log ≡ grants_to t log') →
    SamePosition (by_thread B) (position K m) (position K' m')

-- The accounts of every sound plan within the limits of a plan text stay within 51,300.
abbrev pub PlanAccounts : Type 0 → Type 0 → Type 0 → Type 0
PlanAccounts Level Message Mailbox = (B : Program Level Message) → Sound B → Limited B → AccountsFit B Mailbox
