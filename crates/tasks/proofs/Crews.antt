-- The rule of the threads of a task, from the levels of its definition.
use Rattle.std.proofs.Common.{◌≡◌, ℕ, zero, suc, ◌+◌, ◌*◌, ◌<◌, ◌≤◌, Bool, true, false, cond, List, [], ◌∷◌, ◌++◌, length, get_or, drop, sym, refl, ap, ◌∙◌, mul-le-mul_right, add-mul, one-mul, arith, rules}
use Rattle.std.specs.List.{prefix_len}
use Rattle.std.proofs.lemmas.List.{at_drop_all, at_drop_more, length-append, length-drop, length-take}
use Rattle.records.specs.declared.record.Record.{Record}
use Rattle.records.specs.declared.rows.TaskRow.{TaskRow}
use Rattle.tasks.specs.Records.{is_operation, no_task}
use Rattle.tasks.specs.Threads.{body_of, first_operation, brought, crew, crew_within, starts}

-- an operation that starts a thread names a task above
pub starts-above : (k : ℕ) (r : Record) → starts k r ≡ true → r.first < k
starts-above k r e = search rules

pub brought-same : (f g : ℕ → List ℕ) (k : ℕ) → ((j : ℕ) → j < k → f j ≡ g j) → (ops : List Record) → brought f k ops ≡ brought g k ops
brought-same f g k same [] = refl
brought-same f g k same (r ∷ ops) =
    let here : (b : Bool) → starts k r ≡ b → cond b (f r.first) [] ≡ cond b (g r.first) [] =
    λ b. elim b as (λ v. starts k r ≡ v → cond v (f r.first) [] ≡ cond v (g r.first) [])
    [ true ↦ λ e. same r.first (starts-above k r e) | false ↦ λ e. refl ] in
    let rest = brought-same f g k same ops in
    let h = here (starts k r) refl in
    cc

-- any two numbers of levels that reach the task give the same
pub within_same : (d e : ℕ) (body : ℕ → List Record) (k : ℕ) → k < d → k < e → crew_within d body k ≡ crew_within e body k
unfolding crew_within
within_same zero e body k h i = absurd (omega arith)
within_same (suc d) zero body k h i = absurd (omega arith)
within_same (suc d) (suc e) body k h i =
    ap (λ n. k ∷ n) (brought-same (crew_within d body) (crew_within e body) k (λ j b. within_same d e body j (omega arith) (omega arith)) (body k))

-- a thread of the task, and then the threads of every task that its F operations name
pub crew-rule : (body : ℕ → List Record) (k : ℕ) → crew body k ≡ k ∷ brought (crew body) k (body k)
unfolding crew crew_within
crew-rule body k = ap (λ n. k ∷ n) (brought-same (crew_within k body) (crew body) k (λ j b. within_same k (suc j) body j b (omega arith)) (body k))

-- one operation more
pub brought_more : (f : ℕ → List ℕ) (k : ℕ) (ops : List Record) (i : ℕ) (d : Record) → i < length ops → (b : Bool) → b ≡ starts k (get_or ops i d)
    → brought f k (drop i ops) ≡ cond b (f (get_or ops i d).first) [] ++ brought f k (drop (i + 1) ops)
brought_more f k ops i d h b e =
    at_drop_more (brought f k) ops i d h ∙ ap (λ v. cond v (f (get_or ops i d).first) [] ++ brought f k (drop (i + 1) ops)) (sym e)

-- a task has no more operations than there are records
pub body_short : (rs : List Record) (tasks : List TaskRow) (k : ℕ) → length (body_of rs tasks k) ≤ length rs
body_short rs tasks k =
    let from = first_operation rs (get_or tasks k no_task) in
    omega (arith, length-take (prefix_len is_operation (drop from rs)) (drop from rs), length-drop from rs)

-- the same in numbers: the threads of a task are one and those that it brings about
pub crew-length : (body : ℕ → List Record) (k : ℕ) → length (crew body k) ≡ 1 + length (brought (crew body) k (body k))
crew-length body k = ap length (crew-rule body k) ∙ omega arith

pub brought-started : (f : ℕ → List ℕ) (k : ℕ) (ops : List Record) (i : ℕ) (d : Record) → i < length ops → true ≡ starts k (get_or ops i d)
    → length (brought f k (drop i ops)) ≡ length (f (get_or ops i d).first) + length (brought f k (drop (i + 1) ops))
brought-started f k ops i d h e = ap length (brought_more f k ops i d h true e) ∙ length-append (f (get_or ops i d).first) (brought f k (drop (i + 1) ops))

pub brought-other : (f : ℕ → List ℕ) (k : ℕ) (ops : List Record) (i : ℕ) (d : Record) → i < length ops → false ≡ starts k (get_or ops i d)
    → length (brought f k (drop i ops)) ≡ length (brought f k (drop (i + 1) ops))
brought-other f k ops i d h e = ap length (brought_more f k ops i d h false e)

pub brought-all : (f : ℕ → List ℕ) (k : ℕ) (ops : List Record) (i : ℕ) → length ops ≤ i → brought f k (drop i ops) ≡ []
brought-all f k ops i h = at_drop_all (brought f k) ops i h

-- one thread more, and all 64: each has at most as many moves as there are records, and one
pub one_more : (n i size k : ℕ) → n ≤ i * (size + 1) → k ≤ size + 1 → n + k ≤ (i + 1) * (size + 1)
one_more n i size k h few = omega (arith, add-mul i 1 (size + 1), one-mul (size + 1))

pub all_more : (i size : ℕ) → i < 64 → (i + 1) * (size + 1) ≤ 64 * (size + 1)
all_more i size h = let under : i + 1 ≤ 64 = omega arith in mul-le-mul_right (size + 1) under
