-- The threads, moves and sends that are counted from the records are those of the program that they mean.
use Rattle.std.proofs.Common.{◌≡◌, ℕ, zero, suc, ◌+◌, ◌<◌, Bool, true, false, cond, eqb, List, [], ◌∷◌, ◌++◌, map, length, get_or, ℤ, sum_by, count_by, sym, refl, ap, ◌∙◌, ap₂, arith}
use Rattle.std.proofs.lemmas.List.{length-map}
use Rattle.std.proofs.lemmas.List.Recursion.{is_sum_by}
use Rattle.std.proofs.lemmas.List.Sums.{sum_by-cons}
use Rattle.std.proofs.lemmas.Bool.{cond-true, lt-ltb}
use Rattle.model.specs.Program.{Program, acquire, after, send_weight, moves, receive, release, send, sends, start, tally}
use Rattle.model.specs.Threads.{Sound, Threads, at_start, by_thread, forest, main, tree, weight}
use Rattle.model.proofs.Plans.{known, thread-laws}
use Rattle.model.proofs.Tables.{total, total-tree}
use Rattle.records.specs.declared.record.Record.{Record}
use Rattle.tasks.specs.Records.{blank, is_operation, is_send, is_start, tasks_of}
use Rattle.tasks.specs.Threads.{body_of, brought, crew, moves_in, moves_of, sends_in, sends_of, starts, threads_in}
use Rattle.tasks.proofs.Crews.{crew-rule}
use Rattle.text.specs.Text.{byte}
use Rattle.plan.specs.Good.{Checked, is_receive}
use Rattle.index.specs.Amounts.{natural}
use Rattle.plan.specs.Program.{op_of, program_of}
use Rattle.plan.proofs.Sections.{each_operation}
use Rattle.plan.proofs.Sounds.{sound_program, start-above}

module _ (f g : ℕ → List ℕ) (k : ℕ) where
  -- an operation that is no start brings about nothing
  brought-one : (r : Record) → is_operation r ≡ true → (is_start r ≡ true → (r.first < k) × (f r.first ≡ g r.first)) → cond (starts k r) (f r.first) [] ≡ at_start [] g (op_of r)
  brought-one r o s =
      each_operation (λ x. (is_start x ≡ true → (x.first < k) × (f x.first ≡ g x.first)) → cond (starts k x) (f x.first) [] ≡ at_start [] g (op_of x)) r
      (λ _. refl, (λ _. refl, (λ _. refl, (λ _. refl, (λ h. cond-true _ _ _ (lt-ltb _ _ (h refl).0) ∙ (h refl).1, tt))))) o s

  brought-forest : (xs : List Record) → ((i : ℕ) → i < length xs → (is_operation (get_or xs i blank) ≡ true) × (is_start (get_or xs i blank) ≡ true → ((get_or xs i blank).first < k) × (f (get_or xs i blank).first ≡ g (get_or xs i blank).first)))
      → brought f k xs ≡ forest g (map op_of xs)
  brought-forest [] h = refl
  brought-forest (r ∷ xs) h = ap₂ ◌++◌ (brought-one r (h 0 (omega arith)).0 (h 0 (omega arith)).1) (brought-forest xs (λ i l. h (suc i) (omega arith)))

-- sums over a list
sum_by_total : (f w : ℕ → ℕ) → ((k : ℕ) → f k ≡ w k) → (xs : List ℕ) → sum_by f xs ≡ total w xs
sum_by_total f w e xs = sym (is_sum_by (total w) f refl (λ x is. ap (λ n. n + total w is) (sym (e x))) xs)

send-op : (r : Record) → send_weight (op_of r) ≡ cond (is_send r) 1 0
send-op r = go (is_send r) (is_receive r) (eqb r.letter (byte "A")) (eqb r.letter (byte "L"))
  where
    go : (s v a l : Bool) → send_weight (cond s (send r.first (natural r.number)) (cond v (receive r.first) (cond a (acquire r.first) (cond l (release r.first) (start r.first))))) ≡ cond s 1 0
    go true v a l = refl
    go false true a l = refl
    go false false true l = refl
    go false false false true = refl
    go false false false false = refl

tally-from : (xs : List Record) (n : ℕ) → after (λ o k. k + send_weight o) (map op_of xs) (length (map op_of xs)) n ≡ n + count_by is_send xs
tally-from [] n = omega arith
tally-from (r ∷ xs) n = omega (arith, tally-from xs (n + send_weight (op_of r)), send-op r, sum_by-cons (λ x. cond (is_send x) 1 0) r xs)

module _ {Level : Type 0} (made : ℤ → ℤ → Level) (rs : List Record) (C : Checked rs) where
  abbrev P : Program Level ℕ
  P = program_of made rs

  S : Sound P
  S = sound_program rs C made

  laws : Threads P
  laws = thread-laws P S

  agree : (levels k : ℕ) → k < levels → k < length (tasks_of rs) → crew (body_of rs (tasks_of rs)) k ≡ tree P k
  agree zero k l h = absurd (omega arith)
  agree (suc d) k l h =
      let body : ℕ → List Record = body_of rs (tasks_of rs) in
      crew-rule body k
      ∙ ap (λ ts. k ∷ ts) (brought-forest (crew body) (tree P) k (body k) (λ i m.
      let a = start-above rs C k i h m in
      (a.0, λ e. let less : (get_or (body k) i blank).first < k = a.1 e in (less, agree d (get_or (body k) i blank).first (omega arith) (omega arith)))))
      ∙ sym (laws.tree_of k h)

  main-below : main P < length (tasks_of rs)
  main-below = omega (arith, C.has_task)

  pub threads-agree : threads_in rs (tasks_of rs) ≡ tree P (main P)
  threads-agree = agree (length (tasks_of rs)) (main P) main-below main-below

  summed : (f w : ℕ → ℕ) → ((k : ℕ) → f k ≡ w k) → sum_by f (threads_in rs (tasks_of rs)) ≡ weight P w (main P)
  summed f w e = ap (sum_by f) threads-agree ∙ sum_by_total f w e (tree P (main P)) ∙ total-tree P (known P S) w (main P) main-below

  pub moves-agree : moves_in rs (tasks_of rs) ≡ moves (by_thread P)
  moves-agree =
      summed (moves_of rs (tasks_of rs)) (λ k. suc (length (P.ops k))) (λ k. omega (arith, length-map (body_of rs (tasks_of rs) k) op_of)) ∙ sym laws.move_count

  pub sends-agree : sends_in rs (tasks_of rs) ≡ sends (by_thread P)
  sends-agree =
      summed (sends_of rs (tasks_of rs)) (λ k. tally send_weight (P.ops k) (length (P.ops k))) (λ k. omega (arith, tally-from (body_of rs (tasks_of rs) k) 0)) ∙ sym laws.send_count
