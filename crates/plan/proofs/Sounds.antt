-- The program that checked records mean is sound, and within the limits of a text.
use Rattle.std.proofs.Common.{◌≡◌, ℕ, zero, suc, ◌-◌, ◌<◌, true, false, T, eqb, List, [], ◌∷◌, map, length, get_or, take, drop, ℤ, sym, refl, ap, ◌∙◌, subst, arith}
use Rattle.std.proofs.lemmas.List.{get_or_default}
use Rattle.std.proofs.lemmas.List.Folds.{Any-from_list_any}
use Rattle.std.proofs.lemmas.Bool.{and_parts, eqb-true}
use Rattle.model.specs.Program.{Op, Within, operation, start, step_at}
use Rattle.model.specs.Threads.{Sound}
use Rattle.records.specs.declared.record.Record.{Record}
use Rattle.reader.specs.Reading.{is_start_of}
use Rattle.tasks.specs.Records.{blank, is_operation, is_start, no_object, no_task, objects_of, tasks_of}
use Rattle.tasks.specs.Threads.{body_of}
use Rattle.text.specs.Text.{byte}
use Rattle.plan.specs.Good.{Checked, Good, Uses}
use Rattle.index.specs.Amounts.{counted_on}
use Rattle.plan.specs.Program.{is_channel, op_of, program_of}
use Rattle.plan.proofs.Bodies.{body_length, few_objects, stands, uses_whole}
use Rattle.plan.proofs.Sections.{each_operation, operation_no_blank, operation-place, with_letter}

-- the steps of a list of operation records

pub step_from : (xs : List Record) (p : ℕ) (o : Op ℕ) → step_at (map op_of xs) p ≡ operation o → (p < length xs) × (op_of (get_or xs p blank) ≡ o)
step_from [] p o e = cc
step_from (x ∷ xs) zero o e = (omega arith, cc)
step_from (x ∷ xs) (suc p) o e = let r = step_from xs p o e in (omega (arith, r.0), r.1)

pub step-here : (xs : List Record) (p : ℕ) → p < length xs → step_at (map op_of xs) p ≡ operation (op_of (get_or xs p blank))
step-here [] p h = absurd (omega arith)
step-here (x ∷ xs) zero h = refl
step-here (x ∷ xs) (suc p) h = step-here xs p (omega arith)

start-operation : (r : Record) → is_start r ≡ true → is_operation r ≡ true
start-operation r e = with_letter (λ x. is_operation x ≡ true) r (byte "F") refl e

start-op : (r : Record) → is_start r ≡ true → op_of r ≡ start r.first
start-op r e = with_letter (λ x. op_of x ≡ start x.first) r (byte "F") refl e

module _ (rs : List Record) (C : Checked rs) where
  pub good-operation : (i : ℕ) → i < length rs → is_operation (get_or rs i blank) ≡ true → Good (take i rs) (get_or rs i blank)
  good-operation i h e = C.good i h (operation_no_blank (get_or rs i blank) e)

  -- a start of a task names a task above it
  pub start-above : (k p : ℕ) → k < length (tasks_of rs) → p < length (body_of rs (tasks_of rs) k)
      → (is_operation (get_or (body_of rs (tasks_of rs) k) p blank) ≡ true) × (is_start (get_or (body_of rs (tasks_of rs) k) p blank) ≡ true → (get_or (body_of rs (tasks_of rs) k) p blank).first < k)
  start-above k p h l =
      let s = stands rs k p h l in
      let here : (is_operation (get_or rs s.at blank) ≡ true) × (is_start (get_or rs s.at blank) ≡ true → (get_or rs s.at blank).first < k) =
      (s.operation, λ f. omega (arith, (good-operation s.at s.inside s.operation).starts f, s.tasks)) in
      subst (λ (r : Record). (is_operation r ≡ true) × (is_start r ≡ true → r.first < k)) (sym s.is) here

  -- an operation stands among those of a task
  operation-at : (i : ℕ) (x : Record) (v : Op ℕ) → i < length rs → get_or rs i blank ≡ x → is_operation x ≡ true → op_of x ≡ v
      → (k : ℕ) × (p : ℕ) × (k < length (tasks_of rs)) × (step_at (map op_of (body_of rs (tasks_of rs) k)) p ≡ operation v)
  operation-at i x v h is e means =
      let o = operation-place rs C.good i h (ap is_operation is ∙ e) in
      let body = body_of rs (tasks_of rs) o.0 in
      let under : o.1 < length body = omega (arith, o.3, body_length rs o.0) in
      let s = stands rs o.0 o.1 o.2 under in
      (o.0, o.1, o.2, step-here body o.1 under ∙ ap operation (ap op_of (s.is ∙ ap (λ n. get_or rs n blank) (s.place ∙ o.4) ∙ is) ∙ means))

  module _ {Level : Type 0} (made : ℤ → ℤ → Level) where
    falls : (i p k : ℕ) → i < length (tasks_of rs) → step_at (map op_of (body_of rs (tasks_of rs) i)) p ≡ operation (start k) → k < i
    falls i p k h e =
        let s = step_from (body_of rs (tasks_of rs) i) p (start k) e in
        let r = get_or (body_of rs (tasks_of rs) i) p blank in
        let a = start-above i p h s.0 in
        each_operation (λ x. op_of x ≡ start k → (is_start x ≡ true → x.first < i) → k < i) r
        (λ f _. cc, (λ f _. cc, (λ f _. cc, (λ f _. cc, (λ f below. let same : r.first ≡ k = cc in omega (arith, below refl, same), tt)))))
        a.0 s.1 a.1

    named : (k : ℕ) → suc k < length (tasks_of rs) → (i : ℕ) × (p : ℕ) × (i < length (tasks_of rs)) × (step_at (map op_of (body_of rs (tasks_of rs) i)) p ≡ operation (start k))
    named k h =
        let f = Any-from_list_any (is_start_of k) rs (C.started k (omega arith)) in
        let t = and_parts (is_start f.1) (eqb f.1.first k) f.4 in
        operation-at f.0 f.1 (start k) f.2 (get_or_default rs f.0 blank f.1 f.2 ∙ f.3) (start-operation f.1 t.0) (start-op f.1 t.0 ∙ ap start (eqb-true f.1.first k t.1))

    within : (i p : ℕ) (o : Op ℕ) → i < length (tasks_of rs) → step_at (map op_of (body_of rs (tasks_of rs) i)) p ≡ operation o → Within (program_of made rs) o
    within i p o h e =
        let st = step_from (body_of rs (tasks_of rs) i) p o e in
        let s = stands rs i p h st.0 in
        let r = get_or rs s.at blank in
        let channel : Uses (take s.at rs) true r.first → (r.first < length (objects_of rs)) × T (is_channel (get_or (objects_of rs) r.first no_object).kind) =
        λ u. let w = uses_whole rs s.at true r.first u in (w.0, subst T (sym w.1) tt) in
        let lock : Uses (take s.at rs) false r.first → r.first < length (objects_of rs) = λ u. (uses_whole rs s.at false r.first u).0 in
        let here : Within (program_of made rs) (op_of r) =
        each_operation (λ x. Good (take s.at rs) x → Within (program_of made rs) (op_of x)) r
        (λ g. channel (g.sends refl).0, (λ g. channel (g.receives refl), (λ g. lock (g.locks refl), (λ g. lock (g.locks refl), (λ g. tt, tt)))))
        s.operation (good-operation s.at s.inside s.operation) in
        subst (Within (program_of made rs)) (ap op_of (sym s.is) ∙ st.1) here

    pub sound_program : Sound (program_of made rs)
    sound_program = record {
      has_task = C.has_task;
      falls = falls;
      named = named;
      main_opening = λ x. ap (λ n. counted_on (take n (drop (get_or (tasks_of rs) (length (tasks_of rs) - 1) no_task).line rs)) x) C.main_counts;
      within = within;
      few_objects = few_objects rs C.roomy;
    }
