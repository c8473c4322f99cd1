-- What the check of a sheet leaves true of its records, and that it leaves it true in one way.
use Rattle.std.proofs.Common.{◌≡◌, ℕ, ◌+◌, ◌-◌, ◌<◌, ◌≤◌, Bool, true, false, cond, eqb, List, [], ◌∷◌, ◌++◌, length, get_or, take, drop, replicate, ℤ, pos, negsuc, ◌≤ℤ◌, Ok, Err, sym, refl, ap, ◌∙◌, subst, ⊎_elim, arith}
use mathlib.Core.Bool.{Bool-set}
use mathlib.Core.HLevel.{×_prop, ×₃_prop, →_prop, ⊥_prop}
use mathlib.Core.Logic.{∥∥₁_elim}
use native.Mathlib.Bridge.{le_prop}
use native.Mathlib.Nat.{ℕ_set}
use lib.Dec.{T_prop}
use lib.Signed.{le_z}
use Rattle.std.specs.List.{prefix_len}
use Rattle.std.proofs.lemmas.List.{length-take-le}
use Rattle.std.proofs.lemmas.List.Folds.{list_any-append}
use Rattle.std.proofs.lemmas.Bool.{cases_eq, cond_both, eqb-false, eqb-true, or_left}
use Rattle.records.specs.declared.fault.ReadFault.{ReadFault}
use Rattle.records.specs.declared.record.Record.{Record}
use Rattle.records.specs.declared.rows.TaskRow.{TaskRow}
use Rattle.records.specs.Order.{Written}
use Rattle.reader.specs.Lines.{last_task_line}
use Rattle.reader.specs.Reading.{Shows, finished, is_start_of, main_without_counts, others_started, reading, some_task, started_from}
use Rattle.tasks.specs.Records.{blank, is_count, tasks_of}
use Rattle.tasks.specs.Roomy.{Roomy}
use Rattle.text.specs.Text.{lines, some}
use Rattle.plan.specs.Good.{Between, Checked, Good, Uses}
use Rattle.plan.specs.Plans.{WasRead, records_in}
use Rattle.plan.proofs.Blanks.{leading_from, tasks_blanks}
use Rattle.plan.proofs.Goods.{all-good}
use Rattle.plan.proofs.Rooms.{all-roomy, and_ok, let_through, roomy-blank, with_blanks}
use Rattle.plan.proofs.Wholes.{lines-shown}

-- a test that refuses, refuses nothing that went through
held : {A E : Type 0} (b : Bool) (x y : A) (f : E) → cond b (Err f) (Ok x) ≡ Ok y → b ≡ false
held true x y f e = cc
held false x y f e = refl

started-at : (rs : List Record) (m : ℕ) (ts : List TaskRow) (u : Unit {0}) → started_from rs m ts ≡ Ok u → (k : ℕ) → m ≤ k → k < m + length ts → some (is_start_of k) rs ≡ true
started-at rs m [] u e k h l = absurd (omega arith)
started-at rs m (t ∷ ts) u e k h l =
    cond_both (some (is_start_of m) rs) (started_from rs (m + 1) ts) (Err (ReadFault.NeverStarted t.line)) (λ v. v ≡ Ok u → some (is_start_of k) rs ≡ true)
    (λ here rest.
    ⊎_elim
    (λ (same : m ≡ k). subst (λ n. some (is_start_of n) rs ≡ true) same here)
    (λ (other : m ≡ k → ⊥). started-at rs (m + 1) ts u rest k (omega arith) (omega arith))
    (cases_eq m k))
    (λ _ fault. cc) e

-- the records of a text, and any number of blank ones
checked_blanks : (rs : List Record) (n : ℕ) → ((i : ℕ) → i < length rs → Good (take i rs) (get_or rs i blank)) → Roomy rs → length rs + n ≤ 800 → finished rs (tasks_of rs) ≡ Ok tt
    → Checked (rs ++ replicate n blank)
checked_blanks rs n good room few done =
    let tasks : List TaskRow = tasks_of rs in
    let same : tasks_of (rs ++ replicate n blank) ≡ tasks = tasks_blanks 1 rs n in
    let a = and_ok (some_task tasks) _ tt done in
    let b = and_ok (others_started rs tasks) _ tt a.2 in
    let c = and_ok (main_without_counts rs tasks) _ tt b.2 in
    let none = eqb-false (length tasks) 0 (held (eqb (length tasks) 0) tt a.0 _ a.1) in
    let has_task : 0 < length tasks = omega (arith, none) in
    let main = eqb-true _ _ (let_through (eqb (prefix_len is_count (drop (last_task_line tasks) rs)) 0) tt c.0 _ c.1).0 in
    record {
      good = λ i h written. ⊎_elim (λ g. g) (λ is. absurd (written (ap (λ (r : Record). r.letter) is))) (with_blanks Good rs n good i h);
      roomy = roomy-blank rs n room few;
      has_task = omega (arith, has_task, ap length same);
      started = λ k h. list_any-append (is_start_of k) rs (replicate n blank) ∙ or_left _ _
          (started-at rs 0 (take (length tasks - 1) tasks) b.0 b.1 k (omega arith) (omega (arith, h, ap length same, length-take-le (length tasks - 1) tasks (omega arith))));
      main_counts = leading_from is_count refl (last_task_line (tasks_of (rs ++ replicate n blank))) rs n ∙ ap (λ ts. prefix_len is_count (drop (last_task_line ts) rs)) same ∙ main;
    }

checked-shown : (o : Written) (text : List ℕ) (sheet : List Record) → Shows (reading o text (length sheet)) sheet → Checked (records_in sheet)
checked-shown o text sheet s =
    let l = lines-shown o text sheet s in
    let rs = l.records in
    subst Checked (sym l.first)
    (checked_blanks rs (800 - length rs) (all-good o text (lines text) rs l.read) (all-roomy o text (lines text) rs l.read) (omega (arith, l.few)) l.done)

-- in one way

leℤ_prop : (a b : ℤ) → IsProp (a ≤ℤ b)
leℤ_prop a b x y = λ i. record { le = T_prop (le_z a b) x.le y.le i }

between_prop : (low high z : ℤ) → IsProp (Between low high z)
between_prop low high z = ×_prop (leℤ_prop low z) (leℤ_prop z high)

uses-prop : (rs : List Record) (b : Bool) (x : ℕ) → IsProp (Uses rs b x)
uses-prop rs b x = ×_prop le_prop (Bool-set _ _)

good_prop : (rs : List Record) (r : Record) → IsProp (Good rs r)
good_prop rs r x y = λ i. record {
  known = Bool-set _ _ x.known y.known i;
  follows = Bool-set _ _ x.follows y.follows i;
  objects = λ e. ℕ_set _ _ (x.objects e) (y.objects e) i;
  tasks = λ e. ℕ_set _ _ (x.tasks e) (y.tasks e) i;
  carries = λ e. ×₃_prop (uses-prop rs true r.first) (uses-prop rs true r.second) (between_prop (pos 1) (pos 100) r.number) (x.carries e) (y.carries e) i;
  counts = λ e. ×₃_prop (uses-prop rs true r.first) (between_prop (negsuc 99) (pos 100) r.number) (→_prop ⊥_prop) (x.counts e) (y.counts e) i;
  sends = λ e. ×_prop (uses-prop rs true r.first) (between_prop (pos 0) (pos 65535) r.number) (x.sends e) (y.sends e) i;
  receives = λ e. uses-prop rs true r.first (x.receives e) (y.receives e) i;
  locks = λ e. uses-prop rs false r.first (x.locks e) (y.locks e) i;
  starts = λ e. le_prop (x.starts e) (y.starts e) i;
}

checked_prop : (rs : List Record) → IsProp (Checked rs)
checked_prop rs x y = λ i. record {
  good = λ j h w. good_prop (take j rs) (get_or rs j blank) (x.good j h w) (y.good j h w) i;
  roomy = λ j h. Bool-set _ _ (x.roomy j h) (y.roomy j h) i;
  has_task = le_prop x.has_task y.has_task i;
  started = λ k h. Bool-set _ _ (x.started k h) (y.started k h) i;
  main_counts = ℕ_set _ _ x.main_counts y.main_counts i;
}

pub was_checked : (text : List ℕ) (sheet : List Record) → WasRead text sheet → Checked (records_in sheet)
was_checked text sheet w = ∥∥₁_elim w (checked_prop (records_in sheet)) (λ r. checked-shown r.0 text sheet r.3)
