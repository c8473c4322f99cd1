-- What the check of a sheet says of its records.
use Rattle.std.proofs.Common.{◌≡◌, ℕ, ◌+◌, ◌-◌, ◌≤◌, Bool, true, false, cond, leb, List, [], ◌++◌, length, take, replicate, Ok, Err, Result, sym, refl, ap, ◌∙◌, subst, arith, leb-true}
use Rattle.std.proofs.lemmas.List.{append_assoc, length-append, length-replicate, replicate-append-replicate, take_at}
use Rattle.records.specs.declared.fault.ReadFault.{ReadFault}
use Rattle.records.specs.declared.record.Record.{Record}
use Rattle.records.specs.declared.rows.TaskRow.{TaskRow}
use Rattle.reader.specs.Lines.{and_then}
use Rattle.records.specs.Order.{Written}
use Rattle.plan.specs.Plans.{plan_threads, records_in}
use Rattle.reader.specs.Reading.{Shows, ended, few_threads, finished, main_without_counts, others_started, read_rest, reading, sheet_of, some_task}
use Rattle.tasks.specs.Records.{blank, tasks_of}
use Rattle.tasks.specs.Roomy.{Roomy}
use Rattle.text.specs.Text.{lines}
use Rattle.tasks.specs.Threads.{threads_in}
use Rattle.plan.proofs.Blanks.{threads_blanks}
use Rattle.plan.proofs.Rooms.{all-roomy, and_ok, let_through, roomy-blank, roomy-length}

finished-few : (rs : List Record) (tasks : List TaskRow) → finished rs tasks ≡ Ok tt → length (threads_in rs tasks) ≤ 64
finished-few rs tasks e =
    let a = and_ok (some_task tasks) _ tt e in
    let b = and_ok (others_started rs tasks) _ tt a.2 in
    let c = and_ok (main_without_counts rs tasks) _ tt b.2 in
    let d = and_ok (few_threads rs tasks) _ tt c.2 in
    let threads = let_through (leb (length (threads_in rs tasks)) 64) tt d.0 _ d.1 in
    leb-true _ _ threads.0

shows_cond : (b : Bool) (v : Result (List Record) ReadFault) (f : ReadFault) (sheet : List Record) → Shows (cond b v (Err f)) sheet → (b ≡ true) × Shows v sheet
shows_cond true v f sheet s = (refl, s)
shows_cond false v f sheet s = absurd s

shows_step : {A : Type 0} (v : Result A ReadFault) (f : A → Result (List Record) ReadFault) (sheet : List Record) → Shows (and_then v f) sheet → (x : A) × (v ≡ Ok x) × Shows (f x) sheet
shows_step (Ok x) f sheet s = (x, refl, s)
shows_step (Err e) f sheet s = absurd s

ended-shown : (rs sheet : List Record) → Shows (ended rs) sheet → (finished rs (tasks_of rs) ≡ Ok tt) × (sheet ≡ sheet_of (length sheet) rs)
unfolding ended
ended-shown rs sheet s = let t = shows_step (finished rs (tasks_of rs)) (λ _. Ok rs) sheet s in (t.1, t.2)

-- the first 800 records: those of the lines, and blank ones
first-records : (rs sheet : List Record) → length rs ≤ 800 → 800 ≤ length sheet → sheet ≡ sheet_of (length sheet) rs → records_in sheet ≡ rs ++ replicate (800 - length rs) blank
first-records rs sheet few long is =
    let n = length sheet in
    let front = replicate (800 - length rs) blank in
    let parts : n - length rs ≡ (800 - length rs) + (n - 800) = omega arith in
    let size : length (rs ++ front) ≡ 800 = omega (arith, length-append rs front, length-replicate (800 - length rs) blank) in
    ap (take 800)
    (is ∙ ap (λ k. rs ++ replicate k blank) parts ∙ ap (λ xs. rs ++ xs) (sym (replicate-append-replicate (800 - length rs) (n - 800) blank))
    ∙ sym (append_assoc rs front (replicate (n - 800) blank)))
    ∙ take_at (rs ++ front) (replicate (n - 800) blank) 800 size

-- the records of the lines of a text that was read
pub record Lines (o : Written) (text : List ℕ) (sheet : List Record) : Type 0 where
  pub records : List Record
  pub read : read_rest o text [] (lines text) ≡ Ok records
  pub done : finished records (tasks_of records) ≡ Ok tt
  pub few : length records ≤ 800
  pub long : 800 ≤ length sheet
  pub first : records_in sheet ≡ records ++ replicate (800 - length records) blank

pub lines-shown : (o : Written) (text : List ℕ) (sheet : List Record) → Shows (reading o text (length sheet)) sheet → Lines o text sheet
lines-shown o text sheet s =
    let a = shows_cond (leb (length text) 32768) _ _ sheet s in
    let b = shows_cond (leb 800 (length sheet)) _ _ sheet a.1 in
    let long : 800 ≤ length sheet = leb-true _ _ b.0 in
    let c = shows_step (read_rest o text [] (lines text)) ended sheet b.1 in
    let rs : List Record = c.0 in
    let d = ended-shown rs sheet c.2 in
    let few = roomy-length rs (all-roomy o text (lines text) rs c.1) in
    record { records = rs; read = c.1; done = d.0; few = few; long = long; first = first-records rs sheet few long d.1 }

pub record Whole (sheet : List Record) : Type 0 where
  pub long : 800 ≤ length sheet
  pub roomy : Roomy (records_in sheet)
  pub few-threads : length (plan_threads sheet) ≤ 64

pub whole : (o : Written) (text : List ℕ) (sheet : List Record) → Shows (reading o text (length sheet)) sheet → Whole sheet
whole o text sheet s =
    let l = lines-shown o text sheet s in
    let rs = l.records in
    let n : ℕ = 800 - length rs in
    let counts = finished-few rs (tasks_of rs) l.done in
    record {
      long = l.long;
      roomy = subst Roomy (sym l.first) (roomy-blank rs n (all-roomy o text (lines text) rs l.read) (omega (arith, l.few)));
      few-threads = subst (λ xs. length xs ≤ 64) (sym (ap (λ xs. threads_in xs (tasks_of xs)) l.first ∙ threads_blanks rs n)) counts;
    }
