-- What a sheet holds on the way through the lines, and when reading gives exactly this sheet.
use Rattle.std.proofs.Common.{◌≡◌, ℕ, suc, ap₂, ◌+◌, ◌-◌, ◌<◌, ◌≤◌, Bool, true, false, List, [], ◌∷◌, ◌++◌, length, get_or, take, drop, set, replicate, is_ok, Ok, Err, Decides, Result, sym, refl, ap, ◌∙◌, subst, arith}
use Rattle.std.proofs.lemmas.List.{append-nil, append_assoc, drop_at, drop-drop, drop-replicate, drop-set-lt, get_or_at, get_or-replicate, length-drop, length-take-le, take-append-drop}
use Rattle.std.specs.Bool.{MatchBool}
use Rattle.std.specs.List.{AllWithin, HoldsAt}
use Rattle.std.proofs.lemmas.Bool.{false≢true}
use Rattle.std.proofs.lemmas.Bool.Decides.{Decides-like}
use Rattle.records.specs.declared.fault.ReadFault.{ReadFault}
use Rattle.text.specs.declared.place.Line.{Line}
use Rattle.records.specs.declared.record.Record.{Record}
use Rattle.reader.specs.Lines.{and_then}
use Rattle.records.specs.Order.{Written}
use Rattle.reader.specs.Reading.{Shows, ended, finished, read_lines, read_next, read_rest, sheet_of, verdict}
use Rattle.tasks.specs.Records.{blank, tasks_of}
use Rattle.text.specs.Text.{lines}

-- the sheet: `count` records, then blank ones

module _ (sheet : List Record) (count room : ℕ) (blanks : drop count sheet ≡ replicate (room - count) blank) where
  pub blank_more : (r : Record) → drop (count + 1) (set sheet count r) ≡ replicate (room - (count + 1)) blank
  blank_more r =
      let less : room - count - 1 ≡ room - (count + 1) = omega arith in
      drop-set-lt (count + 1) sheet count r (omega arith) ∙ sym (drop-drop 1 count sheet) ∙ ap (drop 1) blanks
      ∙ drop-replicate 1 (room - count) blank ∙ ap (λ n. replicate n blank) less

  pub sheet_is : count ≤ length sheet → sheet ≡ sheet_of room (take count sheet)
  sheet_is h =
      sym (take-append-drop count sheet) ∙ ap (λ xs. take count sheet ++ xs) blanks
      ∙ ap (λ n. take count sheet ++ replicate (room - n) blank) (sym (length-take-le count sheet h))

-- the first records, as `&sheet[0..count]` has them
pub front-is : (sheet : List Record) (count : ℕ) → take (count - 0) sheet ≡ take count sheet
front-is sheet count = ap (λ n. take n sheet) (omega arith)

pub not_ok : {A E : Type 0} (r : Result A E) (e : E) → r ≡ Err e → is_ok r ≡ true → ⊥
not_ok r e p q = let z : ◌≡◌ {A = Bool} false true = sym (ap is_ok p) ∙ q in false≢true z

-- after all lines

pub lines-fault : (o : Written) (text : List ℕ) (f : ReadFault) → read_rest o text [] (lines text) ≡ Err f → read_lines o text ≡ Err f
lines-fault o text f e = ap (λ v. and_then v ended) e

pub lines-ended : (o : Written) (text : List ℕ) (rs : List Record) → read_rest o text [] (lines text) ≡ Ok rs → read_lines o text ≡ ended rs
lines-ended o text rs e = ap (λ v. and_then v ended) e

pub verdict-ended : (rs : List Record) (v : Result (Unit {0}) ReadFault) → v ≡ finished rs (tasks_of rs) → verdict (ended rs) ≡ v
unfolding ended
verdict-ended rs v e = ap (λ w. verdict (and_then w (λ _. Ok rs))) (sym e) ∙ same v
  where
    same : (w : Result (Unit {0}) ReadFault) → verdict (and_then w (λ _. Ok rs)) ≡ w
    same (Ok x) = refl
    same (Err f) = refl

pub ended_ok : (rs : List Record) (v : Result (Unit {0}) ReadFault) → v ≡ finished rs (tasks_of rs) → is_ok v ≡ true → ended rs ≡ Ok rs
unfolding ended
ended_ok rs v e = λ ok. ap (λ w. and_then w (λ _. Ok rs)) (sym e) ∙ when_ok v ok
  where
    when_ok : (w : Result (Unit {0}) ReadFault) → is_ok w ≡ true → and_then w (λ _. Ok rs) ≡ Ok rs
    when_ok (Ok x) h = refl
    when_ok (Err f) h = absurd (false≢true h)

pub ended-fault : (rs : List Record) (v : Result (Unit {0}) ReadFault) (sheet : List Record) → v ≡ finished rs (tasks_of rs) → is_ok v ≡ false → Shows (ended rs) sheet → ⊥
unfolding ended
ended-fault rs v sheet e bad s = when_fault v bad (subst (λ w. Shows (and_then w (λ _. Ok rs)) sheet) (sym e) s)
  where
    when_fault : (w : Result (Unit {0}) ReadFault) → is_ok w ≡ false → Shows (and_then w (λ _. Ok rs)) sheet → ⊥
    when_fault (Ok x) h t = false≢true (sym h)
    when_fault (Err f) h t = t

-- what was read stays at the front

pub extends : (o : Written) (text : List ℕ) (ls : List Line) (rs all : List Record) → read_rest o text rs ls ≡ Ok all → (more : List Record) × (all ≡ rs ++ more)
extends o text [] rs all e = let same : all ≡ rs = cc in ([], same ∙ sym (append-nil rs))
extends o text (l ∷ ls) rs all e =
    (elim (read_next o text rs l) as (λ x. and_then x (λ r. read_rest o text (rs ++ r ∷ []) ls) ≡ Ok all → (more : List Record) × (all ≡ rs ++ more)) [
      | Ok r ↦ λ h. let t = extends o text ls (rs ++ r ∷ []) all h in (r ∷ t.0, t.1 ∙ append_assoc rs (r ∷ []) t.0)
      | Err f ↦ λ h. let z : ◌≡◌ {A = ℕ} 0 1 = cc in absurd (omega arith)
    ]) e

-- what `ended` gives is what it was given
pub ended_same : (rs all : List Record) → ended rs ≡ Ok all → all ≡ rs
unfolding ended
ended_same rs all e = given (finished rs (tasks_of rs)) e
  where
    given : (w : Result (Unit {0}) ReadFault) → and_then w (λ _. Ok rs) ≡ Ok all → all ≡ rs
    given (Ok x) h = cc
    given (Err f) h = let z : ◌≡◌ {A = ℕ} 0 1 = cc in absurd (omega arith)

pub both_extend : (o : Written) (text : List ℕ) (ls : List Line) (rs all : List Record) → and_then (read_rest o text rs ls) ended ≡ Ok all → (more : List Record) × (all ≡ rs ++ more)
both_extend o text ls rs all e = go (read_rest o text rs ls) refl e
  where
    go : (v : Result (List Record) ReadFault) → read_rest o text rs ls ≡ v → and_then v ended ≡ Ok all → (more : List Record) × (all ≡ rs ++ more)
    go (Ok mid) r h = let same = ended_same mid all h in extends o text ls rs all (r ∙ ap Ok (sym same))
    go (Err f) r h = let z : ◌≡◌ {A = ℕ} 0 1 = cc in absurd (omega arith)

-- so a sheet that is shown has the record that was read here
pub shown-here : (o : Written) (text : List ℕ) (ls : List Line) (rs : List Record) (r d : Record) (sheet : List Record) (v : Result (List Record) ReadFault)
    → and_then (read_rest o text (rs ++ r ∷ []) ls) ended ≡ v → Shows v sheet → get_or sheet (length rs) d ≡ r
shown-here o text ls rs r d sheet (Err f) e s = absurd s
shown-here o text ls rs r d sheet (Ok all) e s =
    let t = both_extend o text ls (rs ++ r ∷ []) all e in
    let blanks = replicate (length sheet - length all) blank in
    ap (λ xs. get_or xs (length rs) d) (s ∙ ap (λ xs. xs ++ blanks) (t.1 ∙ append_assoc rs (r ∷ []) t.0) ∙ append_assoc rs (r ∷ t.0) blanks)
    ∙ get_or_at rs r (t.0 ++ blanks) d (length rs) refl

-- at the end of the text the rest of the sheet decides: `rows` is `&sheet[count..]`
pub decides_rest : (sheet rows : List Record) (count : ℕ) (r : Bool) (v : Result (List Record) ReadFault) → count ≤ length sheet → v ≡ Ok (take count sheet) → rows ≡ drop count sheet
    → Decides r (rows ≡ replicate (length rows) blank) → Decides r (Shows v sheet)
decides_rest sheet rows count r v h e is d =
    let size : length rows ≡ length sheet - count = ap length is ∙ length-drop count sheet in
    let front = length-take-le count sheet h in
    subst (λ w. Decides r (Shows w sheet)) (sym e)
    (Decides-like r
    (λ b. sheet_is sheet count (length sheet) (sym is ∙ b ∙ ap (λ n. replicate n blank) size) h)
    (λ s. is ∙ ap (drop count) s ∙ drop_at (take count sheet) _ count front ∙ ap (λ n. replicate n blank) (omega (arith, front, size)))
    d)

-- the blank rows

pub blank-here : (rows : List Record) (i : ℕ) (d : Record) → i < length rows → rows ≡ replicate (length rows) blank → get_or rows i d ≡ blank
blank-here rows i d h e = ap (λ xs. get_or xs i d) e ∙ get_or-replicate (length rows) i blank d h

-- a test that came out false decides what does not hold
pub decides_no : {P : Type 0} → (P → ⊥) → Decides false P
decides_no h = (λ e. absurd (false≢true e), λ p. absurd (h p))

blanks_only : (rows : List Record) → AllWithin (λ r. r ≡ blank) rows 0 (length rows) → rows ≡ replicate (length rows) blank
blanks_only [] h = refl
blanks_only (r ∷ rows) h = ap₂ ◌∷◌ (h 0 r (omega arith) (omega arith)) (blanks_only rows (λ k d a b. h (suc k) d (omega arith) (omega arith)))

-- a test of every record, whether it is blank
pub all_blank : (rows : List Record) (b : Bool)
    → MatchBool b (AllWithin (λ r. r ≡ blank) rows 0 (length rows)) ((k : ℕ) × (k < length rows) × HoldsAt (λ r. r ≡ blank → ⊥) rows k)
    → Decides b (rows ≡ replicate (length rows) blank)
all_blank rows true h = (λ _. blanks_only rows h, λ _. refl)
all_blank rows false h = decides_no (λ e. h.2 blank (blank-here rows h.0 blank h.1 e))

pub fault_shows : (v : Result (List Record) ReadFault) (f : ReadFault) (sheet : List Record) → v ≡ Err f → Shows v sheet → ⊥
fault_shows v f sheet e s = subst (λ w. Shows w sheet) e s
