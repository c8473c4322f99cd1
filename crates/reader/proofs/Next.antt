-- One line more of reading.
use Rattle.std.proofs.Common.{◌≡◌, ℕ, ◌+◌, ◌<◌, ◌≤◌, true, false, cond, refl, Result, MatchResult, arith, List, [], ◌∷◌, ◌++◌, length, Ok, Err, ap, ◌∙◌, rules}
use Rattle.std.proofs.lemmas.List.{at_drop_all}
use Rattle.std.proofs.lemmas.Bool.{cond-true, cond-false}
use Rattle.records.specs.declared.fault.Cause.{Cause}
use Rattle.records.specs.declared.fault.Cause.TheVariants.{Full}
use Rattle.records.specs.declared.fault.ReadFault.{ReadFault}
use Rattle.records.specs.declared.fault.ReadFault.TheVariants.{BadLine}
use Rattle.text.specs.declared.place.Line.{Line}
use Rattle.records.specs.declared.record.Record.{Record}
use Rattle.reader.specs.Lines.{and_then, before, read_line}
use Rattle.records.specs.Order.{Written}
use Rattle.reader.specs.Reading.{at_line, placed, read_next, read_rest, roomed}
use Rattle.tasks.specs.Records.{View, has_room, pushed, room_in}
use Rattle.text.specs.Text.{cut, lines_from}

module _ (o : Written) (text : List ℕ) (rs : List Record) (l : Line) where
  pub next_row : (r : Record) → read_line o (before text rs) l ≡ Ok r → has_room rs r ≡ true → read_next o text rs l ≡ Ok r
  unfolding read_next
  next_row r e h = ap (placed rs) e ∙ cond-true _ _ _ h

  pub next-full : (r : Record) → read_line o (before text rs) l ≡ Ok r → has_room rs r ≡ false → read_next o text rs l ≡ Err (BadLine Full (length rs + 1))
  unfolding read_next
  next-full r e h = ap (placed rs) e ∙ cond-false _ _ _ h

  pub next_bad : (cause : Cause) → read_line o (before text rs) l ≡ Err cause → read_next o text rs l ≡ Err (BadLine cause (length rs + 1))
  unfolding read_next
  next_bad cause e = ap (placed rs) e

-- the lines: `ls` are those from this line on, and `after` those after it

module _ (o : Written) (text : List ℕ) (rs : List Record) (l : Line) (ls after : List Line) (cuts : ls ≡ l ∷ after) where
  pub rest_more : (r : Record) → read_next o text rs l ≡ Ok r → read_rest o text rs ls ≡ read_rest o text (rs ++ r ∷ []) after
  rest_more r e = ap (read_rest o text rs) cuts ∙ ap (λ x. and_then x (λ y. read_rest o text (rs ++ y ∷ []) after)) e

  pub rest-fault : (f : ReadFault) → read_next o text rs l ≡ Err f → read_rest o text rs ls ≡ Err f
  rest-fault f e = ap (read_rest o text rs) cuts ∙ ap (λ x. and_then x (λ y. read_rest o text (rs ++ y ∷ []) after)) e

pub rest_all : (o : Written) (text : List ℕ) (rs : List Record) (from : ℕ) → length text ≤ from → read_rest o text rs (lines_from text from) ≡ Ok rs
rest_all o text rs from h = ap (read_rest o text rs) (at_drop_all (cut from 0) text from h)

pub room-length : (rs : List Record) (r : Record) → has_room rs r ≡ true → length rs < 800
room-length rs r h = search rules

-- the fault of a line is the cause that it was refused for, with the number of the line
pub placed_same : (rs : List Record) (x : Result Record Cause) → placed rs x ≡ at_line (length rs + 1) (roomed rs x)
placed_same rs (Err cause) = refl
placed_same rs (Ok r) =
    elim (has_room rs r) as (λ b. cond b (Ok r) (Err (BadLine Full (length rs + 1))) ≡ at_line (length rs + 1) (cond b (Ok r) (Err Full)))
    [ true ↦ refl | false ↦ refl ]

pub line_given : (x : Result Record Cause) (y : Result Record ReadFault) (n : ℕ) → MatchResult x (λ r. y ≡ Ok r) (λ cause. y ≡ Err (BadLine cause n)) → y ≡ at_line n x
line_given (Ok r) y n e = e
line_given (Err cause) y n e = e

-- a record that was taken up is in the lists
pub took_up : (v after : View) (r : Record) → ◌≡◌ {A = Result (Unit {0}) Cause} (Ok tt) (cond (room_in v r) (Ok tt) (Err Full)) → after ≡ cond (room_in v r) (pushed v r) v → after ≡ pushed v r
took_up v after r =
    elim (room_in v r) as (λ b. ◌≡◌ {A = Result (Unit {0}) Cause} (Ok tt) (cond b (Ok tt) (Err Full)) → after ≡ cond b (pushed v r) v → after ≡ pushed v r) [
      | true ↦ λ e same. same
      | false ↦ λ e same. let z : ◌≡◌ {A = ℕ} 0 1 = cc in absurd (omega arith)
    ]
