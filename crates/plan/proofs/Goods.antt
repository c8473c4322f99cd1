-- What each line reader leaves in its record.
use Rattle.std.proofs.Common.{◌≡◌, ℕ, zero, suc, ◌+◌, ◌-◌, ◌<◌, Bool, true, cond, ◌&&◌, T, eqb, List, [], map, length, get_or, take, ℤ, pos, negsuc, Some, None, Ok, Err, Option, Result, sym, refl, ap, ◌∙◌, subst, arith}
use lib.Signed.{le_z, le_z_yes}
use Rattle.std.specs.Option.{ok_or}
use Rattle.std.specs.Result.{IfOk}
use Rattle.std.proofs.lemmas.Iterator.Adapters.{position_from-zero}
use Rattle.std.proofs.lemmas.Option.{cond_some}
use Rattle.std.proofs.lemmas.Result.{IfOk-at_ok}
use Rattle.std.proofs.lemmas.List.{length-map, length-take-le}
use Rattle.std.proofs.lemmas.Bool.{and_parts, cond_both, eqb-true, ltb-true}
use Rattle.records.specs.declared.fault.Cause.{Cause}
use Rattle.records.specs.declared.fault.Cause.TheVariants.{Form, Unknown}
use Rattle.text.specs.declared.range.Range.{Range}
use Rattle.records.specs.declared.record.Record.{Record}
use Rattle.records.specs.declared.rows.Kind.{Kind}
use Rattle.records.specs.declared.rows.Kind.TheVariants.{Channel, Lock}
use Rattle.records.specs.declared.rows.ObjectRow.{ObjectRow}
use Rattle.records.specs.declared.rows.TaskRow.{TaskRow}
use Rattle.records.specs.Names.{named}
use Rattle.records.specs.Order.{Written}
use Rattle.reader.specs.Lines.{and_then, before, by_letter, counted, is_kind, letter_after, letter_of, level_at, may_follow, name_at, new_count, new_name, new_pair, not_zero, number_at, object_named, object_of, read_carry, read_count, read_header, read_line, read_object, read_send, read_start, read_task, read_use, same_kind, section_of, sound, task_above, task_named, word_at}
use Rattle.reader.specs.Reading.{read_rest}
use Rattle.tasks.specs.Records.{blank, last_letter, no_object, objects_of, tasks_of}
use Rattle.text.specs.declared.place.Line.{Line}
use Rattle.text.specs.declared.place.Place.{Place}
use Rattle.text.specs.Text.{byte, bytes_at, first_from, nowhere, within}
use Rattle.plan.specs.Good.{Between, Good, Uses}
use Rattle.plan.specs.Program.{is_channel}
use Rattle.plan.proofs.Rooms.{all_read, let_through, next_ok, no}

-- what a search finds stands in the list
found_below : {A : Type 0} (p : A → Bool) (xs : List A) (n : ℕ) → first_from 0 p xs ≡ Some n → n < length xs
found_below p xs n e = let found = cond_some _ _ n (position_from-zero p xs ∙ e) in omega (arith, ltb-true _ _ found.0)

kind_same : (a b : Kind) → same_kind a b ≡ true → is_channel a ≡ is_channel b
kind_same Channel Channel e = refl
kind_same Channel Lock e = no e
kind_same Lock Channel e = no e
kind_same Lock Lock e = refl

kind_found : (rows : List ObjectRow) (kind : Kind) (o : Option ℕ) (x : ℕ) → is_kind rows kind o ≡ Ok x → (o ≡ Some x) × (same_kind (get_or rows x no_object).kind kind ≡ true)
kind_found rows kind None x e = cc
kind_found rows kind (Some i) x e =
    let t = let_through (same_kind (get_or rows i no_object).kind kind) i x Unknown e in
    (ap Some t.1, subst (λ y. same_kind (get_or rows y no_object).kind kind ≡ true) t.1 t.0)

option_ok : {A E : Type 0} (o : Option A) (f : E) (x : A) → ok_or o f ≡ Ok x → o ≡ Some x
option_ok None f x e = cc
option_ok (Some y) f x e = cc

between : (low high : ℤ) (o : Option ℤ) (z : ℤ) → within low high o ≡ Some z → Between low high z
between low high None z e = cc
between low high (Some y) z e =
    let c = cond_some (le_z low y && le_z y high) y z e in
    let t = and_parts _ _ c.0 in
    subst (Between low high) c.1 (le_z_yes (subst T (sym t.0) tt), le_z_yes (subst T (sym t.1) tt))

not_zero_lem : (z : ℤ) → not_zero z ≡ Ok tt → z ≡ pos 0 → ⊥
not_zero_lem (pos zero) e h = cc
not_zero_lem (pos (suc m)) e h = cc
not_zero_lem (negsuc m) e h = cc

module _ (o : Written) (text : List ℕ) (rs : List Record) (l : Line) where
  used : (kind : Kind) (p : Place) (x : ℕ) → object_of (before text rs) kind p ≡ Ok x → Uses rs (is_channel kind) x
  used kind p x e =
      let t = kind_found (objects_of rs) kind (object_named (before text rs) p) x e in
      let place : ObjectRow → ℕ × ℕ = λ o. (o.name.start, o.name.size) in
      (omega (arith, found_below (named text (bytes_at text p)) (map place (objects_of rs)) x t.0, length-map (objects_of rs) place), kind_same _ kind t.1)

  above-below : (p : Place) (x : ℕ) → task_above (before text rs) p ≡ Ok x → x < length (tasks_of rs) - 1
  above-below p x e =
      let n = length (tasks_of rs) - 1 in
      let rows = take n (tasks_of rs) in
      let place : TaskRow → ℕ × ℕ = λ t. (t.name.start, t.name.size) in
      let found = found_below (named text (bytes_at text p)) (map place rows) x (option_ok (task_named rows (before text rs) p) Unknown x e) in
      omega (arith, found, length-map rows place, length-take-le n (tasks_of rs) (omega arith))

  number-between : (n : ℕ) (range : Range) (z : ℤ) → number_at text l n range ≡ Ok z → Between range.low range.high z
  number-between n range z e = between range.low range.high _ z (option_ok _ Form z e)

  -- each line by its letter

  abbrev Follows : ℕ → Type 0
  Follows c = may_follow (section_of (last_letter rs)) c ≡ true

  abbrev GivesGood : Result Record Cause → Type 0
  GivesGood v = IfOk v (Good rs)

  -- what holds of all that a chain can give
  step : {A : Type 0} (v : Result A Cause) (f : A → Result Record Cause) → ((x : A) → v ≡ Ok x → GivesGood (f x)) → GivesGood (and_then v f)
  step (Ok x) f h = h x refl
  step (Err c) f h = tt

  header-good : Follows (byte "P") → GivesGood (read_header o (before text rs) l)
  header-good f =
      step (counted text l 2) _ (λ _ _.
      step (word_at text l 1 o.word) _ (λ _ _.
      record { known = refl; follows = f; objects = no; tasks = no; carries = no; counts = no; sends = no; receives = no; locks = no; starts = no }))

  object-good : (c : ℕ) → ((name : Place) (level : ℤ × ℤ) → Good rs (record { letter = c; first = length (objects_of rs); second = 0; number = level.0; extra = level.1; name = name }))
      → GivesGood (read_object o (before text rs) l c)
  object-good c good =
      step (counted text l (2 + o.fields)) _ (λ _ _.
      step (name_at text l 1) _ (λ name _.
      step (level_at o text l) _ (λ level _.
      step (new_name (before text rs) name) _ (λ _ _. good name level))))

  carry_good : Follows (byte "W") → GivesGood (read_carry (before text rs) l)
  carry_good f =
      step (counted text l 4) _ (λ _ _.
      step (name_at text l 1) _ (λ carrier _.
      step (name_at text l 2) _ (λ carried _.
      step (number_at text l 3 (record { low = pos 1; high = pos 100 })) _ (λ count number.
      step (object_of (before text rs) Channel carrier) _ (λ a first.
      step (object_of (before text rs) Channel carried) _ (λ b second.
      step (new_pair (before text rs) a b) _ (λ _ _.
      record { known = refl; follows = f; objects = no; tasks = no; carries = λ _. (used Channel carrier a first, used Channel carried b second, number-between 3 _ count number); counts = no; sends = no; receives = no; locks = no; starts = no })))))))

  task-good : Follows (byte "T") → GivesGood (read_task (before text rs) l)
  task-good f =
      step (counted text l 2) _ (λ _ _.
      step (name_at text l 1) _ (λ name _.
      step (new_name (before text rs) name) _ (λ _ _.
      record { known = refl; follows = f; objects = no; tasks = λ _. refl; carries = no; counts = no; sends = no; receives = no; locks = no; starts = no })))

  count-good : Follows (byte "Q") → GivesGood (read_count (before text rs) l)
  count-good f =
      step (counted text l 3) _ (λ _ _.
      step (name_at text l 1) _ (λ name _.
      step (number_at text l 2 (record { low = negsuc 99; high = pos 100 })) _ (λ count number.
      step (not_zero count) _ (λ _ some.
      step (object_of (before text rs) Channel name) _ (λ c object.
      step (new_count (before text rs) c) _ (λ _ _.
      record { known = refl; follows = f; objects = no; tasks = no; carries = no; counts = λ _. (used Channel name c object, number-between 2 _ count number, not_zero_lem count some); sends = no; receives = no; locks = no; starts = no }))))))

  send-good : Follows (byte "S") → GivesGood (read_send (before text rs) l)
  send-good f =
      step (counted text l 3) _ (λ _ _.
      step (name_at text l 1) _ (λ name _.
      step (number_at text l 2 (record { low = pos 0; high = pos 65535 })) _ (λ word number.
      step (object_of (before text rs) Channel name) _ (λ c object.
      record { known = refl; follows = f; objects = no; tasks = no; carries = no; counts = no; sends = λ _. (used Channel name c object, number-between 2 _ word number); receives = no; locks = no; starts = no }))))

  -- a receive, an acquire or a release
  use-good : (c : ℕ) (kind : Kind) → ((x : ℕ) → Uses rs (is_channel kind) x → Good rs (record { letter = c; first = x; second = 0; number = pos 0; extra = pos 0; name = nowhere }))
      → GivesGood (read_use (before text rs) l c kind)
  use-good c kind good =
      step (counted text l 2) _ (λ _ _.
      step (name_at text l 1) _ (λ name _.
      step (object_of (before text rs) kind name) _ (λ x object. good x (used kind name x object))))

  start-good : Follows (byte "F") → GivesGood (read_start (before text rs) l)
  start-good f =
      step (counted text l 2) _ (λ _ _.
      step (name_at text l 1) _ (λ name _.
      step (task_above (before text rs) name) _ (λ t task.
      record { known = refl; follows = f; objects = no; tasks = no; carries = no; counts = no; sends = no; receives = no; locks = no; starts = λ _. above-below name t task })))

  -- a letter, or the letters after it
  either : (c x : ℕ) (v w : Result Record Cause) → Follows c → (Follows x → GivesGood v) → GivesGood w → GivesGood (cond (eqb c x) v w)
  either c x v w f this other = cond_both (eqb c x) v w GivesGood (λ same. this (subst Follows (eqb-true c x same) f)) (λ _. other)

  letter_good : (c : ℕ) → Follows c → GivesGood (by_letter o c (before text rs) l)
  letter_good c after =
      either c (byte "P") _ _ after header-good
      (either c (byte "C") _ _ after (λ f. object-good (byte "C") (λ _ _. record { known = refl; follows = f; objects = λ _. refl; tasks = no; carries = no; counts = no; sends = no; receives = no; locks = no; starts = no }))
      (either c (byte "K") _ _ after (λ f. object-good (byte "K") (λ _ _. record { known = refl; follows = f; objects = λ _. refl; tasks = no; carries = no; counts = no; sends = no; receives = no; locks = no; starts = no }))
      (either c (byte "W") _ _ after carry_good
      (either c (byte "T") _ _ after task-good
      (either c (byte "Q") _ _ after count-good
      (either c (byte "S") _ _ after send-good
      (either c (byte "R") _ _ after (λ f. use-good (byte "R") Channel (λ x said. record { known = refl; follows = f; objects = no; tasks = no; carries = no; counts = no; sends = no; receives = λ _. said; locks = no; starts = no }))
      (either c (byte "A") _ _ after (λ f. use-good (byte "A") Lock (λ x said. record { known = refl; follows = f; objects = no; tasks = no; carries = no; counts = no; sends = no; receives = no; locks = λ _. said; starts = no }))
      (either c (byte "L") _ _ after (λ f. use-good (byte "L") Lock (λ x said. record { known = refl; follows = f; objects = no; tasks = no; carries = no; counts = no; sends = no; receives = no; locks = λ _. said; starts = no }))
      (either c (byte "F") _ _ after start-good
      tt))))))))))

  -- the record of a line that was read
  line-good : GivesGood (read_line o (before text rs) l)
  line-good =
      step (sound text l) _ (λ _ _.
      step (letter_after text rs l) _ (λ c read.
      let t = let_through (may_follow (section_of (last_letter rs)) (letter_of text l)) (letter_of text l) c _ read in
      letter_good c (subst Follows t.1 t.0)))

-- Each record of a text is good after those before it.
pub all-good : (o : Written) (text : List ℕ) (ls : List Line) (all : List Record) → read_rest o text [] ls ≡ Ok all
    → (i : ℕ) → i < length all → Good (take i all) (get_or all i blank)
all-good o text ls all e i h = all_read o text Good (λ rs l r k. IfOk-at_ok (Good rs) (next_ok o text rs l r k).0 (line-good o text rs l)) ls all e i h
