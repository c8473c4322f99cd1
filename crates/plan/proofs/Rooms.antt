-- Every record that was read had room, so the limits hold of the records of a text.
use Rattle.std.proofs.Common.{◌≡◌, ℕ, ◌+◌, ◌-◌, ◌<◌, ◌≤◌, Bool, true, false, cond, List, [], ◌∷◌, ◌++◌, length, get_or, take, replicate, Ok, Err, Result, sym, refl, ap, ◌∙◌, subst, ◌⊎◌, inl, inr, ⊎_elim, arith}
use Rattle.std.proofs.lemmas.List.{append_assoc, get_or_append_left, get_or-append_right, get_or_at, get_or-replicate, length-append, length_push, length-replicate, length-take-le, take-append-le, take_at}
use Rattle.std.proofs.lemmas.Bool.{and_from, cases_lt, lt-ltb}
use Rattle.records.specs.declared.fault.Cause.{Cause}
use Rattle.text.specs.declared.place.Line.{Line}
use Rattle.records.specs.declared.record.Record.{Record}
use Rattle.reader.specs.Lines.{and_then, before, read_line}
use Rattle.records.specs.Order.{Written}
use Rattle.reader.specs.Reading.{placed, read_next, read_rest}
use Rattle.tasks.specs.Records.{blank, has_room}
use Rattle.tasks.specs.Roomy.{Roomy}
use Rattle.reader.proofs.Next.{room-length}
use Rattle.reader.proofs.Sheets.{extends}

pub no : {A : Type 0} → false ≡ true → A
no e = cc

-- what a test lets through, it lets through because it holds
pub let_through : {A E : Type 0} (b : Bool) (x y : A) (f : E) → cond b (Ok x) (Err f) ≡ Ok y → (b ≡ true) × (x ≡ y)
let_through true x y f e = (refl, cc)
let_through false x y f e = cc

-- the steps of a chain that went through
pub and_ok : {A B E : Type 0} (v : Result A E) (f : A → Result B E) (y : B) → and_then v f ≡ Ok y → (x : A) × (v ≡ Ok x) × (f x ≡ Ok y)
and_ok (Ok x) f y e = (x, refl, e)
and_ok (Err c) f y e = cc

-- a record that was taken up was read, and had room
placed_ok : (rs : List Record) (v : Result Record Cause) (r : Record) → placed rs v ≡ Ok r → (v ≡ Ok r) × (has_room rs r ≡ true)
placed_ok rs (Err c) r e = cc
placed_ok rs (Ok x) r e = let p = let_through (has_room rs x) x r _ e in (ap Ok p.1, subst (λ y. has_room rs y ≡ true) p.1 p.0)

pub next_ok : (o : Written) (text : List ℕ) (rs : List Record) (l : Line) (r : Record) → read_next o text rs l ≡ Ok r → (read_line o (before text rs) l ≡ Ok r) × (has_room rs r ≡ true)
unfolding read_next
next_ok o text rs l r e = placed_ok rs (read_line o (before text rs) l) r e

-- the record after `rs` stands after them in all records
stands_here : (P : List Record → Record → Type 0) (all rs : List Record) (r : Record) (more : List Record) → all ≡ (rs ++ r ∷ []) ++ more → P rs r → P (take (length rs) all) (get_or all (length rs) blank)
stands_here P all rs r more is h =
    subst (λ xs. P (take (length rs) xs) (get_or xs (length rs) blank)) (sym (is ∙ append_assoc rs (r ∷ []) more))
    (subst (λ xs. P xs (get_or (rs ++ r ∷ more) (length rs) blank)) (sym (take_at rs (r ∷ more) (length rs) refl))
    (subst (P rs) (sym (get_or_at rs r more blank (length rs) refl)) h))

-- what every record has that was read after others, the records of a text have, each after those before it
module _ (o : Written) (text : List ℕ) (P : List Record → Record → Type 0) (each : (rs : List Record) (l : Line) (r : Record) → read_next o text rs l ≡ Ok r → P rs r) where
  from-here : (ls : List Line) (rs all : List Record) → read_rest o text rs ls ≡ Ok all → (i : ℕ) → length rs ≤ i → i < length all → P (take i all) (get_or all i blank)
  from-here [] rs all e i h k = let same : all ≡ rs = cc in absurd (omega (arith, ap length same))
  from-here (l ∷ ls) rs all e i h k =
      let a = and_ok (read_next o text rs l) _ all e in
      ⊎_elim
      (λ (later : length rs < i). from-here ls (rs ++ a.0 ∷ []) all a.2 i (omega (arith, length_push rs a.0)) k)
      (λ (first : i ≤ length rs).
      let same : length rs ≡ i = omega arith in
      let t = extends o text ls (rs ++ a.0 ∷ []) all a.2 in
      subst (λ n. P (take n all) (get_or all n blank)) same (stands_here P all rs a.0 t.0 t.1 (each rs l a.0 a.1)))
      (cases_lt (length rs) i)

  pub all_read : (ls : List Line) (all : List Record) → read_rest o text [] ls ≡ Ok all → (i : ℕ) → i < length all → P (take i all) (get_or all i blank)
  all_read ls all e i h = from-here ls [] all e i (omega arith) h

-- the records of a text
pub all-roomy : (o : Written) (text : List ℕ) (ls : List Line) (all : List Record) → read_rest o text [] ls ≡ Ok all → Roomy all
all-roomy o text ls all e i h = all_read o text (λ rs r. has_room rs r ≡ true) (λ rs l r k. (next_ok o text rs l r k).1) ls all e i h

-- there are at most 800
pub roomy-length : (rs : List Record) → Roomy rs → length rs ≤ 800
roomy-length rs h =
    ⊎_elim
    (λ (more : 800 < length rs). absurd (omega (arith, room-length (take 800 rs) (get_or rs 800 blank) (h 800 more), length-take-le 800 rs (omega arith))))
    (λ (few : length rs ≤ 800). few)
    (cases_lt 800 (length rs))

-- where blank records stand after those of a text, what each of these has it has there too
pub with_blanks : (P : List Record → Record → Type 0) (rs : List Record) (n : ℕ) → ((i : ℕ) → i < length rs → P (take i rs) (get_or rs i blank))
    → (i : ℕ) → i < length (rs ++ replicate n blank) → P (take i (rs ++ replicate n blank)) (get_or (rs ++ replicate n blank) i blank) ⊎ (get_or (rs ++ replicate n blank) i blank ≡ blank)
with_blanks P rs n each i h =
    ⊎_elim
    (λ (here : i < length rs).
    inl (subst (λ xs. P xs (get_or (rs ++ replicate n blank) i blank)) (sym (take-append-le i rs (replicate n blank) (omega arith)))
    (subst (P (take i rs)) (sym (get_or_append_left rs (replicate n blank) blank i here)) (each i here))))
    (λ (past : length rs ≤ i).
    inr (get_or-append_right rs (replicate n blank) (length rs) i blank refl past
    ∙ get_or-replicate n (i - length rs) blank blank (omega (arith, length-append rs (replicate n blank), length-replicate n blank))))
    (cases_lt i (length rs))

-- blank records after the records of a text have room too, up to 800 in all
pub roomy-blank : (rs : List Record) (n : ℕ) → Roomy rs → length rs + n ≤ 800 → Roomy (rs ++ replicate n blank)
roomy-blank rs n h few i k =
    let xs = take i (rs ++ replicate n blank) in
    let short : length xs < 800 = omega (arith, length-take-le i (rs ++ replicate n blank) (omega arith), length-append rs (replicate n blank), length-replicate n blank) in
    ⊎_elim (λ room. room)
    (λ is. subst (λ r. has_room xs r ≡ true) (sym is) (and_from _ _ (lt-ltb _ _ short) refl))
    (with_blanks (λ before r. has_room before r ≡ true) rs n h i k)
