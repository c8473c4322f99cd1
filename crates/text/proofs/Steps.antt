-- Where a line or a field ends: at the first byte that ends it, or at the end of what is left.
use Rattle.std.proofs.Common.{◌≡◌, Option, ℕ, suc, ◌+◌, ◌-◌, ◌<◌, ◌≤◌, Bool, true, false, cond, List, [], ◌∷◌, length, drop, None, Some, sym, ap, ◌∙◌, arith, refl, eqb, ◌==◌, length-drop, nat_le}
use Rattle.std.specs.Option.{unwrap_or}
use Rattle.std.proofs.lemmas.Bool.{cond-true, cond-false, le-leb, lt-leb, ne_eqb}
use Rattle.std.proofs.lemmas.List.{drop-drop, drop_all}
use Rattle.text.specs.declared.place.Line.{Line}
use Rattle.text.specs.declared.place.Place.{Place}
use Rattle.text.specs.Text.{byte, first_from, cut, split, fields_from, LineAt}

-- A function of a list that counts up to the first element that passes, and there goes on as `stop` does.
module _ {A : Type 0} (p : ℕ → Bool) (walk stop : ℕ → List ℕ → A) (step : (n b : ℕ) (bs : List ℕ) → walk n (b ∷ bs) ≡ cond (p b) (stop n bs) (walk (n + 1) bs)) where
  -- the element that passes, found at k where the list starts at index i
  pub record Stops (n i k : ℕ) (xs : List ℕ) : Type 0 where
    pub below : i ≤ k
    pub inside : k < i + length xs
    pub goes : walk n xs ≡ stop (n + (k - i)) (drop (k - i + 1) xs)

  pub walk_stops : (n i k : ℕ) (xs : List ℕ) → first_from i p xs ≡ Some k → Stops n i k xs
  walk_stops n i k [] e = let z : ◌≡◌ {A = ℕ} 0 1 = cc in absurd (omega arith)
  walk_stops n i k (x ∷ xs) e =
      (elim (p x) as (λ b. (walk n (x ∷ xs) ≡ cond b (stop n xs) (walk (n + 1) xs)) → cond b (Some i) (first_from (i + 1) p xs) ≡ Some k → Stops n i k (x ∷ xs)) [
        | true ↦ λ w f.
            let same : i ≡ k = cc in
            let count : n ≡ n + (k - i) = omega arith in
            let one : 1 ≡ k - i + 1 = omega arith in
            record { below = omega arith; inside = omega arith; goes = w ∙ ap (λ m. stop m xs) count ∙ ap (λ d. stop (n + (k - i)) (drop d (x ∷ xs))) one }
        | false ↦ λ w f.
            let r = walk_stops (n + 1) (i + 1) k xs f in
            let more : suc (k - (i + 1) + 1) ≡ k - i + 1 = omega (arith, r.below) in
            let far : n + 1 + (k - (i + 1)) ≡ n + (k - i) = omega (arith, r.below) in
            record {
              below = omega (arith, r.below);
              inside = omega (arith, r.inside);
              goes = w ∙ r.goes ∙ ap (λ d. stop d (drop (k - (i + 1) + 1) xs)) far ∙ ap (λ d. stop (n + (k - i)) (drop d (x ∷ xs))) more;
            }
      ]) (step n x xs) e

  -- no element passes
  pub walk_ends : (n i : ℕ) (xs : List ℕ) → first_from i p xs ≡ None → walk n xs ≡ walk (n + length xs) []
  walk_ends n i [] e = let all : n ≡ n + length {A = ℕ} [] = omega arith in ap (λ d. walk d []) all
  walk_ends n i (x ∷ xs) e =
      (elim (p x) as (λ b. (walk n (x ∷ xs) ≡ cond b (stop n xs) (walk (n + 1) xs)) → cond b (Some i) (first_from (i + 1) p xs) ≡ None → walk n (x ∷ xs) ≡ walk (n + length (x ∷ xs)) []) [
        | true ↦ λ w f. let z : ◌≡◌ {A = ℕ} 0 1 = cc in absurd (omega arith)
        | false ↦ λ w f.
            let far : n + 1 + length xs ≡ n + length (x ∷ xs) = omega arith in
            w ∙ walk_ends (n + 1) (i + 1) xs f ∙ ap (λ d. walk d []) far
      ]) (step n x xs) e

-- the fields

pub fields_from_open : (base : ℕ) (line : List ℕ) (from : ℕ) → from ≤ length line → fields_from base line from ≡ split (base + from) 0 (drop from line)
fields_from_open base line from h = cond-true _ _ _ (le-leb _ _ h)

pub fields_from-none : (base : ℕ) (line : List ℕ) (from : ℕ) → length line < from → fields_from base line from ≡ []
fields_from-none base line from h = cond-false _ _ _ (lt-leb _ _ h)

-- a line has at most one field more than bytes
split_few : (start size : ℕ) (bs : List ℕ) → length (split start size bs) ≤ length bs + 1
split_few start size [] = omega arith
split_few start size (b ∷ bs) =
    elim (b == byte ",") as (λ t. length (cond t (record { start = start; size = size } ∷ split (start + size + 1) 0 bs) (split start (size + 1) bs)) ≤ length (b ∷ bs) + 1) [
      | true ↦ omega (arith, split_few (start + size + 1) 0 bs)
      | false ↦ omega (arith, split_few start (size + 1) bs)
    ]

pub fields_few : (base : ℕ) (line : List ℕ) (from : ℕ) → length (fields_from base line from) ≤ length line + 1
fields_few base line from =
    elim (nat_le from (length line)) as (λ t. length (cond t (split (base + from) 0 (drop from line)) []) ≤ length line + 1) [
      | true ↦ omega (arith, split_few (base + from) 0 (drop from line), length-drop from line)
      | false ↦ omega arith
    ]

-- A field ends at its comma, or with the line.

abbrev pub open_field : ℕ → ℕ → ℕ → Place
open_field base from size = record { start = base + from; size = size }

pub fields_stops : (base : ℕ) (line : List ℕ) (from size : ℕ) → from ≤ length line → first_from 0 (λ b. b == byte ",") (drop from line) ≡ Some size
    → (fields_from base line from ≡ open_field base from size ∷ fields_from base line (from + size + 1)) × (from + size ≤ length line)
fields_stops base line from size h e =
    let found = walk_stops (λ b. b == byte ",") (split (base + from)) (λ n bs. record { start = base + from; size = n } ∷ split (base + from + n + 1) 0 bs) (λ n b bs. refl) 0 0 size (drop from line) e in
    let n : 0 + (size - 0) ≡ size = omega arith in
    let inside : from + size + 1 ≤ length line = omega (arith, found.inside, length-drop from line) in
    let next : base + from + size + 1 ≡ base + (from + size + 1) = omega arith in
    let far : from + (size - 0 + 1) ≡ from + size + 1 = omega arith in
    let rest : drop (size - 0 + 1) (drop from line) ≡ drop (from + size + 1) line = drop-drop (size - 0 + 1) from line ∙ ap (λ k. drop k line) far in (
      fields_from_open base line from h ∙ found.goes
          ∙ ap (λ k. record { start = base + from; size = k } ∷ split (base + from + k + 1) 0 (drop (size - 0 + 1) (drop from line))) n
          ∙ ap (λ bs. open_field base from size ∷ split (base + from + size + 1) 0 bs) rest
          ∙ ap (λ k. open_field base from size ∷ split k 0 (drop (from + size + 1) line)) next
          ∙ ap (λ fs. open_field base from size ∷ fs) (sym (fields_from_open base line (from + size + 1) inside)),
      omega arith,
    )

pub fields_end : (base : ℕ) (line : List ℕ) (from : ℕ) → from ≤ length line → first_from 0 (λ b. b == byte ",") (drop from line) ≡ None
    → fields_from base line from ≡ open_field base from (length (drop from line)) ∷ fields_from base line (from + length (drop from line) + 1)
fields_end base line from h e =
    let all = walk_ends (λ b. b == byte ",") (split (base + from)) (λ n bs. record { start = base + from; size = n } ∷ split (base + from + n + 1) 0 bs) (λ n b bs. refl) 0 0 (drop from line) e in
    let size : 0 + length (drop from line) ≡ length (drop from line) = omega arith in
    fields_from_open base line from h ∙ all ∙ ap (λ n. split (base + from) n []) size
    ∙ ap (λ fs. open_field base from (length (drop from line)) ∷ fs) (sym (fields_from-none base line (from + length (drop from line) + 1) (omega (arith, length-drop from line))))

-- the first field, from where its end was looked for
pub field_next : (base : ℕ) (line : List ℕ) (from : ℕ) (o : Option ℕ) → from ≤ length line → o ≡ first_from 0 (λ b. b == byte ",") (drop from line)
    → (fields_from base line from ≡ open_field base from (unwrap_or o (length (drop from line))) ∷ fields_from base line (from + unwrap_or o (length (drop from line)) + 1))
    × (from + unwrap_or o (length (drop from line)) ≤ length line)
field_next base line from (Some size) h e = fields_stops base line from size h (sym e)
field_next base line from None h e = (fields_end base line from h (sym e), omega (arith, length-drop from line))

-- A line ends at its byte 10, or with the text.

pub line_stops : (text : List ℕ) (from size : ℕ) → from < length text → first_from 0 (λ b. b == 10) (drop from text) ≡ Some size
    → LineAt text from (record { place = record { start = from; size = size }; ended = true })
line_stops text from size h e =
    let here : ℕ → Line = λ n. record { place = record { start = from; size = n }; ended = true } in
    let found = walk_stops (λ b. b == 10) (cut from) (λ n bs. here n ∷ cut (from + n + 1) 0 bs) (λ n b bs. refl) 0 0 size (drop from text) e in
    let n : 0 + (size - 0) ≡ size = omega arith in
    let far : from + (size - 0 + 1) ≡ from + size + 1 = omega arith in
    let rest : drop (size - 0 + 1) (drop from text) ≡ drop (from + size + 1) text = drop-drop (size - 0 + 1) from text ∙ ap (λ k. drop k text) far in
    record {
      cuts = found.goes
          ∙ ap (λ k. here k ∷ cut (from + k + 1) 0 (drop (size - 0 + 1) (drop from text))) n
          ∙ ap (λ bs. here size ∷ cut (from + size + 1) 0 bs) rest;
      starts = refl;
      begun = h;
      inside = omega (arith, found.inside, length-drop from text);
    }

pub line_end : (text : List ℕ) (from : ℕ) → from < length text → first_from 0 (λ b. b == 10) (drop from text) ≡ None
    → LineAt text from (record { place = record { start = from; size = length (drop from text) }; ended = false })
line_end text from h e =
    let size = length (drop from text) in
    let here : ℕ → Line = λ n. record { place = record { start = from; size = n }; ended = true } in
    let all = walk_ends (λ b. b == 10) (cut from) (λ n bs. here n ∷ cut (from + n + 1) 0 bs) (λ n b bs. refl) 0 0 (drop from text) e in
    let all_of : 0 + size ≡ size = omega arith in
    let some : eqb size 0 ≡ false = ne_eqb _ _ (λ z. omega (arith, length-drop from text)) in
    let last : Line = record { place = record { start = from; size = size }; ended = false } in
    record {
      cuts = all ∙ ap (λ n. cut from n []) all_of ∙ cond-false _ _ _ some
          ∙ ap (λ l. last ∷ l) (sym (ap (cut (from + size + 1) 0) (drop_all (from + size + 1) text (omega (arith, length-drop from text)))));
      starts = refl;
      begun = h;
      inside = omega (arith, length-drop from text);
    }
