-- The lookup of a name among rows that have one.
use Rattle.std.specs.Prelude.{ℕ, ◌+◌, Bool, false, cond, List, length, Option, nat_le}
use Rattle.std.specs.Str.{bytes_eq}
use Rattle.text.specs.Text.{part, first_from}

-- whether the place, a start and a length, lies in the text and has the bytes of the name there
abbrev pub named : List ℕ → List ℕ → ℕ × ℕ → Bool
named text name p = cond (nat_le (p.0 + p.1) (length text)) (bytes_eq (part text p.0 p.1) name) false

-- the index of the first of the places that has the name, or none
abbrev pub first_named : List ℕ → List ℕ → List (ℕ × ℕ) → Option ℕ
first_named text name places = first_from 0 (named text name) places
