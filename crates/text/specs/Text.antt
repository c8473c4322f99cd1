-- The text layer: bytes, lines, fields, names and numbers. Every definition computes.
use Rattle.std.specs.Prelude.{◌≡◌, ℕ, zero, suc, ◌+◌, ◌-◌, ◌*◌, ◌<◌, ◌≤◌, min, Bool, true, false, cond, not, ◌&&◌, ◌||◌, List, [], ◌∷◌, length, take, drop, ℤ, pos, negsuc, Some, None, codes, fold, Option, ◌==◌, int_le, nat_eq, nat_le, slice_index}
use Rattle.std.specs.List.{list_all, list_any, position_from}
use Prim.Native.String.{String}
use Rattle.text.specs.declared.bytes.Class.{Class}
use Rattle.text.specs.declared.bytes.Class.TheVariants.{Digit, Letter, Legal}
use Rattle.text.specs.declared.place.Line.{Line}
use Rattle.text.specs.declared.place.Place.{Place}

-- Bytes

-- the number of a character, given as a text of one
abbrev pub byte : String → ℕ
byte c = slice_index (codes c) 0

abbrev pub is_digit : ℕ → Bool
is_digit b = nat_le (byte "0") b && nat_le b (byte "9")

abbrev pub is_capital : ℕ → Bool
is_capital b = nat_le (byte "A") b && nat_le b (byte "Z")

-- the bytes of a name
abbrev pub is_letter : ℕ → Bool
is_letter b = is_capital b || is_digit b

-- the bytes of a line: those of a name, comma and minus
abbrev pub is_legal : ℕ → Bool
is_legal b = is_letter b || (b == (byte ",") || b == (byte "-"))

abbrev pub belongs : Class → ℕ → Bool
belongs Digit b = is_digit b
belongs Letter b = is_letter b
belongs Legal b = is_legal b

-- whether every element passes, and whether some element does
abbrev pub every : {A : Type 0} → (A → Bool) → List A → Bool
every p xs = list_all p xs

abbrev pub some : {A : Type 0} → (A → Bool) → List A → Bool
some p xs = list_any p xs

-- the index, counted from i, of the first element that passes
abbrev pub first_from : {A : Type 0} → ℕ → (A → Bool) → List A → Option ℕ
first_from i p xs = position_from p i xs

-- whether the number is among those of the list
abbrev pub one_of : ℕ → List ℕ → Bool
one_of c cs = some (nat_eq c) cs

-- Lines

-- the part of a list that begins at `start` and has `size` elements
abbrev pub part : {A : Type 0} → List A → ℕ → ℕ → List A
part xs start size = take size (drop start xs)

-- The lines of the rest of a text, where the line that stands open began at `start` and has `size` bytes so far.
-- Byte 10 ends a line and is not counted; a text that ends in byte 10 ends there.
abbrev pub cut : ℕ → ℕ → List ℕ → List Line
cut start size [] = cond (size == 0) [] (record { place = record { start = start; size = size }; ended = false } ∷ [])
cut start size (b ∷ bs) =
    let after = cut (start + size + 1) 0 bs in
    cond (b == 10) (record { place = record { start = start; size = size }; ended = true } ∷ after) (cut start (size + 1) bs)

-- the lines from a place on, and all lines
abbrev pub lines_from : List ℕ → ℕ → List Line
lines_from text from = cut from 0 (drop from text)

abbrev pub lines : List ℕ → List Line
lines text = lines_from text 0

-- the first line from a place on: the others follow its byte 10, and it lies in the text
pub record LineAt (text : List ℕ) (from : ℕ) (l : Line) : Type 0 where
  pub cuts : lines_from text from ≡ l ∷ lines_from text (l.place.start + l.place.size + 1)
  pub starts : l.place.start ≡ from
  pub begun : from < length text
  pub inside : l.place.start + l.place.size ≤ length text

-- Fields

-- the fields of the rest of a line, where the field that stands open began at `start` and has `size` bytes so far
abbrev pub split : ℕ → ℕ → List ℕ → List Place
split start size [] = record { start = start; size = size } ∷ []
split start size (b ∷ bs) =
    let after = split (start + size + 1) 0 bs in
    cond (b == (byte ",")) (record { start = start; size = size } ∷ after) (split start (size + 1) bs)

-- the fields from a place of the line on, for a line that begins at `base`; past the end of the line there is none
abbrev pub fields_from : ℕ → List ℕ → ℕ → List Place
fields_from base line from = cond (nat_le from (length line)) (split (base + from) 0 (drop from line)) []

-- the bytes at a place
abbrev pub bytes_at : List ℕ → Place → List ℕ
bytes_at text p = part text p.start p.size

-- the fields of a line
abbrev pub fields : List ℕ → Line → List Place
fields text l = fields_from l.place.start (bytes_at text l.place) 0

abbrev pub nowhere : Place
nowhere = record { start = 0; size = 0 }

-- Names

-- 1 to 12 bytes from A to Z and 0 to 9
abbrev pub is_name : List ℕ → Bool
is_name f = (nat_le 1 (length f) && nat_le (length f) 12) && every is_letter f

-- Numbers

-- the number that digits write
abbrev pub value_of : List ℕ → ℕ
value_of ds = fold (λ n d. n * 10 + (d - 48)) 0 ds

abbrev pub is_empty : {A : Type 0} → List A → Bool
is_empty [] = true
is_empty (x ∷ xs) = false

-- digits without a leading zero
abbrev pub is_natural : List ℕ → Bool
is_natural [] = false
is_natural (d ∷ ds) = every is_digit (d ∷ ds) && (not (d == (byte "0")) || is_empty ds)

abbrev pub natural : List ℕ → Option ℕ
natural f = cond (is_natural f) (Some (value_of f)) None

abbrev pub above : Option ℕ → Option ℤ
above None = None
above (Some n) = Some (pos n)

abbrev pub below : Option ℕ → Option ℤ
below None = None
below (Some zero) = None
below (Some (suc n)) = Some (negsuc n)

-- the number that a field writes, of any length: a minus stands only below zero
abbrev pub number : List ℕ → Option ℤ
number [] = None
number (c ∷ cs) = cond (c == (byte "-")) (below (natural cs)) (above (natural (c ∷ cs)))

abbrev pub within : ℤ → ℤ → Option ℤ → Option ℤ
within low high None = None
within low high (Some z) = cond (int_le low z && int_le z high) (Some z) None

-- the number that a field writes, if it is in the range
abbrev pub number_in : ℤ → ℤ → List ℕ → Option ℤ
number_in low high f = within low high (number f)

-- Words of inner functions

-- a number above every `i32`: a number that was cut down to it is out of every range
abbrev pub enough : ℕ
enough = 1099511627776

abbrev pub capped : Option ℕ → Option ℕ
capped None = None
capped (Some n) = Some (min n enough)
