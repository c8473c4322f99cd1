-- What a line means, from the records so far. Each step gives what it found or a cause, and the first cause is the line's:
-- the steps of a line stand in the order of the numbers of their causes.
use Rattle.std.specs.Prelude.{ℕ, zero, suc, ◌+◌, ◌-◌, Bool, true, false, cond, ◌&&◌, ◌||◌, List, [], ◌∷◌, map, length, get_or, take, drop, ℤ, pos, negsuc, is_some, Some, None, Ok, Err, codes, Option, Result, ◌==◌, nat_le, slice_index_or}
use Rattle.std.specs.Option.{ok_or}
use Rattle.std.specs.Str.{bytes_eq}
use Rattle.records.specs.declared.fault.Cause.{Cause}
use Rattle.records.specs.declared.fault.Cause.TheVariants.{Bytes, Letter, Count, Form, Declared, Unknown, Twice}
use Rattle.reader.specs.declared.known.Known.{Known}
use Rattle.text.specs.declared.place.Line.{Line}
use Rattle.text.specs.declared.place.Place.{Place}
use Rattle.text.specs.declared.range.Range.{Range}
use Rattle.records.specs.declared.record.Record.{Record}
use Rattle.records.specs.declared.rows.Kind.{Kind}
use Rattle.records.specs.declared.rows.Kind.TheVariants.{Channel, Lock}
use Rattle.records.specs.declared.rows.ObjectRow.{ObjectRow}
use Rattle.records.specs.declared.rows.TaskRow.{TaskRow}
use Rattle.reader.specs.declared.section.Section.{Section}
use Rattle.reader.specs.declared.section.Section.TheVariants.{Nothing, Header, Objects, Carries, Task, Counts, Operations}
use Rattle.records.specs.Names.{first_named}
use Rattle.records.specs.Order.{Written}
use Rattle.tasks.specs.Records.{is_count, last_letter, no_object, no_task, objects_of, tasks_of}
use Rattle.text.specs.Text.{byte, bytes_at, every, fields, is_legal, is_name, lines, nowhere, number_in, one_of, some}

abbrev pub and_then : {A B E : Type 0} → Result A E → (A → Result B E) → Result B E
and_then (Ok x) f = f x
and_then (Err e) f = Err e

-- What a line is read against: the text, the records of the lines before it, and the objects and tasks that these declare.
pub record Before : Type 0 where
  pub text : List ℕ
  pub records : List Record
  pub objects : List ObjectRow
  pub tasks : List TaskRow

abbrev pub before : List ℕ → List Record → Before
before text rs = record { text = text; records = rs; objects = objects_of rs; tasks = tasks_of rs }

-- the same, as the reader holds it
abbrev pub held : Known → Before
held k = record { text = k.text.now; records = k.records.now; objects = k.lists.now.objects; tasks = k.lists.now.tasks }

-- the bytes of the field with this number, from 0
abbrev pub field_bytes : List ℕ → Line → ℕ → List ℕ
field_bytes text l n = bytes_at text (slice_index_or (fields text l) n nowhere)

-- 3: ended by byte 10, not too long, and of legal bytes
abbrev pub sound : List ℕ → Line → Result (Unit {0}) Cause
sound text l = cond (l.ended && (nat_le l.place.size 40 && every is_legal (bytes_at text l.place))) (Ok tt) (Err Bytes)

-- 4: the first field is one known letter, and the line stands in its section

-- the letter of a line: its first field, if that is one byte, else 0
abbrev pub single : List ℕ → ℕ
single [] = 0
single (b ∷ []) = b
single (b ∷ c ∷ bs) = 0

abbrev pub letter_of : List ℕ → Line → ℕ
letter_of text l = single (field_bytes text l 0)

-- the section in which a record of this letter stands
abbrev pub section_of : ℕ → Section
section_of c =
    cond (c == (byte "P")) Header
    (cond (one_of c (codes "CK")) Objects
    (cond (c == (byte "W")) Carries
    (cond (c == (byte "T")) Task
    (cond (c == (byte "Q")) Counts
    (cond (one_of c (codes "SRALF")) Operations
    Nothing)))))

-- the letters that may come after a section
abbrev pub may_follow : Section → ℕ → Bool
may_follow Nothing c = c == (byte "P")
may_follow Header c = one_of c (codes "CKWT")
may_follow Objects c = one_of c (codes "CKWT")
may_follow Carries c = one_of c (codes "WT")
may_follow Task c = one_of c (codes "TQSRALF")
may_follow Counts c = one_of c (codes "TQSRALF")
may_follow Operations c = one_of c (codes "TSRALF")

abbrev pub letter_after : List ℕ → List Record → Line → Result ℕ Cause
letter_after text rs l = cond (may_follow (section_of (last_letter rs)) (letter_of text l)) (Ok (letter_of text l)) (Err Letter)

-- 5: so many fields
abbrev pub counted : List ℕ → Line → ℕ → Result (Unit {0}) Cause
counted text l n = cond (length (fields text l) == n) (Ok tt) (Err Count)

-- 6: the field is a name, a number in the range, the wanted word, not zero
abbrev pub name_at : List ℕ → Line → ℕ → Result Place Cause
name_at text l n = cond (is_name (field_bytes text l n)) (Ok (slice_index_or (fields text l) n nowhere)) (Err Form)

abbrev pub number_at : List ℕ → Line → ℕ → Range → Result ℤ Cause
number_at text l n range = ok_or (number_in range.low range.high (field_bytes text l n)) Form

abbrev pub word_at : List ℕ → Line → ℕ → List ℕ → Result (Unit {0}) Cause
word_at text l n word = cond (bytes_eq (field_bytes text l n) word) (Ok tt) (Err Form)

abbrev pub not_zero : ℤ → Result (Unit {0}) Cause
not_zero (pos zero) = Err Form
not_zero (pos (suc n)) = Ok tt
not_zero (negsuc n) = Ok tt

-- the two numbers of a level, from field 2 on; the second is 0 where the order has one field
abbrev pub second_at : Written → List ℕ → Line → Result ℤ Cause
second_at o text l = cond (o.fields == 2) (number_at text l 3 o.second) (Ok (pos 0))

abbrev pub level_at : Written → List ℕ → Line → Result (ℤ × ℤ) Cause
level_at o text l =
    and_then (number_at text l 2 o.first) (λ number.
    and_then (second_at o text l) (λ extra.
    Ok (number, extra)))

-- 7: no object and no task has the name
abbrev pub object_named : Before → Place → Option ℕ
object_named k p = first_named k.text (bytes_at k.text p) (map (λ o. (o.name.start, o.name.size)) k.objects)

abbrev pub task_named : List TaskRow → Before → Place → Option ℕ
task_named rows k p = first_named k.text (bytes_at k.text p) (map (λ t. (t.name.start, t.name.size)) rows)

abbrev pub new_name : Before → Place → Result (Unit {0}) Cause
new_name k p = cond (is_some (object_named k p) || is_some (task_named k.tasks k p)) (Err Declared) (Ok tt)

-- 8: an object of the kind has the name, a task above the last one has it
abbrev pub same_kind : Kind → Kind → Bool
same_kind Channel Channel = true
same_kind Channel Lock = false
same_kind Lock Channel = false
same_kind Lock Lock = true

abbrev pub is_kind : List ObjectRow → Kind → Option ℕ → Result ℕ Cause
is_kind rows kind None = Err Unknown
is_kind rows kind (Some i) = cond (same_kind (get_or rows i no_object).kind kind) (Ok i) (Err Unknown)

abbrev pub object_of : Before → Kind → Place → Result ℕ Cause
object_of k kind p = is_kind k.objects kind (object_named k p)

abbrev pub task_above : Before → Place → Result ℕ Cause
task_above k p = ok_or (task_named (take (length k.tasks - 1) k.tasks) k p) Unknown

-- 9: no W line has the pair, no Q line of the open task has the channel
abbrev pub is_pair : ℕ → ℕ → Record → Bool
is_pair a b r = r.letter == (byte "W") && (r.first == a && r.second == b)

abbrev pub new_pair : Before → ℕ → ℕ → Result (Unit {0}) Cause
new_pair k a b = cond (some (is_pair a b) k.records) (Err Twice) (Ok tt)

abbrev pub is_count_of : ℕ → Record → Bool
is_count_of c r = is_count r && r.first == c

-- the line of the last task, 0 where there is none
abbrev pub last_task_line : List TaskRow → ℕ
last_task_line tasks = (get_or tasks (length tasks - 1) no_task).line

-- the records after the last T line
abbrev pub since_task : Before → List Record
since_task k = drop (last_task_line k.tasks) k.records

abbrev pub new_count : Before → ℕ → Result (Unit {0}) Cause
new_count k c = cond (some (is_count_of c) (since_task k)) (Err Twice) (Ok tt)

-- The lines by their letters.

abbrev pub read_header : Written → Before → Line → Result Record Cause
read_header o k l =
    and_then (counted k.text l 2) (λ _.
    and_then (word_at k.text l 1 o.word) (λ _.
    Ok (record { letter = byte "P"; first = 0; second = 0; number = pos 0; extra = pos 0; name = nowhere })))

-- a channel or a lock
abbrev pub read_object : Written → Before → Line → ℕ → Result Record Cause
read_object o k l letter =
    and_then (counted k.text l (2 + o.fields)) (λ _.
    and_then (name_at k.text l 1) (λ name.
    and_then (level_at o k.text l) (λ level.
    and_then (new_name k name) (λ _.
    Ok (record { letter = letter; first = length k.objects; second = 0; number = level.0; extra = level.1; name = name })))))

-- what each message on a channel carries
abbrev pub read_carry : Before → Line → Result Record Cause
read_carry k l =
    and_then (counted k.text l 4) (λ _.
    and_then (name_at k.text l 1) (λ carrier.
    and_then (name_at k.text l 2) (λ carried.
    and_then (number_at k.text l 3 (record { low = pos 1; high = pos 100 })) (λ count.
    and_then (object_of k Channel carrier) (λ a.
    and_then (object_of k Channel carried) (λ b.
    and_then (new_pair k a b) (λ _.
    Ok (record { letter = byte "W"; first = a; second = b; number = count; extra = pos 0; name = nowhere }))))))))

abbrev pub read_task : Before → Line → Result Record Cause
read_task k l =
    and_then (counted k.text l 2) (λ _.
    and_then (name_at k.text l 1) (λ name.
    and_then (new_name k name) (λ _.
    Ok (record { letter = byte "T"; first = length k.tasks; second = 0; number = pos 0; extra = pos 0; name = name }))))

-- what a task starts with on a channel
abbrev pub read_count : Before → Line → Result Record Cause
read_count k l =
    and_then (counted k.text l 3) (λ _.
    and_then (name_at k.text l 1) (λ name.
    and_then (number_at k.text l 2 (record { low = negsuc 99; high = pos 100 })) (λ count.
    and_then (not_zero count) (λ _.
    and_then (object_of k Channel name) (λ c.
    and_then (new_count k c) (λ _.
    Ok (record { letter = byte "Q"; first = c; second = 0; number = count; extra = pos 0; name = nowhere })))))))

abbrev pub read_send : Before → Line → Result Record Cause
read_send k l =
    and_then (counted k.text l 3) (λ _.
    and_then (name_at k.text l 1) (λ name.
    and_then (number_at k.text l 2 (record { low = pos 0; high = pos 65535 })) (λ word.
    and_then (object_of k Channel name) (λ c.
    Ok (record { letter = byte "S"; first = c; second = 0; number = word; extra = pos 0; name = nowhere })))))

-- receive, acquire and release name an object of a kind
abbrev pub read_use : Before → Line → ℕ → Kind → Result Record Cause
read_use k l letter kind =
    and_then (counted k.text l 2) (λ _.
    and_then (name_at k.text l 1) (λ name.
    and_then (object_of k kind name) (λ x.
    Ok (record { letter = letter; first = x; second = 0; number = pos 0; extra = pos 0; name = nowhere }))))

abbrev pub read_start : Before → Line → Result Record Cause
read_start k l =
    and_then (counted k.text l 2) (λ _.
    and_then (name_at k.text l 1) (λ name.
    and_then (task_above k name) (λ t.
    Ok (record { letter = byte "F"; first = t; second = 0; number = pos 0; extra = pos 0; name = nowhere }))))

abbrev pub by_letter : Written → ℕ → Before → Line → Result Record Cause
by_letter o c k l =
    cond (c == (byte "P")) (read_header o k l)
    (cond (c == (byte "C")) (read_object o k l (byte "C"))
    (cond (c == (byte "K")) (read_object o k l (byte "K"))
    (cond (c == (byte "W")) (read_carry k l)
    (cond (c == (byte "T")) (read_task k l)
    (cond (c == (byte "Q")) (read_count k l)
    (cond (c == (byte "S")) (read_send k l)
    (cond (c == (byte "R")) (read_use k l (byte "R") Channel)
    (cond (c == (byte "A")) (read_use k l (byte "A") Lock)
    (cond (c == (byte "L")) (read_use k l (byte "L") Lock)
    (cond (c == (byte "F")) (read_start k l)
    (Err Letter)))))))))))

-- the record of a line, or the first of the causes 3 to 9
abbrev pub read_line : Written → Before → Line → Result Record Cause
read_line o k l =
    and_then (sound k.text l) (λ _.
    and_then (letter_after k.text k.records l) (λ c.
    by_letter o c k l))

-- The order of a text: whether field 2 of line 1 is this word

abbrev pub word_is : List ℕ → List ℕ → List Line → Bool
word_is word text [] = false
word_is word text (l ∷ ls) = bytes_eq (field_bytes text l 1) word

abbrev pub header_is : List ℕ → List ℕ → Bool
header_is word text = word_is word text (lines text)
