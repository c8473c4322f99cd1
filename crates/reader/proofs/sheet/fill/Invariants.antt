use Rattle.std.proofs.Common.{◌≡◌, ◌-◌, [], length, take, drop, replicate}
use Rattle.tasks.specs.Records.{blank, view_of}
use Rattle.text.specs.Left.{lines_left}
use Rattle.text.specs.Text.{lines}
use Rattle.reader.specs.Reading.{read_rest}
use Rattle.reader.proofs.sheet.fill.Given as goal

-- the first records of the sheet and the lines that are left give the answer; the other records are blank
abbrev pub invariant-loop-line : goal.invariant-loop-line
invariant-loop-line g l =
    (length l.sheet ≡ length l.initial.sheet)
    × (read_rest g.O.WrittenOrder.written l.text [] (lines l.text) ≡ read_rest g.O.WrittenOrder.written l.text (take l.lists.lines l.sheet) (lines_left l.line-iterator))
    × (l.lists ≡ view_of (take l.lists.lines l.sheet))
    × (drop l.lists.lines l.sheet ≡ replicate (length l.initial.sheet - l.lists.lines) blank)
