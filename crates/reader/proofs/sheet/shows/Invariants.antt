use Rattle.std.proofs.Common.{◌≡◌, [], take}
use Rattle.tasks.specs.Records.{view_of}
use Rattle.text.specs.Left.{lines_left}
use Rattle.text.specs.Text.{lines}
use Rattle.reader.specs.Reading.{read_rest}
use Rattle.reader.proofs.sheet.shows.Given as goal

-- the first records of the sheet and the lines that are left give the answer
abbrev pub invariant-loop-line : goal.invariant-loop-line
invariant-loop-line g l =
    (read_rest g.O.WrittenOrder.written l.text [] (lines l.text) ≡ read_rest g.O.WrittenOrder.written l.text (take l.lists.lines l.sheet) (lines_left l.line-iterator))
    × (l.lists ≡ view_of (take l.lists.lines l.sheet))
