-- What an iterator over a text has still to give.
use Rattle.std.specs.Prelude.{List}
use Rattle.text.specs.declared.fields.Fields.{Fields}
use Rattle.text.specs.declared.lines.Lines.{Lines}
use Rattle.text.specs.declared.place.Line.{Line}
use Rattle.text.specs.declared.place.Place.{Place}
use Rattle.text.specs.Text.{fields_from, lines_from}

abbrev pub lines_left : Lines → List Line
lines_left l = lines_from l.text.now l.from

abbrev pub fields_left : Fields → List Place
fields_left f = fields_from f.base f.line.now f.from
