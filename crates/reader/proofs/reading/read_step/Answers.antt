use Rattle.std.proofs.Common.{sym, ap, ◌∙◌, ◌+◌, length, rules}
use Rattle.reader.proofs.Next.{line_given, placed_same}
use Rattle.reader.specs.Lines.{before, read_line}
use Rattle.reader.specs.Reading.{at_line, read_next}
use Rattle.reader.proofs.reading.read_step.Goals as goal

pub returns-clause-read : goal.returns-clause-read
unfolding read_next
returns-clause-read g c =
    let rs = c.args.records.now in
    line_given c.read_record.result c.map_err.result (length rs + 1) (search rules)
    ∙ ap (at_line (length rs + 1)) c.read_record.ensures.read
    ∙ sym (placed_same rs (read_line g.O.WrittenOrder.written (before c.args.text.now rs) c.args.line))
