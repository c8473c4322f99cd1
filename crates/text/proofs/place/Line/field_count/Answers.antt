use Rattle.std.proofs.Common.{rules}
use Rattle.text.proofs.Steps.{fields_few}
use Rattle.text.proofs.place.Line.field_count.Goals as goal

pub count-requires-clause-fits : goal.count-requires-clause-fits
count-requires-clause-fits c =
    let few = fields_few c.fields.result.base c.fields.result.line.now c.fields.result.from in
    search rules
