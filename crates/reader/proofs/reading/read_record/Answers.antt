use Rattle.std.proofs.Common.{sym, ap, ◌∙◌}
use Rattle.tasks.specs.Records.{pushed}
use Rattle.tasks.proofs.Pushed.{view_push}
use Rattle.reader.proofs.Next.{took_up}
use Rattle.reader.proofs.reading.read_record.Goals as goal

pub returns-clause-listed : goal.returns-clause-listed
returns-clause-listed g c =
    took_up _ _ c.in_ok-row.row c.in_ok-push.ensures.room c.in_ok-push.ensures.after ∙ ap (λ v. pushed v c.in_ok-row.row) c.requires ∙ sym (view_push c.args.records.now c.in_ok-row.row)
