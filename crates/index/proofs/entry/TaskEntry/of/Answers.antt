use Rattle.std.proofs.Common.{◌≡◌, drop, ap, ◌∙◌, rules}
use Rattle.std.specs.List.{prefix_len}
use Rattle.std.proofs.lemmas.List.{length-drop}
use Rattle.std.proofs.lemmas.List.Sums.{prefix_len-le-length}
use Rattle.tasks.specs.Records.{is_count}
use Rattle.index.proofs.entry.TaskEntry.of.Goals as goal

-- the Q lines end where the records end, and past the records there are none
pub overflow_add-result : goal.overflow_add-result
overflow_add-result c =
    let rs = c.args.records.now in
    let line = c.args.task.line in
    let few = prefix_len-le-length is_count (drop line rs) in
    let size = length-drop line rs in
    let same : c.leading_counts-counts.result ≡ prefix_len is_count (drop line rs) = c.leading_counts-counts.ensures ∙ ap (prefix_len is_count) c.rest-after.ensures in
    search rules
