use Rattle.std.proofs.Common.{rules}
use Rattle.model.specs.Program.{same}
use Rattle.model.proofs.rule_examples.Goals as goal

pub returns : goal.returns
unfolding same
returns c = search rules
