use Rattle.std.proofs.Common.{length, ap, arith}
use Rattle.tasks.specs.Fronts.{front_length}
use Rattle.tasks.proofs.Fronts.{front_more}
use Rattle.tasks.proofs.table.Threads.push.Goals as goal

pub invariant_of-self : goal.invariant_of-self
invariant_of-self c =
    let i = c.self.inside.count in
    let xs = c.self.inside.tasks in
    let size = front_length 64 0 i xs c.self.invariant in
    front_more 64 0 i xs c.args.task (omega (arith, c.requires, ap length c.self.view_is, size)) c.self.invariant
