use Rattle.plan.proofs.Meanings.{meaning_of}
use Rattle.plan.proofs.plan.Plan.meaning.Goals as goal

pub returns : goal.returns
returns g c = let p = c.args.self.now in meaning_of g.O.WaitOrder.made p.text.now p.sheet.now p.read
