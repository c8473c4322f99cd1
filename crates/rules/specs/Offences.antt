-- The number of each rule, and an offence as the model says it.
use Rattle.std.specs.Prelude.{ℕ, Some, None, Option}
use Rattle.model.specs.Rules as model
use Rattle.rules.specs.declared.rule.Offence.{Offence}
use Rattle.rules.specs.declared.rule.Rule.{Rule}
use Rattle.rules.specs.declared.rule.Rule.TheVariants.{NoCredit, ReceiveBarred, AcquireBarred, NotHeld, Owing, Holding}

abbrev pub rule_number : Rule → ℕ
rule_number NoCredit = 21
rule_number ReceiveBarred = 22
rule_number AcquireBarred = 23
rule_number NotHeld = 24
rule_number Owing = 25
rule_number Holding = 26

abbrev pub offence_seen : Option Offence → Option model.Offence
offence_seen None = None
offence_seen (Some o) = Some (record { number = rule_number o.rule; object = o.object })
