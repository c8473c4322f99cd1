-- The faults of clearing, as the model says them.
use Rattle.std.specs.Prelude.{Some, None, Ok, Err, Option, Result}
use Rattle.records.specs.declared.fault.Layer.{Layer}
use Rattle.records.specs.declared.fault.Layer.TheVariants.{Clearing}
use Rattle.rules.specs.Offences.{rule_number}
use Rattle.clearer.specs.declared.fault.ClearFault.{ClearFault}
use Rattle.clearer.specs.Breach.{Breach}

-- the number of a fault, its line and its object
abbrev pub breach_seen : ClearFault → Breach
breach_seen f = record { number = rule_number f.rule; line = f.line; object = f.object }

-- the breach that an answer of the clearer names; none where it is Ok
abbrev pub verdict_of : Result (Unit {0}) ClearFault → Option Breach
verdict_of (Ok x) = None
verdict_of (Err f) = Some (breach_seen f)

abbrev pub layer_of : ClearFault → Layer
layer_of f = Clearing
