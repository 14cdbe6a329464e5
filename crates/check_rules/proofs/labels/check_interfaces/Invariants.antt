use Rattle.wit_model.specs.Valid.{labels}
use Rattle.check_rules.proofs.Found.{InterfacesKeep}
use Rattle.check_rules.proofs.labels.check_interfaces.Given as goal

abbrev pub invariant-loop-number : goal.invariant-loop-number
invariant-loop-number l = InterfacesKeep labels l.resolve l.number
