use Rattle.wit_model.specs.Valid.{depths}
use Rattle.check_rules.proofs.Found.{InterfacesKeep}
use Rattle.check_rules.proofs.levels.check_interfaces.Given as goal

abbrev pub invariant-loop-number : goal.invariant-loop-number
invariant-loop-number l = InterfacesKeep depths l.resolve l.number
