use Rattle.wit_model.specs.Checks.{listings}
use Rattle.check_rules.proofs.Found.{InterfacesKeep}
use Rattle.check_rules.proofs.listings.check_interfaces.Given as goal

abbrev pub invariant-loop-number : goal.invariant-loop-number
invariant-loop-number l = InterfacesKeep listings l.resolve l.number
