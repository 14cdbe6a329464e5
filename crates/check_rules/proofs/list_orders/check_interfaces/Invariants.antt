use Rattle.wit_model.specs.Checks.{list_orders}
use Rattle.check_rules.proofs.Found.{InterfacesKeep}
use Rattle.check_rules.proofs.list_orders.check_interfaces.Given as goal

abbrev pub invariant-loop-number : goal.invariant-loop-number
invariant-loop-number l = InterfacesKeep list_orders l.resolve l.number
