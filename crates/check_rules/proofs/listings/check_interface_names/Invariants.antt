use Rattle.wit_model.specs.Checks.{names_fit}
use Rattle.check_rules.proofs.Found.{InterfacesKeep}
use Rattle.check_rules.proofs.listings.check_interface_names.Given as goal

abbrev pub invariant-loop-number : goal.invariant-loop-number
invariant-loop-number l = InterfacesKeep names_fit l.resolve l.number
