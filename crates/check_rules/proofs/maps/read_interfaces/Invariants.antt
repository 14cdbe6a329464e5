use Rattle.check_rules.proofs.Seen.{InterfaceKeys, Seen}
use Rattle.check_rules.proofs.maps.read_interfaces.Given as goal

abbrev pub invariant-loop-entry : goal.invariant-loop-entry
invariant-loop-entry l = Seen InterfaceKeys l.resolve.interfaces.items l.entry-index
