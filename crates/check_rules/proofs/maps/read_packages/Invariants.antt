use Rattle.check_rules.proofs.Seen.{PackageKeys, Seen}
use Rattle.check_rules.proofs.maps.read_packages.Given as goal

abbrev pub invariant-loop-entry : goal.invariant-loop-entry
invariant-loop-entry l = Seen PackageKeys l.resolve.packages.items l.entry-index
