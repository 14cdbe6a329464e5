use Rattle.check_rules.proofs.Seen.{WorldKeys, Seen}
use Rattle.check_rules.proofs.maps.read_worlds.Given as goal

abbrev pub invariant-loop-entry : goal.invariant-loop-entry
invariant-loop-entry l = Seen WorldKeys l.resolve.worlds.items l.entry-index
