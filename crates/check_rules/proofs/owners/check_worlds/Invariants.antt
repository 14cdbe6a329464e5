use Rattle.wit_model.specs.Valid.{owners}
use Rattle.check_rules.proofs.Found.{WorldsKeep}
use Rattle.check_rules.proofs.owners.check_worlds.Given as goal

abbrev pub invariant-loop-number : goal.invariant-loop-number
invariant-loop-number l = WorldsKeep owners l.resolve l.number
