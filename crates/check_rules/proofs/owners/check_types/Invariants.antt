use Rattle.wit_model.specs.Valid.{owners}
use Rattle.check_rules.proofs.Found.{TypesKeep}
use Rattle.check_rules.proofs.owners.check_types.Given as goal

abbrev pub invariant-loop-number : goal.invariant-loop-number
invariant-loop-number l = TypesKeep owners l.resolve l.number
