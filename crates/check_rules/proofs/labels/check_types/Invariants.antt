use Rattle.wit_model.specs.Valid.{labels}
use Rattle.check_rules.proofs.Found.{TypesKeep}
use Rattle.check_rules.proofs.labels.check_types.Given as goal

abbrev pub invariant-loop-number : goal.invariant-loop-number
invariant-loop-number l = TypesKeep labels l.resolve l.number
