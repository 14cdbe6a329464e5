use Rattle.wit_model.specs.Valid.{handles}
use Rattle.check_rules.proofs.Found.{TypesKeep}
use Rattle.check_rules.proofs.resources.check_types.Given as goal

abbrev pub invariant-loop-number : goal.invariant-loop-number
invariant-loop-number l = TypesKeep handles l.resolve l.number
