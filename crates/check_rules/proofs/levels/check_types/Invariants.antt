use Rattle.wit_model.specs.Valid.{depths}
use Rattle.check_rules.proofs.Found.{TypesKeep}
use Rattle.check_rules.proofs.levels.check_types.Given as goal

abbrev pub invariant-loop-number : goal.invariant-loop-number
invariant-loop-number l = TypesKeep depths l.resolve l.number
