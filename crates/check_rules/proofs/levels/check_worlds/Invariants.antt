use Rattle.wit_model.specs.Valid.{depths}
use Rattle.check_rules.proofs.Found.{WorldsKeep}
use Rattle.check_rules.proofs.levels.check_worlds.Given as goal

abbrev pub invariant-loop-number : goal.invariant-loop-number
invariant-loop-number l = WorldsKeep depths l.resolve l.number
