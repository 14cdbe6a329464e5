use Rattle.wit_model.specs.Checks.{references}
use Rattle.check_rules.proofs.Found.{TypesKeep}
use Rattle.check_rules.proofs.references.check.Given as goal

abbrev pub invariant-loop-number : goal.invariant-loop-number
invariant-loop-number l = TypesKeep references l.resolve l.number
