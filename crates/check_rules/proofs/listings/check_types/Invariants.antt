use Rattle.wit_model.specs.Checks.{listings}
use Rattle.check_rules.proofs.Found.{TypesKeep}
use Rattle.check_rules.proofs.listings.check_types.Given as goal

abbrev pub invariant-loop-number : goal.invariant-loop-number
invariant-loop-number l = TypesKeep listings l.resolve l.number
