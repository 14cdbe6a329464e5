use Rattle.wit_model.specs.Checks.{names_fit}
use Rattle.check_rules.proofs.Found.{WorldsKeep}
use Rattle.check_rules.proofs.listings.check_world_names.Given as goal

abbrev pub invariant-loop-number : goal.invariant-loop-number
invariant-loop-number l = WorldsKeep names_fit l.resolve l.number
