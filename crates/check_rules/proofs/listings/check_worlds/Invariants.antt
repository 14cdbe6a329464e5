use Rattle.wit_model.specs.Checks.{listings}
use Rattle.check_rules.proofs.Found.{WorldsKeep}
use Rattle.check_rules.proofs.listings.check_worlds.Given as goal

abbrev pub invariant-loop-number : goal.invariant-loop-number
invariant-loop-number l = WorldsKeep listings l.resolve l.number
