use Rattle.wit_model.specs.Valid.{order_of_items}
use Rattle.check_rules.proofs.Found.{WorldsKeep}
use Rattle.check_rules.proofs.item_orders.check_worlds.Given as goal

abbrev pub invariant-loop-number : goal.invariant-loop-number
invariant-loop-number l = WorldsKeep order_of_items l.resolve l.number
