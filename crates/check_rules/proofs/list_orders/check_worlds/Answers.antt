use Rattle.check_rules.proofs.{Found.walked, ListOrders.world_order_breaks}
use Rattle.check_rules.proofs.list_orders.check_worlds.Goals as goal

pub returns-clause-kept : goal.returns-clause-kept
returns-clause-kept c = search walked

pub returns-then-not-branch-clause-broken : goal.returns-then-not-branch-clause-broken
returns-then-not-branch-clause-broken c = world_order_breaks c.args.resolve.now c.loop-number.number (search walked)
