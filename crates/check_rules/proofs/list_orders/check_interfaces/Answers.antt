use Rattle.check_rules.proofs.{Found.walked, ListOrders.interface_order_breaks}
use Rattle.check_rules.proofs.list_orders.check_interfaces.Goals as goal

pub returns-clause-kept : goal.returns-clause-kept
returns-clause-kept c = search walked

pub returns-then-not-branch-clause-broken : goal.returns-then-not-branch-clause-broken
returns-then-not-branch-clause-broken c = interface_order_breaks c.args.resolve.now c.loop-number.number (search walked)
