use Rattle.std.proofs.Common.{rules, refl}
use Rattle.wit_model.specs.Checks.{list_orders}
use Rattle.wit_model.proofs.Checks.{keeps_two}
use Rattle.check_rules.proofs.list_orders.check.Goals as goal

pub returns-clause-kept : goal.returns-clause-kept
unfolding list_orders
returns-clause-kept c = keeps_two list_orders c.args.resolve.now refl refl (search rules) (search rules)
