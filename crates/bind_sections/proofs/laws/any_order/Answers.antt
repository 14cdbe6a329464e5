use Rattle.bind_meaning.proofs.EachOrder as each
use Rattle.bind_sections.proofs.Folding as folding
use Rattle.bind_sections.proofs.Orders as laws
use Rattle.bind_sections.proofs.laws.any_order.Goals as goal

pub returns-clause-binds : goal.returns-clause-binds
returns-clause-binds c = laws.binds_where_no_two_clash

pub returns-clause-theirs : goal.returns-clause-theirs
returns-clause-theirs c = each.folds_hold_theirs

pub returns-clause-same : goal.returns-clause-same
returns-clause-same c = each.same_in_each_order

pub returns-clause-either : goal.returns-clause-either
returns-clause-either c = laws.each_unites_or_clashes

pub returns-clause-every : goal.returns-clause-every
returns-clause-every c = each.every_order_folds

pub returns-clause-orders : goal.returns-clause-orders
returns-clause-orders c = each.orders_give_the_same

pub returns-clause-folds : goal.returns-clause-folds
returns-clause-folds c = folding.sections_fold

pub returns-clause-in_each_order : goal.returns-clause-in_each_order
returns-clause-in_each_order c = folding.sections_in_each_order

pub returns-clause-modules : goal.returns-clause-modules
returns-clause-modules c = folding.modules_in_each_order
