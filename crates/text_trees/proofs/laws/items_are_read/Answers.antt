use Rattle.text_trees.proofs.Exact.{items_exact, packages_exact}
use Rattle.text_trees.proofs.laws.items_are_read.Goals as goal

pub returns-clause-items : goal.returns-clause-items
returns-clause-items c = items_exact

pub returns-clause-packages : goal.returns-clause-packages
returns-clause-packages c = packages_exact
