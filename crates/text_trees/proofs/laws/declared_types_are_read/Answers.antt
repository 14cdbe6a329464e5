use Rattle.text_trees.proofs.Exact.{declared_exact, resource_members_exact}
use Rattle.text_trees.proofs.laws.declared_types_are_read.Goals as goal

pub returns-clause-declared : goal.returns-clause-declared
returns-clause-declared c = declared_exact

pub returns-clause-functions : goal.returns-clause-functions
returns-clause-functions c = resource_members_exact
