use Rattle.text_trees.proofs.Exact.{types_found, types_there}
use Rattle.text_trees.proofs.laws.types_are_read.Goals as goal

pub returns-clause-found : goal.returns-clause-found
returns-clause-found c = types_found

pub returns-clause-there : goal.returns-clause-there
returns-clause-there c = types_there
