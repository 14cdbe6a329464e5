use Rattle.text_trees.proofs.Exact.{parts_found, parts_there, other_names_exact}
use Rattle.text_trees.proofs.laws.world_parts_are_read.Goals as goal

pub returns-clause-found : goal.returns-clause-found
returns-clause-found c = parts_found

pub returns-clause-there : goal.returns-clause-there
returns-clause-there c = parts_there

pub returns-clause-names : goal.returns-clause-names
returns-clause-names c = other_names_exact
