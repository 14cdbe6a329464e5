use Rattle.text_trees.proofs.Exact.{prefixes_found, prefixes_there, paths_found, paths_there, signatures_found, signatures_there}
use Rattle.text_trees.proofs.laws.parts_are_read.Goals as goal

pub returns-clause-prefixes : goal.returns-clause-prefixes
returns-clause-prefixes c = prefixes_found

pub returns-clause-prefixes_there : goal.returns-clause-prefixes_there
returns-clause-prefixes_there c = prefixes_there

pub returns-clause-paths : goal.returns-clause-paths
returns-clause-paths c = paths_found

pub returns-clause-paths_there : goal.returns-clause-paths_there
returns-clause-paths_there c = paths_there

pub returns-clause-signatures : goal.returns-clause-signatures
returns-clause-signatures c = signatures_found

pub returns-clause-signatures_there : goal.returns-clause-signatures_there
returns-clause-signatures_there c = signatures_there
