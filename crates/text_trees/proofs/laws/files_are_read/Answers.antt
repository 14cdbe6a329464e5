use Rattle.text_trees.proofs.Exact.{files_are_read, found_files_are_only, refused_are_no_files, shallow_files_are_found}
use Rattle.text_trees.proofs.laws.files_are_read.Goals as goal

pub returns-clause-found : goal.returns-clause-found
returns-clause-found c = files_are_read

pub returns-clause-only : goal.returns-clause-only
returns-clause-only c = found_files_are_only

pub returns-clause-refused : goal.returns-clause-refused
returns-clause-refused c = refused_are_no_files

pub returns-clause-shallow : goal.returns-clause-shallow
returns-clause-shallow c = shallow_files_are_found
