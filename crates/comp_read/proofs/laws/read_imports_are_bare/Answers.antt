use Rattle.comp_read.proofs.Followed.{read_imports_are_bare}
use Rattle.comp_read.proofs.laws.read_imports_are_bare.Goals as goal

pub returns : goal.returns
returns c = read_imports_are_bare
