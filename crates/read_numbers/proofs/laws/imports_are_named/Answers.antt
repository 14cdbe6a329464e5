use Rattle.read_numbers.proofs.ImportParts.{imports_are_named}
use Rattle.read_numbers.proofs.laws.imports_are_named.Goals as goal

pub returns : goal.returns
returns c = imports_are_named
