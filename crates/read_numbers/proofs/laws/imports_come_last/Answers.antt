use Rattle.read_numbers.proofs.ImportOrder.{imports_come_last}
use Rattle.read_numbers.proofs.laws.imports_come_last.Goals as goal

pub returns : goal.returns
returns c = imports_come_last
