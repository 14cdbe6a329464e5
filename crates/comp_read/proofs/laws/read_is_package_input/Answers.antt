use Rattle.comp_read.proofs.Whole.{read_is_package_input}
use Rattle.comp_read.proofs.laws.read_is_package_input.Goals as goal

pub returns : goal.returns
returns c = read_is_package_input
