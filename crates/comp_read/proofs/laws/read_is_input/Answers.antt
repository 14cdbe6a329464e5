use Rattle.comp_read.proofs.Inputs.{read_is_input}
use Rattle.comp_read.proofs.laws.read_is_input.Goals as goal

pub returns : goal.returns
returns c = read_is_input
