use Rattle.comp_read.proofs.Whole.{read_parts_are_reached}
use Rattle.comp_read.proofs.laws.read_parts_are_reached.Goals as goal

pub returns : goal.returns
returns c = read_parts_are_reached
