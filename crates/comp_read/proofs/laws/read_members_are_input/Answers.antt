use Rattle.comp_read.proofs.ReadPackages.{read_members_are_input}
use Rattle.comp_read.proofs.laws.read_members_are_input.Goals as goal

pub returns : goal.returns
returns c = read_members_are_input
