use Rattle.comp_read.proofs.Inputs.{read_members_are_named}
use Rattle.comp_read.proofs.laws.read_members_are_named.Goals as goal

pub returns : goal.returns
returns c = read_members_are_named
