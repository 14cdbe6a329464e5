use Rattle.read_members.proofs.LentLaws.{lent_members_are_members}
use Rattle.read_members.proofs.laws.lent_members_are_members.Goals as goal

pub returns : goal.returns
returns c = lent_members_are_members
