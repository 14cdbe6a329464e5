use Rattle.read_members.proofs.SightLaws.{members_are_known}
use Rattle.read_members.proofs.laws.members_are_known.Goals as goal

pub returns : goal.returns
returns c = members_are_known
