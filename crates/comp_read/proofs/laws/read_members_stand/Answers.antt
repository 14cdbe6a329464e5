use Rattle.comp_read.proofs.Members.{members_stand}
use Rattle.comp_read.proofs.laws.read_members_stand.Goals as goal

pub returns : goal.returns
returns c = members_stand
