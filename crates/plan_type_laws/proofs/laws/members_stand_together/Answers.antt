use Rattle.plan_type_laws.proofs.MembersStand.{members_stand_together}
use Rattle.plan_type_laws.proofs.laws.members_stand_together.Goals as goal

pub returns : goal.returns
returns c = members_stand_together
