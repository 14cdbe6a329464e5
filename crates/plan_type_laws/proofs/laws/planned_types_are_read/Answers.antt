use Rattle.plan_type_laws.proofs.ReadTypes.{types_are_read}
use Rattle.plan_type_laws.proofs.laws.planned_types_are_read.Goals as goal

pub returns : goal.returns
returns c = types_are_read
