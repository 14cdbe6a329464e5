use Rattle.plan_type_laws.proofs.PlanTypes.{types_are_kept}
use Rattle.plan_type_laws.proofs.laws.planned_types_are_kept.Goals as goal

pub returns : goal.returns
returns c = types_are_kept
