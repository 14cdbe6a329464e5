use Rattle.plan_laws.proofs.Viewed as lemmas
use Rattle.plan_laws.proofs.laws.planned_interfaces_are_viewed.Goals as goal

pub returns : goal.returns
returns c = lemmas.planned_interfaces_are_viewed
