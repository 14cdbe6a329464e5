use Rattle.plan_laws.proofs.WholePlan as lemmas
use Rattle.plan_laws.proofs.laws.planned_order_is_read.Goals as goal

pub returns : goal.returns
returns c = lemmas.planned_order_is_read
