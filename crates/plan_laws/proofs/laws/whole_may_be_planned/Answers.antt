use Rattle.plan_laws.proofs.WholeCondition as lemmas
use Rattle.plan_laws.proofs.laws.whole_may_be_planned.Goals as goal

pub returns : goal.returns
returns c = lemmas.whole_may_be_planned
