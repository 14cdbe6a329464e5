use Rattle.plan_laws.proofs.WholeCondition as lemmas
use Rattle.plan_laws.proofs.laws.plan_is_whole.Goals as goal

pub returns : goal.returns
returns c = lemmas.plan_is_whole
