use Rattle.plan_laws.proofs.Apart as lemmas
use Rattle.plan_laws.proofs.laws.whole_stands_apart.Goals as goal

pub returns : goal.returns
returns c = lemmas.whole_stands_apart
