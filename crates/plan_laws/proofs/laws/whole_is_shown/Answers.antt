use Rattle.plan_laws.proofs.ShownWhole as lemmas
use Rattle.plan_laws.proofs.laws.whole_is_shown.Goals as goal

pub returns : goal.returns
returns c = lemmas.whole_is_shown
