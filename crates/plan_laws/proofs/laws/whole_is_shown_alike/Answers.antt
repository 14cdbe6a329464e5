use Rattle.plan_laws.proofs.ShownAlike as lemmas
use Rattle.plan_laws.proofs.laws.whole_is_shown_alike.Goals as goal

pub returns : goal.returns
returns c = lemmas.whole_is_shown_alike
