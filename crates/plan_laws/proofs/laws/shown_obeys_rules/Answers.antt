use Rattle.plan_laws.proofs.ShownRules as lemmas
use Rattle.plan_laws.proofs.laws.shown_obeys_rules.Goals as goal

pub returns : goal.returns
returns c = lemmas.shown_obeys_rules
