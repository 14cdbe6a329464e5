use Rattle.plan_type_laws.proofs.ShownRules.{shown_obeys}
use Rattle.plan_type_laws.proofs.laws.shown_obeys.Goals as goal

pub returns : goal.returns
returns c = shown_obeys
