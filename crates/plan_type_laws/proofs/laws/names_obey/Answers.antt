use Rattle.plan_type_laws.proofs.ShownRules.{names_obey}
use Rattle.plan_type_laws.proofs.laws.names_obey.Goals as goal

pub returns : goal.returns
returns c = names_obey
