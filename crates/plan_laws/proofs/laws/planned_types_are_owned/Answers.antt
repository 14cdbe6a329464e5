use Rattle.plan_laws.proofs.Owned as lemmas
use Rattle.plan_laws.proofs.laws.planned_types_are_owned.Goals as goal

pub returns : goal.returns
returns c = lemmas.planned_types_are_owned
