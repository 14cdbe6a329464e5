use Rattle.plan_laws.proofs.WholeTypes as lemmas
use Rattle.plan_laws.proofs.laws.planned_types_are_whole.Goals as goal

pub returns : goal.returns
returns c = lemmas.planned_types_are_whole
