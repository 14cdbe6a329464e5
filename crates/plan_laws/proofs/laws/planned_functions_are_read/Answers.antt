use Rattle.plan_laws.proofs.PlannedFunctions as lemmas
use Rattle.plan_laws.proofs.laws.planned_functions_are_read.Goals as goal

pub returns : goal.returns
returns c = lemmas.planned_functions_are_read
