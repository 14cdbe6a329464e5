use Rattle.plan_laws.proofs.InterfaceFunctions as lemmas
use Rattle.plan_laws.proofs.laws.world_functions_are_read.Goals as goal

pub returns : goal.returns
returns c = lemmas.world_functions_are_read
