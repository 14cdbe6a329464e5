use Rattle.plan_meaning.proofs.ReadFunctions as lemmas
use Rattle.plan_meaning.proofs.laws.read_functions_pass.Goals as goal

pub returns : goal.returns
returns c = lemmas.read_functions_pass
