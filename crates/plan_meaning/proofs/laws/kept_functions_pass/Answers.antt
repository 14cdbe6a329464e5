use Rattle.plan_meaning.proofs.KeptFunctions as lemmas
use Rattle.plan_meaning.proofs.laws.kept_functions_pass.Goals as goal

pub returns : goal.returns
returns c = lemmas.kept_functions_pass
