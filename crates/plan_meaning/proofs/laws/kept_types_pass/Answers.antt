use Rattle.plan_meaning.proofs.KeptTypes as lemmas
use Rattle.plan_meaning.proofs.laws.kept_types_pass.Goals as goal

pub returns : goal.returns
returns c = lemmas.kept_types_pass
