use Rattle.plan_meaning.proofs.KeptResources as lemmas
use Rattle.plan_meaning.proofs.laws.kept_resources_stand.Goals as goal

pub returns : goal.returns
returns c = lemmas.kept_resources_stand
