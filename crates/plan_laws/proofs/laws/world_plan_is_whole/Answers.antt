use Rattle.plan_laws.proofs.WorldMeaning as lemmas
use Rattle.plan_laws.proofs.laws.world_plan_is_whole.Goals as goal

pub returns : goal.returns
returns c = lemmas.world_plan_is_whole
