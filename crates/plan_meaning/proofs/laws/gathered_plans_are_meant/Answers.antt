use Rattle.plan_meaning.proofs.GatheredPlan as lemmas
use Rattle.plan_meaning.proofs.laws.gathered_plans_are_meant.Goals as goal

pub returns : goal.returns
returns c = record { package_ = lemmas.gathered_package_is_meant; world = lemmas.gathered_world_is_meant }
