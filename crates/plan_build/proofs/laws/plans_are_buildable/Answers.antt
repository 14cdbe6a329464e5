use Rattle.plan_build.proofs.BuildableLaws as laws
use Rattle.plan_build.proofs.laws.plans_are_buildable.Goals as goal

pub returns : goal.returns
returns c = laws.plans_are_buildable
