use Rattle.plan_meaning.proofs.{PackageMeans.package_means, WorldAlone.world_means}
use Rattle.plan_meaning.proofs.laws.plans_are_meant.Goals as goal

pub returns : goal.returns
returns c = record { package_ = package_means; world = world_means }
