use Rattle.plan_package.proofs.ListedLaws.{homes_are_listed}
use Rattle.plan_package.proofs.laws.homes_are_listed.Goals as goal

pub returns : goal.returns
returns c = homes_are_listed
