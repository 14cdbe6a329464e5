use Rattle.plan_package.proofs.ReadPackageLaws.{packages_are_read}
use Rattle.plan_package.proofs.laws.packages_are_read.Goals as goal

pub returns : goal.returns
returns c = packages_are_read
