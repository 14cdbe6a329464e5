use Rattle.plan_package.proofs.ListedLaws.{worlds_are_listed}
use Rattle.plan_package.proofs.laws.worlds_are_listed.Goals as goal

pub returns : goal.returns
returns c = worlds_are_listed
