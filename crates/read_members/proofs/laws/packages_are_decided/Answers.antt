use Rattle.read_members.proofs.DecidedLaws.{packages_are_decided}
use Rattle.read_members.proofs.laws.packages_are_decided.Goals as goal

pub returns : goal.returns
returns c = packages_are_decided
