use Rattle.read_members.proofs.DecidedWorldLaws.{worlds_are_decided}
use Rattle.read_members.proofs.laws.worlds_are_decided.Goals as goal

pub returns : goal.returns
returns c = worlds_are_decided
