use Rattle.read_shown.proofs.Instances.{instances_seen}
use Rattle.read_shown.proofs.laws.instances_are_seen.Goals as goal

pub returns : goal.returns
returns c = instances_seen
