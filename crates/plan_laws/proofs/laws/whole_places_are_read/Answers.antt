use Rattle.plan_laws.proofs.WholePlan.{places_read}
use Rattle.plan_laws.proofs.laws.whole_places_are_read.Goals as goal

pub returns : goal.returns
returns c = places_read
