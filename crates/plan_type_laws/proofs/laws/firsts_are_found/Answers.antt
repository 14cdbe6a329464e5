use Rattle.plan_type_laws.proofs.FirstFound.{firsts_found}
use Rattle.plan_type_laws.proofs.laws.firsts_are_found.Goals as goal

pub returns : goal.returns
returns c = firsts_found
