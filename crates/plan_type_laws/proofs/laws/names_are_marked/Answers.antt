use Rattle.plan_type_laws.proofs.ShownMarks.{names_marked}
use Rattle.plan_type_laws.proofs.laws.names_are_marked.Goals as goal

pub returns : goal.returns
returns c = names_marked
