use Rattle.plan_laws.proofs.ShownNames.{names_are_shown}
use Rattle.plan_laws.proofs.laws.used_names_are_shown.Goals as goal

pub returns : goal.returns
returns c = names_are_shown
