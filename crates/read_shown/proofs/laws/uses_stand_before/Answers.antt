use Rattle.read_shown.proofs.Uses.{use_stands_before}
use Rattle.read_shown.proofs.laws.uses_stand_before.Goals as goal

pub returns : goal.returns
returns c = use_stands_before
