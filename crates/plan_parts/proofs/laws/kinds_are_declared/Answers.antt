use Rattle.plan_parts.proofs.DeclaredKinds.{kinds_are_declared}
use Rattle.plan_parts.proofs.laws.kinds_are_declared.Goals as goal

pub returns : goal.returns
returns c = kinds_are_declared
