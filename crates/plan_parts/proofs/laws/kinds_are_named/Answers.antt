use Rattle.plan_parts.proofs.FunctionLaws.{kinds_are_named}
use Rattle.plan_parts.proofs.laws.kinds_are_named.Goals as goal

pub returns : goal.returns
returns c = kinds_are_named
