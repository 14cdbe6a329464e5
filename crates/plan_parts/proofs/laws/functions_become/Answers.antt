use Rattle.plan_parts.proofs.FunctionLaws.{functions_become}
use Rattle.plan_parts.proofs.laws.functions_become.Goals as goal

pub returns : goal.returns
returns c = functions_become
