use Rattle.plan_parts.proofs.ListedFunctions.{functions_are_listed}
use Rattle.plan_parts.proofs.laws.functions_are_listed.Goals as goal

pub returns : goal.returns
returns c = functions_are_listed
