use Rattle.plan_parts.specs.Kept.{IsKeptPart}
use Rattle.plan_parts.proofs.FunctionLaws.{plain_params}
use Rattle.plan_parts.proofs.functions.function_of.Goals as goal

pub params_of-requires : goal.params_of-requires
params_of-requires c = plain_params (IsKeptPart c.args.kept.now) c.args.function.params.now c.requires.0
