use Rattle.plan_meaning.proofs.Valid.{built_is_valid}
use Rattle.plan_meaning.proofs.laws.plans_are_valid.Goals as goal

pub returns : goal.returns
returns c = built_is_valid
