use Rattle.plan_meaning.proofs.ShapeLaws.{one_number}
use Rattle.read_follow.proofs.laws.one_number.Goals as goal

pub returns : goal.returns
returns c = one_number
