use Rattle.read_follow.proofs.DefiningLaws.{one_function}
use Rattle.read_follow.proofs.laws.one_function_number.Goals as goal

pub returns : goal.returns
returns c = λ place distinct shapes table. one_function place distinct shapes table
