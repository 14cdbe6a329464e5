use Rattle.bind_carry.proofs.UnionDistinct.{unions_are_apart}
use Rattle.bind_carry.proofs.added_laws.added_apart.Goals as goal

pub returns : goal.returns
returns c = unions_are_apart
