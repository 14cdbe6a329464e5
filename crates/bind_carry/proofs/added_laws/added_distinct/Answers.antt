use Rattle.bind_carry.proofs.UnionDistinct.{unions_have_distinct_keys}
use Rattle.bind_carry.proofs.added_laws.added_distinct.Goals as goal

pub returns : goal.returns
returns c = unions_have_distinct_keys
