use Rattle.bind_carry.proofs.MergedUnion.{unions_are_merged}
use Rattle.bind_carry.proofs.merged.merged_unions.Goals as goal

pub returns : goal.returns
returns c = unions_are_merged
