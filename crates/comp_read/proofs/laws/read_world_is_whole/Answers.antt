use Rattle.comp_read.proofs.WorldReadLaws.{read_world_is_whole}
use Rattle.comp_read.proofs.laws.read_world_is_whole.Goals as goal

pub returns : goal.returns
returns c = read_world_is_whole
