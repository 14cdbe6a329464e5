use Rattle.comp_read.proofs.WorldReadLaws.{read_world_plans_are_meant}
use Rattle.comp_read.proofs.laws.read_world_plans_are_meant.Goals as goal

pub returns : goal.returns
returns c = read_world_plans_are_meant
