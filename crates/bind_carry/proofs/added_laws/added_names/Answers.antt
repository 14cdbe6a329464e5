use Rattle.bind_carry.proofs.NamesMerged.{names_are_merged}
use Rattle.bind_carry.proofs.added_laws.added_names.Goals as goal

pub returns : goal.returns
returns c = names_are_merged
