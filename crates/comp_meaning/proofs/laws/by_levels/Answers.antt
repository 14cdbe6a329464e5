use Rattle.std.proofs.Common.{sym}
use Rattle.comp_meaning.proofs.EntryLaws.{scope_is}
use Rattle.comp_meaning.proofs.Levelled as laws
use Rattle.comp_meaning.proofs.laws.by_levels.Goals as goal

pub returns : goal.returns
returns c = record { one_package = laws.package_by_levels; one_world = laws.world_by_levels; scopes = λ es. sym (scope_is es) }
