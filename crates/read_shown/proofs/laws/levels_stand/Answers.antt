use Rattle.read_shown.proofs.ByLevels.{members_by_levels_stand, entry_scope_stands}
use Rattle.read_shown.proofs.laws.levels_stand.Goals as goal

pub returns : goal.returns
returns c = record { scopes = entry_scope_stands; members = members_by_levels_stand }
