use Rattle.read_shown.proofs.Scopes.{scope_stands}
use Rattle.read_shown.proofs.laws.scopes_stand.Goals as goal

pub returns : goal.returns
returns c = scope_stands
