use Rattle.std.proofs.Common.{refl}
use Rattle.text_plain.proofs.ScopeLaws.{moves_at}
use Rattle.text_plain.proofs.scopes.moving_at.Goals as goal

pub returns : goal.returns
returns c = moves_at c.args.place.now _ c.requires refl
