use Rattle.bind_carry.proofs.PartsCarried.{parts_are_carried}
use Rattle.bind_carry.proofs.laws.parts.Goals as goal

pub returns : goal.returns
returns c = parts_are_carried
