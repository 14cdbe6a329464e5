use Rattle.read_parts.proofs.CountLaws.{parts_fit}
use Rattle.read_parts.proofs.laws.parts_fit.Goals as goal

pub returns : goal.returns
returns c = parts_fit
