use Rattle.wit_compat.proofs.Transitive.{accepts_through}
use Rattle.wit_compat.proofs.laws.transitive.Goals as goal

pub returns : goal.returns
returns c = accepts_through
