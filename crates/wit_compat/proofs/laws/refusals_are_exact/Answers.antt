use Rattle.wit_compat.proofs.Refusing.{refused_not_accepted}
use Rattle.wit_compat.proofs.laws.refusals_are_exact.Goals as goal

pub returns : goal.returns
returns c = refused_not_accepted
