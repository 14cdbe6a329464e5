use Rattle.wit_compat.proofs.Reflexive.{accepts_itself}
use Rattle.wit_compat.proofs.laws.reflexive.Goals as goal

pub returns : goal.returns
returns c = λ r w v h. accepts_itself r v w h
