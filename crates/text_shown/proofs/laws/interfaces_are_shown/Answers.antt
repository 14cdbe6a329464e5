use Rattle.text_shown.proofs.Interfaces.{interface_shown}
use Rattle.text_shown.proofs.laws.interfaces_are_shown.Goals as goal

pub returns : goal.returns
returns c = λ r valid home p at id i members h. interface_shown r valid home p at id i members h
