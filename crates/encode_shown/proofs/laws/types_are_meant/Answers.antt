use Rattle.encode_shown.proofs.Interfaces as lemmas
use Rattle.encode_shown.proofs.laws.types_are_meant.Goals as goal

pub returns : goal.returns
returns c = record { obey = λ r n view v shows. lemmas.types-obey r n view shows v; mean = λ r n view shows. lemmas.types-mean r n view shows }
