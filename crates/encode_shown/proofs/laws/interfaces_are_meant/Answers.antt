use Rattle.encode_shown.proofs.Interfaces as lemmas
use Rattle.encode_shown.proofs.laws.interfaces_are_meant.Goals as goal

pub returns : goal.returns
returns c = record { obey = λ r n view v shows. lemmas.interface-obeys r v n view shows; mean = λ r n view v shows. lemmas.interface-means r v n view shows }
