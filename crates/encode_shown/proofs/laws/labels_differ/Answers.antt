use Rattle.encode_shown.proofs.PackageTypes as lemmas
use Rattle.encode_shown.proofs.laws.labels_differ.Goals as goal

pub returns : goal.returns
returns c = λ r n p xs v at types. (lemmas.all-labels r v n p at xs types, lemmas.labels-apart r v n p at xs types)
