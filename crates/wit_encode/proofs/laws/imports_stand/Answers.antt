use Rattle.wit_encode.proofs.ImportsStand as lemmas
use Rattle.wit_encode.proofs.laws.imports_stand.Goals as goal

pub returns : goal.returns
returns c = lemmas.imports_stand
