use Rattle.wit_encode.proofs.MetKinds as lemmas
use Rattle.wit_encode.proofs.laws.met_kinds_are_held.Goals as goal

pub returns : goal.returns
returns c = lemmas.met_kinds_are_held
