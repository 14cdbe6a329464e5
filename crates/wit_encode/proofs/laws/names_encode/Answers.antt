use Rattle.wit_encode.proofs.OwnerScope as lemmas
use Rattle.wit_encode.proofs.laws.names_encode.Goals as goal

pub returns : goal.returns
returns c = lemmas.names_encode
