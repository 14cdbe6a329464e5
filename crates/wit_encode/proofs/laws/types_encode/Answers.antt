use Rattle.wit_encode.proofs.OwnerScope as lemmas
use Rattle.wit_encode.proofs.laws.types_encode.Goals as goal

pub returns : goal.returns
returns c = record { encode = lemmas.types_encode; uses = lemmas.types_use }
