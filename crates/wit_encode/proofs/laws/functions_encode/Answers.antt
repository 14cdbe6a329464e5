use Rattle.wit_encode.proofs.OwnerScope as lemmas
use Rattle.wit_encode.proofs.laws.functions_encode.Goals as goal

pub returns : goal.returns
returns c = record { encode = lemmas.functions_encode; uses = lemmas.functions_use }
