use Rattle.wit_bind.proofs.ValidKeys as lemmas
use Rattle.wit_bind.proofs.laws.each_has_a_key.Goals as goal

pub returns : goal.returns
returns c = lemmas.each_has_a_key
