use Rattle.wit_bind.proofs.OneKey as lemmas
use Rattle.wit_bind.proofs.laws.one_old_key.Goals as goal

pub returns : goal.returns
returns c = lemmas.one_old_key
