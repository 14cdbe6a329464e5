use Rattle.wit_encode.proofs.Weighing as lemmas
use Rattle.wit_encode.proofs.laws.lacking_interfaces_are_heavy.Goals as goal

pub returns : goal.returns
returns c = lemmas.lacking-heavy
