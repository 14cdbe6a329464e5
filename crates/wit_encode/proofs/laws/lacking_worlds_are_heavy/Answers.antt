use Rattle.wit_encode.proofs.WorldFunctions as lemmas
use Rattle.wit_encode.proofs.laws.lacking_worlds_are_heavy.Goals as goal

pub returns : goal.returns
returns c = lemmas.lacking-worlds-heavy
