use Rattle.encode_names.proofs.NamesRead as lemmas
use Rattle.encode_names.proofs.laws.names_are_read.Goals as goal

pub returns : goal.returns
returns c = lemmas.names_are_read
