use Rattle.wit_encode.proofs.Imported as lemmas
use Rattle.wit_encode.proofs.laws.exports_end.Goals as goal

pub returns : goal.returns
returns c = lemmas.exports_end
