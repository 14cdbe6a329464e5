use Rattle.wit_metadata.proofs.SaidLaws.{read-back}
use Rattle.wit_metadata.proofs.laws.encodings_are_read_back.Goals as goal

pub returns : goal.returns
returns c = read-back
