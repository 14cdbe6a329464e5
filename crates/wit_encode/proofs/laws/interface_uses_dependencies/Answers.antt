use Rattle.wit_encode.proofs.Encodable as lemmas
use Rattle.wit_encode.proofs.laws.interface_uses_dependencies.Goals as goal

pub returns : goal.returns
returns c = lemmas.interface_uses
