use Rattle.wit_model.proofs.NameLaws as lemmas
use Rattle.wit_model.proofs.laws.read_path_is_spelled.Goals as goal

pub returns : goal.returns
returns c = lemmas.read_path_is_spelled
