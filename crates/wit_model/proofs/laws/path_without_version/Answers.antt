use Rattle.wit_model.proofs.NameLaws as lemmas
use Rattle.wit_model.proofs.laws.path_without_version.Goals as goal

pub returns : goal.returns
returns c = lemmas.path_without_version
