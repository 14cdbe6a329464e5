use Rattle.wit_model.proofs.VersionLaws as lemmas
use Rattle.wit_model.proofs.laws.one_version.Goals as goal

pub returns : goal.returns
returns c = lemmas.one_version
