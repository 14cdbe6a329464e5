use Rattle.wit_model.proofs.VersionLaws as lemmas
use Rattle.wit_model.proofs.laws.same_name.Goals as goal

pub returns : goal.returns
returns c = lemmas.same_name
