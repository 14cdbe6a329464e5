use Rattle.wit_model.proofs.NameLaws as lemmas
use Rattle.wit_model.proofs.laws.one_path.Goals as goal

pub returns : goal.returns
returns c = lemmas.one_path
