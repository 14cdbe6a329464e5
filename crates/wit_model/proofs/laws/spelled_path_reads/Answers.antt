use Rattle.wit_model.proofs.NameLaws as lemmas
use Rattle.wit_model.proofs.laws.spelled_path_reads.Goals as goal

pub returns : goal.returns
returns c = lemmas.spelled_path_reads
