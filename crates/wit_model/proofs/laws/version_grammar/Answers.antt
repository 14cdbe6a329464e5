use Rattle.wit_model.proofs.VersionTexts.{version_text_reads}
use Rattle.wit_model.proofs.laws.version_grammar.Goals as goal

pub returns : goal.returns
returns c = version_text_reads
