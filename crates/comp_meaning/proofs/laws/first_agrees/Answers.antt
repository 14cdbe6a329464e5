use Rattle.comp_meaning.proofs.AgreementLaws as laws
use Rattle.comp_meaning.proofs.laws.first_agrees.Goals as goal

pub returns : goal.returns
returns c = laws.first_agrees
