use Rattle.wit_component.proofs.ReadBackLaws as lemmas
use Rattle.wit_component.proofs.Nothing.{have_members}
use Rattle.wit_component.proofs.laws.encoding_keeps_that_meaning.Goals as goal

pub returns : goal.returns
returns c = record { encoded = lemmas.encoding_keeps; members = have_members }
