use Rattle.wit_component.proofs.ReadBackLaws as lemmas
use Rattle.wit_component.proofs.laws.decoding_gives_that_meaning.Goals as goal

pub returns : goal.returns
returns c = record { decoded = lemmas.gives_that_meaning; refused = lemmas.memory_alone }
