use Rattle.bind_union.proofs.Namesakes as lemmas
use Rattle.bind_union.proofs.WorldNamesakes as worlds
use Rattle.bind_union.proofs.laws.matched.Goals as goal

pub returns : goal.returns
returns c = record { namesakes = lemmas.matches_are_namesakes; onto = lemmas.matches_are_onto; imports = worlds.met_imports_stand }
