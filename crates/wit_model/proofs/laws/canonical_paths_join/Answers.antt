use Rattle.wit_model.proofs.PathParts as lemmas
use Rattle.wit_model.proofs.laws.canonical_paths_join.Goals as goal

pub returns : goal.returns
returns c = lemmas.canonical_paths_join
