use Rattle.wit_bind.proofs.MatchedPaths as laws
use Rattle.wit_bind.proofs.laws.matches_have_paths.Goals as goal

pub returns : goal.returns
returns c = laws.matches_have_paths
