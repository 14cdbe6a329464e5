use Rattle.plan_meaning.proofs.Renumbering as lemmas
use Rattle.plan_meaning.proofs.laws.trees_are_kept.Goals as goal

pub returns : goal.returns
returns c = lemmas.trees_are_kept
