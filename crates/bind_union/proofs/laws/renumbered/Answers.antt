use Rattle.bind_union.proofs.Images as lemmas
use Rattle.bind_union.proofs.laws.renumbered.Goals as goal

pub returns : goal.returns
returns c = record { trees = lemmas.same_trees; declarations = lemmas.same_declarations }
