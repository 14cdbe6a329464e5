use Rattle.text_trees.proofs.OneRefusal.{one_refusal}
use Rattle.text_trees.proofs.laws.one_refusal.Goals as goal

pub returns : goal.returns
returns c = one_refusal c.one_answer.ensures.places
