use Rattle.plan_meaning.proofs.ShapeLaws.{tree_at_number, one_number}
use Rattle.plan_meaning.proofs.laws.shapes_are_trees.Goals as goal

pub returns : goal.returns
returns c = record { at_number = tree_at_number; one_number = one_number }
