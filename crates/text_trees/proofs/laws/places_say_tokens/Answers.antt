use Rattle.text_trees.proofs.Saying.{placed_said}
use Rattle.text_trees.proofs.laws.places_say_tokens.Goals as goal

pub returns : goal.returns
returns c = record { same = placed_said }
