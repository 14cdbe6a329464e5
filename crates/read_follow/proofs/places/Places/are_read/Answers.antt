use Rattle.std.proofs.Common.{List, Option, subst}
use Rattle.wit_model.specs.Text.{Text}
use Rattle.read_follow.specs.Places.{ArePathsRead}
use Rattle.read_follow.proofs.places.Places.are_read.Goals as goal

pub returns : goal.returns
returns c = subst (λ (ps : List (Option Text)). ArePathsRead ps) c.self.view_is c.self.invariant.read
