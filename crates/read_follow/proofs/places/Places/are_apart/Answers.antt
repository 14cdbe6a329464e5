use Rattle.std.proofs.Common.{List, Option, map, subst}
use Rattle.wit_model.specs.Text.{Text}
use Rattle.read_follow.specs.Places.{place_shape, ArePathsApart}
use Rattle.read_follow.proofs.PlaceLaws.{paths_apart}
use Rattle.read_follow.proofs.places.Places.are_apart.Goals as goal

pub returns : goal.returns
returns c = subst (λ (ps : List (Option Text)). ArePathsApart ps) c.self.view_is (paths_apart (map place_shape c.self.inside.keys.keys) c.self.inside.marks.items c.self.invariant)
