use Rattle.std.proofs.Common.{◌∙◌, ap, map}
use Rattle.read_follow.specs.Places.{has_path}
use Rattle.read_follow.proofs.places.Places.marks.Goals as goal

pub returns : goal.returns
returns c = c.deref.ensures.value ∙ (c.self.invariant.marked ∙ ap (map has_path) c.self.view_is)
