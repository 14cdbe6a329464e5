use Rattle.std.proofs.{Common.◌∙◌, Common.ap, Common.sym, Common.length, Common.map, Math.ListN.length-map}
use Rattle.read_follow.specs.Places.{path_in, place_shape}
use Rattle.read_follow.proofs.places.Places.len.Goals as goal

pub returns-clause-many : goal.returns-clause-many
returns-clause-many c = c.len.ensures.len ∙ (sym (length-map (map place_shape c.self.inside.keys.keys) path_in ∙ length-map c.self.inside.keys.keys place_shape) ∙ ap length c.self.view_is)
