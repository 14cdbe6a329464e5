use Rattle.std.proofs.{Common.◌∙◌, Common.ap, Common.sym, Common.length, Math.ListN.length-map}
use Rattle.read_follow.specs.KeyShapes.{shape_of}
use Rattle.read_follow.proofs.table.Table.len.Goals as goal

pub returns-clause-many : goal.returns-clause-many
returns-clause-many c = c.len.ensures.len ∙ (sym (length-map c.self.inside.keys.keys shape_of) ∙ ap length c.self.view_is)
