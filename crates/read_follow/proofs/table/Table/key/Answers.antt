use Rattle.std.proofs.Common.{◌∙◌, ap, slice_get}
use Rattle.read_follow.specs.KeyShapes.{shape_of}
use Rattle.read_follow.proofs.LookUpLaws.{looked_up}
use Rattle.read_follow.proofs.table.Table.key.Goals as goal

pub returns : goal.returns
returns c = looked_up shape_of c.self.inside.keys.keys c.args.number c.get_index.result c.get_index.ensures.key ∙ ap (λ ks. slice_get ks c.args.number) c.self.view_is
