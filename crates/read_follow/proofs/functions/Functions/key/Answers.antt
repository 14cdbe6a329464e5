use Rattle.std.proofs.Common.{◌∙◌, ap, slice_get}
use Rattle.read_follow.specs.Functions.{function_shape}
use Rattle.read_follow.proofs.LookUpLaws.{looked_up}
use Rattle.read_follow.proofs.functions.Functions.key.Goals as goal

pub returns : goal.returns
returns c = looked_up function_shape c.self.inside.keys.keys c.args.number c.get_index.result c.get_index.ensures.key ∙ ap (λ ks. slice_get ks c.args.number) c.self.view_is
