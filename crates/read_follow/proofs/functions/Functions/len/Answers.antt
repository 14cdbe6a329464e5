use Rattle.std.proofs.{Common.◌∙◌, Common.ap, Common.sym, Common.length, Math.ListN.length-map}
use Rattle.read_follow.specs.Functions.{function_shape}
use Rattle.read_follow.proofs.functions.Functions.len.Goals as goal

pub returns-clause-many : goal.returns-clause-many
returns-clause-many c = c.len.ensures.len ∙ (sym (length-map c.self.inside.keys.keys function_shape) ∙ ap length c.self.view_is)
