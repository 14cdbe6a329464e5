use Rattle.std.proofs.Common.{◌∙◌}
use Rattle.read_rules.proofs.InterfaceLaws.{names_apart}
use Rattle.read_rules.proofs.interfaces.have_one_name_each.Goals as goal

pub returns : goal.returns
returns c = names_apart c.are_distinct.result c.args.view.types.now c.args.view.functions.now c.deref.result.now (c.deref.ensures.value ∙ c.in_ok-names.ensures) c.are_distinct.ensures
