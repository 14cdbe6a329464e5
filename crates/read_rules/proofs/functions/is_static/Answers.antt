use Rattle.std.proofs.Common.{sym, ◌∙◌, map}
use Rattle.read_rules.specs.Tables.{now_of}
use Rattle.read_rules.proofs.FunctionLaws.{static_none, static_some}
use Rattle.read_rules.proofs.functions.is_static.Goals as goal

pub returns-in-Some : goal.returns-in-Some
returns-in-Some c = c.is_among.ensures ∙ sym (static_some (map now_of c.args.resources.now.keys) c.args.name.now c.in-Some.resource.now c.in-Some.ensures)

pub returns-in-None : goal.returns-in-None
returns-in-None c = sym (static_none (map now_of c.args.resources.now.keys) c.args.name.now c.in-None.ensures)
