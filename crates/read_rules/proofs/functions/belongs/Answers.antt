use Rattle.std.proofs.Common.{sym, ◌∙◌, map}
use Rattle.read_rules.specs.Tables.{now_of, numbered_function_type}
use Rattle.read_rules.proofs.FunctionLaws.{member_of_one}
use Rattle.read_rules.proofs.functions.belongs.Goals as goal

pub returns : goal.returns
returns c = c.is_member.ensures ∙ sym (member_of_one c.args.tables.now c.args.place (map now_of c.args.resources.now.keys) c.args.name.now (numbered_function_type c.args.function))
