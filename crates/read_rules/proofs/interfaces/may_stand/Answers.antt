use Rattle.std.proofs.Common.{map}
use Rattle.read_rules.specs.Tables.{now_of}
use Rattle.read_rules.proofs.InterfaceLaws.{stands_as}
use Rattle.read_rules.proofs.interfaces.may_stand.Goals as goal

pub returns : goal.returns
returns c = stands_as c.args.tables.now c.args.place (map now_of c.args.resources.now.keys) c.args.function.name.now c.args.function.signature c.function_at-shape.result c.function_at-shape.ensures
    c.is_function.result c.is_function.ensures
