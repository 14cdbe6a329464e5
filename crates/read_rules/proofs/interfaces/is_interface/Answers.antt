use Rattle.std.proofs.Common.{sym, ◌∙◌, map}
use Rattle.read_rules.specs.{Tables.now_of, Views.numbered_view}
use Rattle.read_rules.proofs.InterfaceLaws.{functions_fail, names_decide, types_fail}
use Rattle.read_rules.proofs.interfaces.is_interface.Goals as goal

pub returns-then-not-are_types : goal.returns-then-not-are_types
returns-then-not-are_types c = types_fail c.args.tables.now c.args.place (numbered_view c.args.view) (sym c.if-not-are_types.ensures)

pub returns-then-not-branch : goal.returns-then-not-branch
returns-then-not-branch c = functions_fail c.args.tables.now c.args.place (numbered_view c.args.view) (sym c.if-not-are_types.ensures) (map now_of c.in_ok-resources.resources.keys)
    c.in_ok-resources.ensures (sym c.in_ok-are_functions.ensures ∙ c.if-not-branch.true)

pub returns : goal.returns
returns c = names_decide c.args.tables.now c.args.place (numbered_view c.args.view) (sym c.if-not-are_types.ensures) (map now_of c.in_ok-resources.resources.keys) c.in_ok-resources.ensures
    (sym c.in_ok-are_functions.ensures ∙ c.if-not-branch.false) c.have_one_name_each.result c.have_one_name_each.ensures
