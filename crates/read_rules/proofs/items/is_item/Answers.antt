use Rattle.std.proofs.Common.{map}
use Rattle.read_rules.specs.Tables.{now_of}
use Rattle.read_rules.proofs.WorldLaws.{declared_item, function_item, instance_item}
use Rattle.read_rules.proofs.items.is_item.Goals as goal

pub returns-in-Instance : goal.returns-in-Instance
returns-in-Instance c = instance_item c.args.tables.now c.args.home (map now_of c.args.resources.now.keys) c.args.key.now c.args.shown c.in-Instance.instance c.in-Instance.view c.in-Instance.is
    c.place_of.result c.place_of.ensures c.is_interface.result c.is_interface.ensures

pub returns-in-Function : goal.returns-in-Function
returns-in-Function c = function_item c.args.tables.now c.args.home (map now_of c.args.resources.now.keys) c.args.key.now c.args.shown c.in-Function.number c.in-Function.is c.function_at.result
    c.function_at.ensures c.is_function.result c.is_function.ensures

pub returns-in-Declares : goal.returns-in-Declares
returns-in-Declares c = declared_item c.args.tables.now c.args.home (map now_of c.args.resources.now.keys) c.args.key.now c.args.shown _ c.in-Declares.declared c.in-Declares.is
    c.may_be_declared.result c.may_be_declared.ensures
