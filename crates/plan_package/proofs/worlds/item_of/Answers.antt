use Rattle.std.proofs.Common.{◌≤◌, refl, subst}
use Rattle.plan_parts.specs.{Functions.found_under, Kept.IsKeptPart}
use Rattle.read_rules.specs.Tables.{numbered_tables}
use Rattle.plan_package.specs.WholeWorlds.{ShownIsKept, ShownIsPlaced, a_function, a_type}
use Rattle.plan_package.proofs.WorldLaws.{instance_planned}
use Rattle.plan_package.proofs.worlds.item_of.Goals as goal

pub number-requires-clause-kept : goal.number-requires-clause-kept
number-requires-clause-kept c =
    let have : (14 ≤ c.in-Declares.part) × IsKeptPart c.args.kept.now c.in-Declares.part = subst (ShownIsKept (numbered_tables c.args.tables.now) c.args.kept.now) c.in-Declares.is c.requires.kept in
    have.1

pub instance_of-requires : goal.instance_of-requires
instance_of-requires c = subst (ShownIsPlaced c.args.places.now.keys) c.in-Instance.is c.requires.placed

pub returns-in-Instance : goal.returns-in-Instance
returns-in-Instance c = instance_planned (numbered_tables c.args.tables.now) c.args.kept.now c.args.places.now.keys (found_under c.args.resources.now.entries) c.args.seen c.instance_of.result
    c.in-Instance.key c.in-Instance.field-1 c.in-Instance.is c.instance_of.ensures

pub returns-in_ok-item-in-Function : goal.returns-in_ok-item-in-Function
returns-in_ok-item-in-Function c = a_function c.in-Function.number c.in-Function.is refl c.in_ok-item-in-Function.ensures

pub returns-in-Declares : goal.returns-in-Declares
returns-in-Declares c = a_type c.in-Declares.part c.in-Declares.field-1 c.number.result.0 c.in-Declares.is refl c.number.ensures
