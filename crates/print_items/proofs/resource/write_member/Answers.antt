use Rattle.std.proofs.Common.{rules as std_rules, ap}
use Rattle.print_items.proofs.Constructors.{constructor_well, is_constructor, member_named}
use Rattle.base_lemmas.proofs.Bools.{left_of, right_of}
use Rattle.print_items.proofs.resource.write_member.Goals as goal

pub write_constructor-requires : goal.write_constructor-requires
write_constructor-requires g c = search (std_rules, constructor_well)

pub write_static-requires : goal.write_static-requires
write_static-requires g c = search (std_rules, left_of, right_of, member_named c.args.resolve.now c.args.function.now c.requires.well (ap is_constructor c.in-Static.is))

pub write_static-requires-in-AsyncStatic : goal.write_static-requires-in-AsyncStatic
write_static-requires-in-AsyncStatic g c = search (std_rules, left_of, right_of, member_named c.args.resolve.now c.args.function.now c.requires.well (ap is_constructor c.in-AsyncStatic.is))

pub write_method-requires : goal.write_method-requires
write_method-requires g c = search (std_rules, left_of, right_of, member_named c.args.resolve.now c.args.function.now c.requires.well (ap is_constructor c.in-Method.is))

pub write_method-requires-in-AsyncMethod : goal.write_method-requires-in-AsyncMethod
write_method-requires-in-AsyncMethod g c = search (std_rules, left_of, right_of, member_named c.args.resolve.now c.args.function.now c.requires.well (ap is_constructor c.in-AsyncMethod.is))

pub write_method-requires-in-Freestanding : goal.write_method-requires-in-Freestanding
write_method-requires-in-Freestanding g c = search (std_rules, left_of, right_of, member_named c.args.resolve.now c.args.function.now c.requires.well (ap is_constructor c.in-Freestanding.is))

pub write_method-requires-in-AsyncFreestanding : goal.write_method-requires-in-AsyncFreestanding
write_method-requires-in-AsyncFreestanding g c = search (
  std_rules,
  left_of,
  right_of,
  member_named c.args.resolve.now c.args.function.now c.requires.well (ap is_constructor c.in-AsyncFreestanding.is),
)
