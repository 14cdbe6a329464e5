use Rattle.print_packages.proofs.PrintableItems.{key_path, label_well, function_known}
use Rattle.print_packages.proofs.items.print_item.Goals as goal

pub print_keyed-requires-clause-path : goal.print_keyed-requires-clause-path
print_keyed-requires-clause-path g c = key_path c.args.resolve.now c.args.here c.args.key.now c.args.item.now _ _ _ _ c.in-Interface.is c.requires.printable _ c.in-Interface-key.is

pub print_labelled-requires-clause-well : goal.print_labelled-requires-clause-well
print_labelled-requires-clause-well g c = rw c.deref.ensures (label_well c.args.resolve.now c.args.here c.args.key.now c.args.item.now _ _ _ _ c.in-Interface.is c.requires.printable _ c.in-Name.is)

pub print_world_function-requires-clause-prefix : goal.print_world_function-requires-clause-prefix
print_world_function-requires-clause-prefix g c = let known = function_known c.args.resolve.now c.args.here c.args.key.now c.args.item.now _ c.in-Function.is c.requires.printable in known.0

pub print_world_function-requires-clause-well : goal.print_world_function-requires-clause-well
print_world_function-requires-clause-well g c = let known = function_known c.args.resolve.now c.args.here c.args.key.now c.args.item.now _ c.in-Function.is c.requires.printable in known.1
