use Rattle.print_uses.proofs.UseGroups.{use_labels}
use Rattle.print_uses.proofs.use_group.write_new_group.Goals as goal

pub write_used_name-requires-clause-own : goal.write_used_name-requires-clause-own
write_used_name-requires-clause-own g c = let labels = use_labels c.args.resolve.now c.args.here c.args.used c.requires.printable in labels.0

pub write_used_name-requires-clause-other : goal.write_used_name-requires-clause-other
write_used_name-requires-clause-other g c = let labels = use_labels c.args.resolve.now c.args.here c.args.used c.requires.printable in labels.1
