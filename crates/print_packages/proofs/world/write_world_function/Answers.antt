use Rattle.std.proofs.Common.{append_assoc}
use Rattle.print_items.specs.Shown.{function_prefix}
use Rattle.print_grammar.specs.Calls.{prefix_calls}
use Rattle.print_items.proofs.Driven.{driven_on}
use Rattle.print_packages.proofs.world.write_world_function.Goals as goal

pub returns : goal.returns
returns g c = record {
  calls = driven_on c.write_front.ensures.calls (rw c.deref.ensures at c.write_named.ensures.calls) (append_assoc (prefix_calls c.args.emits_docs (function_prefix c.args.function.now)) _ _);
}
