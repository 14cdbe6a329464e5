use Rattle.std.proofs.Common.{append_assoc}
use Rattle.print_items.specs.Shown.{shown_prefix}
use Rattle.print_grammar.specs.Calls.{prefix_calls}
use Rattle.print_items.proofs.Driven.{driven_on}
use Rattle.print_packages.proofs.world.write_labelled.Goals as goal

pub returns : goal.returns
returns g c = record {
  calls = driven_on c.write_front.ensures.calls c.write_labelled_path.ensures.calls
      (append_assoc (prefix_calls c.args.emits_docs (shown_prefix c.args.docs.now c.args.stability.now c.args.external_id.now)) _ _);
}
