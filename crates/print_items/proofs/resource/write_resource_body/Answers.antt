use Rattle.print_items.proofs.{Constructors.block_of, Driven.driven3}
use Rattle.print_items.proofs.resource.write_resource_body.Goals as goal

pub returns : goal.returns
returns g c = record {
  calls = driven3 c.indent_start.ensures.calls c.write_members.ensures.calls c.indent_end.ensures.calls (block_of c.args.emits_docs c.args.resolve.now c.args.functions.now c.if-is_empty.ensures);
}
