use Rattle.text_types.specs.Kept.{defs_of}
use Rattle.wit_text.proofs.Ordered.{all_made}
use Rattle.wit_text.proofs.read.interfaces_of.Goals as goal

pub returns : goal.returns
returns c = record {
  made =
      all_made c.args.sources.now c.args.order.now c.add_interfaces.new.interfaces (defs_of c.add_interfaces.new.types) c.requires.all
      c.in_ok-add_interfaces.ensures.made;
}
