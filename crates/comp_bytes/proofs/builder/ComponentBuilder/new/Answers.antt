use Rattle.comp_bytes.proofs.BuiltLaws.{nothing_kept}
use Rattle.comp_bytes.proofs.builder.ComponentBuilder.new.Goals as goal

pub invariant_of-result : goal.invariant_of-result
invariant_of-result c = rw (c.new.ensures.items, c.new-2.ensures.items) nothing_kept.builds

pub returns : goal.returns
returns c = rw (c.new.ensures.items, c.new-2.ensures.items) nothing_kept.shows
