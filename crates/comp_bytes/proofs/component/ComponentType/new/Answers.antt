use Rattle.comp_bytes.proofs.HeldLaws.{none_nested, nothing_nested}
use Rattle.comp_bytes.proofs.component.ComponentType.new.Goals as goal

pub invariant_of-result : goal.invariant_of-result
invariant_of-result c = rw c.new.ensures.items none_nested

pub returns : goal.returns
returns c = rw c.new.ensures.items nothing_nested
