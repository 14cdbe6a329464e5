use Rattle.comp_bytes.proofs.HeldLaws.{slots_counted}
use Rattle.comp_bytes.proofs.instance.InstanceType.type_count.Goals as goal

pub returns : goal.returns
returns c = rw (← c.self.view_is) (slots_counted _ _ _ c.self.invariant)
