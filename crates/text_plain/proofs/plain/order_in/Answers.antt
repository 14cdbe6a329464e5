use Rattle.std.proofs.Common.{subst, sym, List, Vec}
use Rattle.std.specs.Global.{Global}
use Rattle.text_plain.specs.declared.needs.Need.{Need}
use Rattle.text_plain.specs.Orders.{AreWithin, links_of}
use Rattle.text_plain.proofs.plain.order_in.Goals as goal

pub order_of-requires : goal.order_of-requires
order_of-requires c = subst (λ (l : List (Vec Need Global)). AreWithin (links_of l)) (sym c.deref.ensures.value) c.in_ok-needs.ensures
