use Rattle.std.proofs.Common.{List, Vec, subst, sym}
use Rattle.std.specs.declared.alloc.Global.{Global}
use Rattle.text_names.specs.Orders.{links_of}
use Rattle.text_names.specs.declared.needs.Need.{Need}
use Rattle.text_types.proofs.NeedLaws.{found_order}
use Rattle.text_types.proofs.scope.Scope.order.Goals as goal
use Rattle.text_plain.specs.Orders.{AreWithin}

pub order_of-requires : goal.order_of-requires
order_of-requires c = subst (λ (ns : List (Vec Need Global)). AreWithin (links_of ns)) (sym c.deref.ensures.value) c.in_ok-all.ensures.within

pub returns-in-Numbers : goal.returns-in-Numbers
returns-in-Numbers c = record {
  order = found_order c.args.self.now c.in_ok-all.all.items c.deref.result.now c.in_ok-order.field-0 c.in-Numbers.order c.deref.ensures.value c.in-Numbers.is
      c.in_ok-all.ensures.long c.in_ok-order.ensures.order;
}
