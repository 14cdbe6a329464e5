use Rattle.std.proofs.Common.{◌∙◌, ap, length, List, Vec, subst, sym}
use Rattle.std.proofs.lemmas.Slice.Zip.{AllZip-long}
use Rattle.std.specs.declared.alloc.Global.{Global}
use Rattle.text_names.specs.{Orders.links_of, Paths.IsNeedsOf}
use Rattle.text_plain.specs.Orders.{AreWithin}
use Rattle.text_names.specs.declared.needs.Need.{Need}
use Rattle.wit_text.proofs.read.resolve_of.Goals as goal

pub order_of_interfaces-requires : goal.order_of_interfaces-requires
order_of_interfaces-requires c = subst (λ (ns : List (Vec Need Global)). AreWithin (links_of ns)) (sym c.deref.ensures.value) c.in_ok-needs.ensures.within

pub resolve_in-requires-clause-many : goal.resolve_in-requires-clause-many
resolve_in-requires-clause-many c =
    ap length c.deref-2.ensures.value
    ∙ AllZip-long (IsNeedsOf c.args.sources.now) c.args.sources.now.interfaces.items c.in_ok-needs.needs.items c.in_ok-needs.ensures.needs
