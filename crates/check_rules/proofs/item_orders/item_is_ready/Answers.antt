use Rattle.std.proofs.Common.{sym, ap, ◌∙◌}
use Rattle.std.specs.List.{list_all}
use Rattle.wit_model.specs.{Rules.used_interfaces, ItemOrders.holds}
use Rattle.check_rules.proofs.UsesTable.{entry_ready}
use Rattle.check_rules.proofs.item_orders.item_is_ready.Goals as goal

pub returns-in-Interface : goal.returns-in-Interface
returns-in-Interface c =
    let r = c.args.resolve.now in
    c.interface_is_ready.ensures ∙ (entry_ready r c.args.uses.now c.requires c.in-Interface.id.0 (holds c.args.shown.now)
    ∙ ap (λ i. list_all (holds c.args.shown.now) (used_interfaces r i)) (sym c.in-Interface.is))
