use Rattle.std.proofs.{Common.refl, Common.◌∙◌, lemmas.Option.slice_get_read}
use Rattle.wit_model.specs.Checks.{list_orders, entry_of}
use Rattle.check_rules.proofs.{Found.said, ListOrders.world_order}
use Rattle.check_rules.proofs.list_orders.world_keeps.Goals as goal

pub returns : goal.returns
unfolding list_orders
returns c =
    let r = c.args.resolve.now in
    let at = slice_get_read r.worlds.items _ c.args.number c.index.result.now refl c.requires.in_range c.index.ensures in
    said (list_orders.world_ r) _ _ _ _ c.requires.in_range c.index.ensures (c.in_ok-stands.ensures
    ∙ world_order r c.requires.references c.requires.listings c.requires.owners (entry_of c.args.table.now) c.requires.table c.args.number c.index.result.now at)
