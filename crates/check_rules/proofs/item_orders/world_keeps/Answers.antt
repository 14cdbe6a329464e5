use Rattle.std.proofs.{Common.refl, Common.sym, Common.ap, Common.◌∙◌, Common.◌&&◌, Common.false, Common.Some, Common.option_map, lemmas.Option.slice_get_read}
use Rattle.indexmap.specs.IndexMap.{values}
use Rattle.wit_model.specs.Uses.{items_of}
use Rattle.wit_model.specs.{Rules.each_from, Rules.passes, Valid.item_function, Valid.order_of_items, ItemOrders.reaches_within, ItemOrders.uses_are_shown}
use Rattle.check_rules.proofs.ItemOrders.{items_stand}
use Rattle.check_rules.proofs.item_orders.world_keeps.Goals as goal

pub returns : goal.returns
unfolding order_of_items
returns c =
    let r = c.args.resolve.now in
    let w = c.index.result.now in
    let at = slice_get_read r.worlds.items _ c.args.number w refl c.requires.in_range c.index.ensures in
    ap (option_map (order_of_items.world_ r c.args.number)) at ∙ ap Some (sym
    (c.in_ok-stands.ensures ∙ (ap (λ f. uses_are_shown r (λ n. false) (items_of w) && each_from (λ p item. passes (reaches_within f p) (item_function item)) 0 (values w.imports))
    (λ j m. c.requires.table m j) ∙ sym (items_stand r c.requires.order c.requires.owners c.requires.names c.args.number w at))))
