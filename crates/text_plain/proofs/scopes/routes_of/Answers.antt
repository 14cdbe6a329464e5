use Rattle.text_plain.proofs.ScopeLaws.{routes_turn}
use Rattle.text_plain.proofs.scopes.routes_of.Goals as goal

pub loop-item-preserved : goal.loop-item-preserved
loop-item-preserved c = routes_turn c.args.place.now.whole.now c.args.place.now.from.now c.args.items.now c.loop-item.item-index c.item-item.result _ _ c.loop-item-test.true c.item-item.is
    c.loop-item.invariant c.in_ok-add_item.ensures
