use Rattle.std.proofs.Common.{arith, ap, length}
use Rattle.text_plain.proofs.WorldLaws.{items_turn}
use Rattle.text_plain.proofs.worlds.add_scope.Goals as goal

pub loop-item-preserved : goal.loop-item-preserved
loop-item-preserved c = items_turn c.args.worlds.now c.loop-item.worlds c.add_item.new.worlds c.args.scope.now c.args.scope.now.items.now.items c.loop-item.item-index c.item-item.result
    (omega (arith, ap length c.deref-item-items.ensures.value, c.loop-item-test.true)) (cc (c.item-item.is, c.deref-item-items.ensures.value)) c.loop-item.invariant c.in_ok-add_item.ensures
