use Rattle.std.proofs.Common.{arith, ap, length, map}
use Rattle.text_plain.specs.FilesSeen.{item_of}
use Rattle.text_plain.proofs.FileLaws.{items_end, items_turn, nothing_plain}
use Rattle.text_plain.proofs.writing.plain_items.Goals as goal

pub loop-item-init : goal.loop-item-init
loop-item-init c = nothing_plain c.args.scope.now.place.whole.now c.args.scope.now c.args.queue.now.items _ (ap (map (item_of c.args.scope.now.place.whole.now)) c.new-items.ensures.items)

pub loop-item-preserved : goal.loop-item-preserved
loop-item-preserved c = items_turn c.args.scope.now.place.whole.now c.args.scope.now c.args.scope.now.items.now.items c.loop-item.item-index c.item-item.result c.args.queue.now.items
    c.loop-item.queue.items c.add_item.new.queue.items _ _ (omega (arith, ap length c.deref-item-items.ensures.value, c.loop-item-test.true))
    (cc (c.item-item.is, c.deref-item-items.ensures.value)) c.loop-item.invariant c.in_ok-add_item.ensures

pub returns : goal.returns
returns c = items_end c.args.scope.now.place.whole.now c.args.scope.now c.args.scope.now.items.now.items c.loop-item.item-index c.args.queue.now.items c.loop-item.queue.items _
    (omega (arith, ap length c.deref-item-items.ensures.value, c.loop-item-test.false)) c.loop-item.invariant
