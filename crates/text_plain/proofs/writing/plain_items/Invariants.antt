use Rattle.std.proofs.Common.{map, take, []}
use Rattle.text_trees.specs.TextTreesSeen.{text_item_of}
use Rattle.text_plain.specs.FilesSeen.{item_of}
use Rattle.text_plain.specs.Files.{PlainsAll}
use Rattle.text_plain.proofs.writing.plain_items.Given as goal

-- the items so far are written out
abbrev pub invariant-loop-item : goal.invariant-loop-item
invariant-loop-item l = PlainsAll l.scope.place.whole.now l.scope (map (text_item_of l.scope.place.from.now) (take l.item-index l.scope.items.now.items)) l.fn.queue.items l.queue.items
    [] (map (item_of l.scope.place.whole.now) l.items.items)
