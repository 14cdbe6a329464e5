use Rattle.std.proofs.Common.{map, take}
use Rattle.text_trees.specs.TextTreesSeen.{text_item_of}
use Rattle.text_plain.specs.Plain.{worlds_in}
use Rattle.text_plain.specs.Scopes.{aliases_in, home_of_scope}
use Rattle.text_plain.specs.Worlds.{AddsWorlds}
use Rattle.text_plain.proofs.worlds.add_scope.Given as goal

-- the worlds among the items so far are added
abbrev pub invariant-loop-item : goal.invariant-loop-item
invariant-loop-item l = AddsWorlds l.fn.worlds (worlds_in (home_of_scope l.scope) (aliases_in l.scope) (map (text_item_of l.scope.place.from.now) (take l.item-index l.scope.items.now.items))) l.worlds
