use Rattle.std.proofs.Common.{◌≡◌, map, take}
use Rattle.text_trees.specs.TextTreesSeen.{text_item_of}
use Rattle.text_plain.specs.Plain.{aliases_of}
use Rattle.text_plain.specs.Scopes.{routes_seen}
use Rattle.text_plain.proofs.scopes.routes_of.Given as goal

-- the names of the items so far stand in the table
abbrev pub invariant-loop-item : goal.invariant-loop-item
invariant-loop-item l = routes_seen l.place.whole.now l.tops.routes.entries ≡ aliases_of (map (text_item_of l.place.from.now) (take l.item-index l.items))
