use Rattle.std.proofs.Common.{◌≡◌, ◌++◌, map, drop}
use Rattle.std.specs.List.{flat_map}
use Rattle.plan_types.specs.Showings.{numbered_showing, showings_of_seen}
use Rattle.plan_types.proofs.showings.add_items.Given as goal

-- those that were added, and those of what is left, are all
abbrev pub invariant-loop-item : goal.invariant-loop-item
invariant-loop-item l = map numbered_showing l.all.items ++ flat_map showings_of_seen (drop l.item-index l.items) ≡ map numbered_showing l.initial.all.items ++ flat_map showings_of_seen l.items
