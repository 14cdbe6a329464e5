use Rattle.std.proofs.Common.{◌≡◌, ◌++◌, drop}
use Rattle.std.specs.List.{flat_map}
use Rattle.plan_types.specs.Showings.{signatures_of_seen}
use Rattle.plan_types.proofs.showings.add_all_signatures.Given as goal

-- those that were added, and those of what is left, are all
abbrev pub invariant-loop-item : goal.invariant-loop-item
invariant-loop-item l = l.all.items ++ flat_map signatures_of_seen (drop l.item-index l.items) ≡ l.initial.all.items ++ flat_map signatures_of_seen l.items
