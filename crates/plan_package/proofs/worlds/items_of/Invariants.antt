use Rattle.std.proofs.Common.{map, take}
use Rattle.std.specs.List.{AllZip}
use Rattle.plan_build.specs.PlanOf.{stated_entry}
use Rattle.plan_parts.specs.Functions.{found_under}
use Rattle.read_rules.specs.Tables.{numbered_tables}
use Rattle.plan_package.specs.WholeWorlds.{PlansItem}
use Rattle.plan_package.proofs.worlds.items_of.Given as goal

-- so many items
abbrev pub invariant-loop-seen : goal.invariant-loop-seen
invariant-loop-seen l = AllZip (PlansItem (numbered_tables l.tables) l.kept l.places.keys (found_under l.resources.entries)) (take l.seen-index l.all_seen) (map stated_entry l.items.items)
