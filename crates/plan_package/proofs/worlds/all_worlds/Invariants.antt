use Rattle.std.proofs.Common.{map, take}
use Rattle.std.specs.List.{AllZip}
use Rattle.plan_build.specs.PlanOf.{stated_world}
use Rattle.read_rules.specs.Tables.{numbered_tables}
use Rattle.plan_package.specs.WholeWorlds.{labelled, PlansWorld}
use Rattle.plan_package.proofs.worlds.all_worlds.Given as goal

-- so many worlds
abbrev pub invariant-loop-world : goal.invariant-loop-world
invariant-loop-world l = AllZip (PlansWorld (numbered_tables l.tables) l.kept l.places.keys l.main.0) (map labelled (take l.world-index l.worlds)) (map stated_world l.all.items)
