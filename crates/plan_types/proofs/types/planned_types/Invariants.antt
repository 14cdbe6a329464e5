use Rattle.std.proofs.Common.{map, take}
use Rattle.std.specs.List.{AllZip}
use Rattle.plan_build.specs.PlanOf.{stated_type}
use Rattle.read_rules.specs.Tables.{numbered_tables}
use Rattle.plan_types.specs.{FirstShown.showing_at, PlannedTypes.owner_in, PlannedTypes.PlansType}
use Rattle.plan_types.proofs.types.planned_types.Given as goal

-- so many types
abbrev pub invariant-loop-number : goal.invariant-loop-number
invariant-loop-number l = AllZip (PlansType (numbered_tables l.tables) l.kept (showing_at l.first) (owner_in l.places.keys l.homes.keys)) (take l.number-index l.kept) (map stated_type l.types.items)
