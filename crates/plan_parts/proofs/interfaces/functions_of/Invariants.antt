use Rattle.std.proofs.Common.{map, take}
use Rattle.std.specs.List.{AllZip}
use Rattle.plan_build.specs.PlanOf.{named_function}
use Rattle.read_rules.specs.{Tables.numbered_tables, Views.numbered_function}
use Rattle.plan_parts.specs.{Functions.found_under, Interfaces.IsPlannedFunction}
use Rattle.plan_parts.proofs.interfaces.functions_of.Given as goal

-- so many functions are made
abbrev pub invariant-loop-function : goal.invariant-loop-function
invariant-loop-function l = AllZip (IsPlannedFunction (numbered_tables l.tables) l.kept (found_under l.resources.entries)) (map numbered_function (take l.function-index l.functions))
    (map named_function l.planned.items)
