use Rattle.std.proofs.Common.{map, take}
use Rattle.std.specs.List.{AllZip}
use Rattle.plan_build.specs.PlanOf.{stated_params}
use Rattle.read_rules.specs.Tables.{param_of}
use Rattle.plan_parts.specs.Functions.{KeptParam}
use Rattle.plan_parts.proofs.functions.params_of.Given as goal

abbrev pub invariant-loop-param : goal.invariant-loop-param
invariant-loop-param l = AllZip (KeptParam l.kept) (map param_of (take l.param-index l.params)) (stated_params l.planned.items)
