use Rattle.std.proofs.Common.{◌≡◌, map, take}
use Rattle.plan_build.specs.PlanOf.{built_param, stated_params}
use Rattle.plan_build.proofs.functions.params_of.Given as goal

abbrev pub invariant-loop-param : goal.invariant-loop-param
invariant-loop-param l = map built_param l.built.items ≡ stated_params (take l.param-index l.params)
