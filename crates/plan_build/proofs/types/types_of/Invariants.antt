use Rattle.std.proofs.Common.{◌≡◌, true, map, take}
use Rattle.std.specs.List.{list_all}
use Rattle.plan_meaning.specs.Built.{is_bare_type, planned_type}
use Rattle.plan_build.specs.PlanOf.{stated_type}
use Rattle.plan_build.proofs.types.types_of.Given as goal

abbrev pub invariant-loop-ty : goal.invariant-loop-ty
invariant-loop-ty l = record { built : map planned_type l.built.items ≡ map stated_type (take l.ty-index l.types); bare : list_all is_bare_type l.built.items ≡ true }
