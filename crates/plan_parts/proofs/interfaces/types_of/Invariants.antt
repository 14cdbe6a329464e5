use Rattle.std.proofs.Common.{map, take}
use Rattle.std.specs.List.{AllZip}
use Rattle.plan_build.specs.PlanOf.{stated_number}
use Rattle.read_rules.specs.Views.{numbered_type}
use Rattle.plan_parts.specs.{Functions.found_under, Interfaces.AreResources, Interfaces.ListsType}
use Rattle.plan_parts.proofs.interfaces.types_of.Given as goal

-- so many types are listed
abbrev pub invariant-loop-ty : goal.invariant-loop-ty
invariant-loop-ty l = record {
  types : AllZip (ListsType l.kept) (map numbered_type (take l.ty-index l.types)) (map stated_number l.planned.items);
  resources : AreResources l.kept (map numbered_type (take l.ty-index l.types)) (found_under l.resources.entries);
}
