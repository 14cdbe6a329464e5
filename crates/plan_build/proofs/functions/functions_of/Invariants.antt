use Rattle.std.proofs.Common.{◌≡◌, true, map, take}
use Rattle.std.specs.List.{list_all}
use Rattle.indexmap.specs.IndexMap.{values}
use Rattle.wit_model.specs.Rules.{are_distinct}
use Rattle.plan_meaning.specs.Built.{is_bare_function}
use Rattle.plan_build.specs.PlanOf.{built_function, named_function}
use Rattle.plan_build.proofs.functions.functions_of.Given as goal

abbrev pub invariant-loop-function : goal.invariant-loop-function
invariant-loop-function l = record {
  built : are_distinct (map (λ f. f.name.now) l.functions) ≡ true → map built_function l.built.entries ≡ map named_function (take l.function-index l.functions);
  bare : are_distinct (map (λ f. f.name.now) l.functions) ≡ true → list_all is_bare_function (values l.built) ≡ true;
}
