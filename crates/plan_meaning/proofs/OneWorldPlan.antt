-- A worked example: the plan of a package of one world with functions means what its bytes mean, as a package and as a world.
use Rattle.std.proofs.Common.{rules, ◌≡◌, refl, ℕ, [], ◌∷◌, Some, None}
use Rattle.std.specs.Prelude.{codes}
use Rattle.wit_model.specs.{Text.Text}
use Rattle.plan_meaning.specs.{Shapes.part_tree, PlanRules.IsPlan, PlanRules.HoldsNoMore, PlanRules.IsPackagePlan}
use Rattle.plan_meaning.specs.Plan.{Plan, PlannedFunction, PlannedInterface, function, label, PlannedWorld, met_in, resource_marks, trees_in, interface_in}
use Rattle.wit_model.specs.declared.model.FunctionKind.TheVariants as call

abbrev unit_function : Text → PlannedFunction
unit_function name = record { name = name; kind = call.Freestanding; params = []; result = None; external_id = None }

abbrev foo : PlannedWorld
foo = record {
  name = codes "foo";
  package_ = Some 0;
  imports = (label (codes "host"), function (unit_function (codes "host"))) ∷ [];
  exports = (label (codes "guest"), function (unit_function (codes "guest"))) ∷ [];
}

-- package a:b; world foo { import host: func(); export guest: func(); }
abbrev one_plan : Plan
one_plan = record {
  packages = record { identity = record { namespace = codes "a"; name = codes "b"; version = None }; interfaces = []; worlds = (codes "foo", 0) ∷ [] } ∷ [];
  interfaces = [];
  worlds = foo ∷ [];
  types = [];
  main = 0;
}

is_plan : IsPlan one_plan
unfolding met_in resource_marks trees_in part_tree
is_plan = search rules

no_interface : {A : Type 0} (n : ℕ) (i : PlannedInterface) → interface_in one_plan n ≡ Some i → A
no_interface n i e = let wrong : ⊥ = cc in absurd wrong

no_more : HoldsNoMore one_plan
no_more = record { types = refl; packages = refl }

is_package_plan : IsPackagePlan one_plan
is_package_plan = record { plan = is_plan; no_more = no_more; main = refl; worlds = refl; wanted = λ n i e h. no_interface n i e; bare = λ n i e h hidden. no_interface n i e }
