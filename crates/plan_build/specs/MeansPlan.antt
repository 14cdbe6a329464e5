-- When a `Resolve` means what a plan means.
use Rattle.std.specs.Prelude.{◌≡◌, ◌↔◌, Some}
use Rattle.wit_model.specs.declared.model.Resolve.{Resolve}
use Rattle.wit_model.specs.{Meaning.PackageMeaning, Meaning.WorldPackage, Meant.Meant, Meant.MeantWorld}
use Rattle.plan_meaning.specs.{Plan.Plan, PlanMeaning.plan_meaning, PlanMeaning.plan_world_meaning, PlanRules.IsPackagePlan, PlanRules.IsWorldPlan}

-- Its main package means exactly what the plan of a package means, and its one world what the plan of a world means.
pub record MeansPlan (p : Plan) (r : Resolve) : Type 0 where
  pub package_ : IsPackagePlan p → (m : PackageMeaning) → Meant r p.main m ↔ (plan_meaning p ≡ Some m)
  pub world : IsWorldPlan p → (m : WorldPackage) → MeantWorld r 0 m ↔ (plan_world_meaning p ≡ Some m)
