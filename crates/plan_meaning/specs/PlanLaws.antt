-- Laws of plans: a `Resolve` that is built from a plan that was read is valid, and means what the plan means.
use Rattle.std.specs.Prelude.{◌≡◌, ◌↔◌, Some}
use Rattle.wit_model.specs.declared.model.{Resolve.Resolve, Package.Package, World.World}
use Rattle.wit_model.specs.{Lookup.package_at, Lookup.world_at, Meaning.PackageMeaning, Meaning.WorldPackage, Meant.Meant, Meant.MeantWorld, Valid.IsValid}
use Rattle.plan_meaning.specs.{Plan.Plan, PlanMeaning.plan_meaning, PlanMeaning.plan_world_meaning, Built.IsBuilt}
use Rattle.plan_meaning.specs.{PlanRules.IsPlan, PlanRules.IsPackagePlan, PlanRules.IsWorldPlan, NothingElse.HoldsPackageAlone, NothingElse.HoldsWorldAlone}

-- A `Resolve` that is built from a plan that was read is valid.
abbrev pub BuiltIsValid : Type 0
BuiltIsValid = (p : Plan) (r : Resolve) → IsPlan p → IsBuilt p r → IsValid r

-- Its main package means exactly what the plan of a package means.
abbrev pub PackageIsMeant : Type 0
PackageIsMeant = (p : Plan) (r : Resolve) → IsPackagePlan p → IsBuilt p r → (m : PackageMeaning) → Meant r p.main m ↔ (plan_meaning p ≡ Some m)

-- Its one world means exactly what the plan of a world means.
abbrev pub WorldIsMeant : Type 0
WorldIsMeant = (p : Plan) (r : Resolve) → IsWorldPlan p → IsBuilt p r → (m : WorldPackage) → MeantWorld r 0 m ↔ (plan_world_meaning p ≡ Some m)

-- Nothing stands in it beyond what the package, or the world, means.
abbrev pub PackageStandsAlone : Type 0
PackageStandsAlone = (p : Plan) (r : Resolve) → IsPackagePlan p → IsBuilt p r → (q : Package) → package_at r p.main ≡ Some q → HoldsPackageAlone r p.main q

abbrev pub WorldStandsAlone : Type 0
WorldStandsAlone = (p : Plan) (r : Resolve) → IsWorldPlan p → IsBuilt p r → (w : World) → world_at r 0 ≡ Some w → HoldsWorldAlone r p.main w
