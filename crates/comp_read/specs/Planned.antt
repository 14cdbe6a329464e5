-- What plans of members mean, and what is built of one (Component Model WIT.md, "Package Format").
use Rattle.std.specs.Prelude.{◌≡◌, ℕ, List, Option, Some}
use Rattle.wit_model.specs.declared.model.Resolve.{Resolve}
use Rattle.wit_model.specs.{Meaning.PackageMeaning, Meaning.WorldPackage, Names.PackageIdentity, Valid.IsValid}
use Rattle.read_follow.specs.declared.refusal.Refusal.{Refusal}
use Rattle.plan_meaning.specs.{Built.IsBuilt, NumberedViews.Tables, Plan.Plan, ReadPlans.FitsInput}
use Rattle.plan_meaning.specs.{PlanMeaning.plan_meaning, PlanMeaning.plan_world_meaning, PlanRules.IsPackagePlan, PlanRules.IsPlan, PlanRules.IsWorldPlan}
use Rattle.plan_build.specs.{Buildable.IsBuildable, MeansPlan.MeansPlan}
use Rattle.read_exports.specs.declared.members.Member.{Member}
use Rattle.plan_package.specs.{PlanWhole.PlansWhole, WholeInterfaces.Home}
use Rattle.read_follow.specs.declared.refusal.Refusal.TheVariants as refusals

-- The plan is that of a package, and means what was found.
pub record MeansFound (found : Option PackageMeaning) (p : Plan) : Type 0 where
  pub plan : IsPackagePlan p
  pub means : plan_meaning p ≡ found

-- So it is with each plan that is made of the members and fits in numbers of 32 bits.
abbrev pub PlansMean : Tables → List PackageIdentity → (ℕ → Option Home) → ℕ → List Member → Option PackageMeaning → Type 0
PlansMean t identities homes n ms found = (p : Plan) → PlansWhole t identities homes n ms p → FitsInput p → MeansFound found p

-- The plan is that of one world, and means what was found.
pub record MeansWorldFound (found : Option WorldPackage) (p : Plan) : Type 0 where
  pub plan : IsWorldPlan p
  pub means : plan_world_meaning p ≡ found
  pub meaning : WorldPackage
  pub is : found ≡ Some meaning

abbrev pub WorldPlansMean : Tables → List PackageIdentity → (ℕ → Option Home) → ℕ → List Member → Option WorldPackage → Type 0
WorldPlansMean t identities homes n ms found = (p : Plan) → PlansWhole t identities homes n ms p → FitsInput p → MeansWorldFound found p

-- ---- what is built

-- Each plan that is made of the members and fits in numbers of 32 bits can be built.
abbrev pub CanBeBuilt : Tables → List PackageIdentity → (ℕ → Option Home) → ℕ → List Member → Type 0
CanBeBuilt t identities homes n ms = (p : Plan) → PlansWhole t identities homes n ms p → FitsInput p → IsBuildable p

-- The `Resolve` is built of a plan of the members, whose main package has this number: it is the plan's, valid where that was read, and means what it does.
pub record IsBuiltOf (t : Tables) (identities : List PackageIdentity) (homes : ℕ → Option Home) (n : ℕ) (ms : List Member) (r : Resolve)
    (main : ℕ) : Type 0 where
  pub plan : Plan
  pub planned : PlansWhole t identities homes n ms plan
  pub fits : FitsInput plan
  pub main_is : plan.main ≡ main
  pub built : IsBuildable plan → IsBuilt plan r
  pub valid : IsPlan plan → IsValid r
  pub meant : MeansPlan plan r

-- memory ran out
abbrev pub IsMemory : Refusal → Type 0
IsMemory e = e ≡ refusals.Memory
