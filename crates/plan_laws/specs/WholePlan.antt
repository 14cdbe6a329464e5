-- A plan that was made of what was followed of a package is one that was read, whole, and means what was followed (Component Model WIT.md, "Package
-- Format").
use Rattle.std.specs.Prelude.{◌≡◌, ◌<◌, ◌⊎◌, ℕ, List, length, Some, slice_get}
use Rattle.std.specs.List.{Contains}
use Rattle.wit_model.specs.Names.{PackageIdentity}
use Rattle.read_homes.specs.Homes.{ArePackages, HasPlace}
use Rattle.plan_meaning.specs.{NumberedMembers.Homes, NumberedMembers.home_at, PlanMeaning.plan_meaning, PlanRules.IsPackagePlan, ReadWholes.IsReadPackagePlan}
use Rattle.plan_meaning.specs.{NumberedRules.Fact, NumberedViews.Tables, NumberedWorlds.HasPath, Plan.Plan, ReadPlans.FitsInput}
use Rattle.read_exports.specs.declared.members.Member.{Member}
use Rattle.plan_package.specs.PlanWhole.{PlansWhole, places_in}
use Rattle.plan_laws.specs.{Apart.FirstsRise, ShownWhole.AreReached, Whole.IsPackageInput, WholePlaces.LabelsStand}
use Rattle.plan_laws.specs.{ViewedInterfaces.views_read, WholeFunctions.beside_tables, WholeTypes.TypesAreWhole, WholeWorlds.WorldsAreFollowed}
use Rattle.comp_meaning.specs.Reads as reads

-- the package of this number is that of something that is exported
pub record IsOfMember (ms : List Member) (c : ℕ) : Type 0 where
  pub member : Member
  pub among : Contains ms member
  pub is : member.package_number ≡ c

-- What was followed is whole. Each package is that of a path, of a place or of what is exported, and the package itself is one of them. The
-- labels of what is exported differ. Names came into the table in their order, those of the first views and of the imports of worlds. Each
-- place under a path is met, and what the component type of an interface imports is reached.
pub record IsWholeInput (t : Tables) (h : Homes) (n : ℕ) (ms : List Member) : Type 0 where
  pub packages : ArePackages h.packages
  pub identity : PackageIdentity
  pub stands : slice_get h.packages n ≡ Some identity
  pub sources : (c : ℕ) → c < length h.packages → IsOfMember ms c ⊎ HasPlace h.homes c
  pub labels : LabelsStand ms
  pub rise : FirstsRise t ms
  pub followed : WorldsAreFollowed t ms
  pub met : (q : ℕ) → HasPath t q → Contains (places_in ms) q
  pub reached : AreReached t ms

-- The plan is read as a package, so it is the plan of one, and it means what the members do.
pub record IsWholePlan (t : Tables) (h : Homes) (known : ℕ → Fact) (n : ℕ) (ms : List Member) (members : List reads.Member) (identity : PackageIdentity)
    (p : Plan) (planned : PlansWhole t h.packages (home_at h) n ms p) : Type 0 where
  pub whole : TypesAreWhole t planned.kept ms p
  pub read : IsReadPackagePlan t h planned.kept p (beside_tables known whole.marks.marks ms) (views_read ms)
  pub plan : IsPackagePlan p
  pub means : plan_meaning p ≡ reads.package_with identity members

-- The plan of what was followed of a package is so, where it fits in numbers of 32 bits.
abbrev pub PlanIsWhole : Type 0
PlanIsWhole = (t : Tables) (h : Homes) (known : ℕ → Fact) (n : ℕ) (ms : List Member) (members : List reads.Member) → IsPackageInput t h known n ms members
    → (input : IsWholeInput t h n ms)
    → (p : Plan) (planned : PlansWhole t h.packages (home_at h) n ms p) → FitsInput p → IsWholePlan t h known n ms members input.identity p planned
