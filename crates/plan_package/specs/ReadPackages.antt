-- The packages of a plan that was made of what is exported are those of a plan that was read (WIT.md, "Package declaration").
use Rattle.std.specs.Prelude.{◌≡◌, ℕ, true, not, List, map, Some, slice_get}
use Rattle.std.specs.List.{AllByRecursion, list_all, list_any}
use Rattle.wit_model.specs.declared.model.TypeOwner.{TypeOwner}
use Rattle.wit_model.specs.{Text.Text, Text.text_eq, Valid.as_interface}
use Rattle.comp_meaning.specs.Rules.{distinct}
use Rattle.read_homes.specs.Homes.{ArePackages}
use Rattle.read_exports.specs.declared.members.Member.{Member}
use Rattle.read_rules.specs.declared.scopes.Scope.{Scope}
use Rattle.plan_meaning.specs.{NumberedMembers.Homes, NumberedMembers.home_at, NumberedViews.Tables}
use Rattle.plan_meaning.specs.{NumberedWorlds.HasPath, NumberedWorlds.are_once, Plan.Plan, Plan.PlannedPackage, Plan.package_in, ReadPlaces.IsReadPackage}
use Rattle.plan_package.specs.{PlanWhole.places_in, PlanWhole.PlansWhole, WholePackages.interfaces_in, WholeWorlds.worlds_in}

-- the labels of the worlds that are exported
abbrev pub world_labels : List Member → List Text
world_labels ms = map (λ (w : Text × Scope). w.0) (worlds_in ms)

-- Each interface is exported once, under its name in the package of this number; and the labels of worlds differ, also from these.
pub record AreExported (h : Homes) (n : ℕ) (ms : List Member) : Type 0 where
  pub homes : AllByRecursion (λ (x : Text × ℕ). home_at h x.1 ≡ Some (n, x.0)) (interfaces_in ms)
  pub once : are_once (map (λ (x : Text × ℕ). x.1) (interfaces_in ms)) ≡ true
  pub labels : distinct (world_labels ms) ≡ true
  pub apart : list_all (λ (x : Text × ℕ). not (list_any (text_eq x.0) (world_labels ms))) (interfaces_in ms) ≡ true

-- Then each package of the plan of it is that of a plan that was read, where homes are those of places with a path, and a place that is met has the
-- interface of its number as its owner.
abbrev pub PackagesAreRead : Type 0
PackagesAreRead = (t : Tables) (h : Homes) → ArePackages h.packages → ((q : ℕ) (x : ℕ × Text) → home_at h q ≡ Some x → HasPath t q) → (n : ℕ) (ms : List Member)
    → AreExported h n ms
    → (owners : ℕ → TypeOwner) → ((m q : ℕ) → slice_get (places_in ms) m ≡ Some q → owners q ≡ as_interface m)
    → (p : Plan) → PlansWhole t h.packages (home_at h) n ms p → (m : ℕ) (k : PlannedPackage) → package_in p m ≡ Some k → IsReadPackage t h p owners m k
