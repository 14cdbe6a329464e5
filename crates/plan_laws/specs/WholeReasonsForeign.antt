-- Why the interfaces of other packages stand in a plan that was made of what was followed (Component Model WIT.md, "Package Format").
use Rattle.std.specs.Prelude.{◌≡◌, ◌⊎◌, ℕ, true, false, List, ◌∷◌, map, Some}
use Rattle.std.specs.{List.AllByRecursion, List.Contains, Cmp.Lexicographic.pointwise}
use Rattle.wit_model.specs.Valid.{as_interface}
use Rattle.plan_meaning.specs.NumberedMembers.{Homes, NumberedMember, NumberedPart, home_at, interface, is_of_package, sights_of_members, world}
use Rattle.plan_meaning.specs.{NumberedRules.Fact, NumberedWorlds.HasPath, NumberedWorlds.NumberedInstance, NumberedWorlds.are_once, NumberedWorlds.are_reached}
use Rattle.plan_meaning.specs.{NumberedViews.NumberedSight, NumberedViews.NumberedView, NumberedViews.Tables, NumberedViews.same_shown, ReadFunctions.Beside}
use Rattle.plan_meaning.specs.{Plan.Plan, Plan.PlannedInterface, Plan.interface_in, ReadPlans.IsReadPlan, ReadWholes.IsSeenFor, ReadWholes.IsShownByWorld}
use Rattle.read_exports.specs.Members.{numbered_members}
use Rattle.read_exports.specs.declared.members.Member.{Member}
use Rattle.read_rules.specs.declared.scopes.Scope.{Scope}
use Rattle.read_rules.specs.Scopes.{numbered_scope}
use Rattle.plan_package.specs.PlanWhole.{PlansWhole}
use Rattle.plan_laws.specs.{Owners.owners_of, Whole.IsPackageInput}
use Rattle.comp_meaning.specs.Reads as reads
use Rattle.read_exports.specs.declared.members.Part.TheVariants as parts

-- the component type of an interface imports others, each of which is reached
abbrev pub PartIsReached : Tables → NumberedPart → Type 0
PartIsReached t (world w) = Unit {0}
PartIsReached t (interface p v imports) = (are_reached t imports v ≡ true) × (are_once (p ∷ map (λ (i : ℕ × NumberedView). i.0) imports) ≡ true)

module _ (t : Tables) (h : Homes) (kept : List ℕ) (p : Plan) (b : Beside) (views : ℕ → NumberedView) (read : IsReadPlan t h kept p b views) where
  -- A world of the plan shows each interface under a path that a world at the top shows, the view of a place shows the types that each view of it
  -- does, and what an interface imports is reached.
  pub record IsShownWhole (ms : List Member) : Type 0 where
    pub worlds : (m : Member) → Contains ms m → (w : Scope) → m.part ≡ parts.World w → (i : NumberedInstance) → Contains (numbered_scope w).instances i
        → HasPath t i.place → IsShownByWorld t h kept p b views read i.place
    pub agree : (s : NumberedSight) → Contains (sights_of_members t (numbered_members ms)) s → pointwise same_shown (views s.place).types s.view.types ≡ true
    pub reached : AllByRecursion (λ (m : NumberedMember). PartIsReached t m.part) (numbered_members ms)

  -- An interface of another package is there for a reason, and only a world or the package itself shows functions.
  pub record HasForeignReasons (seen : List NumberedSight) : Type 0 where
    pub reasons : (q n : ℕ) (i : PlannedInterface) → HasPath t q → b.owners q ≡ as_interface n → interface_in p n ≡ Some i → is_of_package h p.main q ≡ false
        → IsSeenFor t h kept p b views read q
    pub whole : (s : NumberedSight) → Contains seen s → s.whole ≡ true → IsShownByWorld t h kept p b views read s.place
        ⊎ (is_of_package h p.main s.place ≡ true)

-- Then all views that were followed are of such.
abbrev pub ForeignHasReasons : Type 0
ForeignHasReasons = (t : Tables) (h : Homes) (known : ℕ → Fact) (n : ℕ) (ms : List Member) (members : List reads.Member) → IsPackageInput t h known n ms members
    → (p : Plan) (planned : PlansWhole t h.packages (home_at h) n ms p)
    (b : Beside) → b.owners ≡ owners_of ms → (views : ℕ → NumberedView) (read : IsReadPlan t h planned.kept p b views)
    → IsShownWhole t h planned.kept p b views read ms
    → HasForeignReasons t h planned.kept p b views read (sights_of_members t (numbered_members ms))
