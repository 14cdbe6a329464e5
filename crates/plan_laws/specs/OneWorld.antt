-- A plan that was made of what was followed of one world, beside the interfaces of its own package that it shows (WIT.md, "Worlds"; Component Model
-- WIT.md, "Package Format").
use Rattle.std.specs.Prelude.{◌≡◌, ℕ, true, List, [], ◌∷◌, Some}
use Rattle.std.specs.List.{AllByRecursion, Contains, flat_map, list_any}
use Rattle.comp_meaning.specs.Reads.{world_with}
use Rattle.plan_meaning.specs.NumberedMembers.{Homes, NumberedMember, NumberedPart, home_at, interface, is_interface_of, is_of_package, is_one_world, world}
use Rattle.plan_meaning.specs.{NumberedRules.Fact, Plan.Plan, PlanMeaning.plan_world_meaning}
use Rattle.plan_meaning.specs.{NumberedViews.NumberedSight, NumberedViews.NumberedView, NumberedViews.Tables, NumberedViews.first_at, PlanRules.IsWorldPlan}
use Rattle.plan_meaning.specs.{NumberedWorlds.NumberedScope, NumberedWorlds.Shows, NumberedWorlds.are_once, NumberedWorlds.sights_of_scope, ReadPlans.FitsInput}
use Rattle.read_exports.specs.declared.members.Member.{Member}
use Rattle.read_exports.specs.Members.{numbered_members}
use Rattle.read_rules.specs.declared.scopes.Scope.{Scope}
use Rattle.read_rules.specs.Scopes.{numbered_scope}
use Rattle.plan_package.specs.PlanWhole.{PlansWhole}
use Rattle.plan_laws.specs.{Whole.IsPackageInput, WholePlan.IsWholeInput}
use Rattle.comp_meaning.specs.Follow as follow
use Rattle.comp_meaning.specs.Reads as reads
use Rattle.read_exports.specs.declared.members.Part.TheVariants as parts

-- ---- a world as a package

-- An interface of the package that the world shows, as if it were exported: by the first view that the world gives of it, under its name.
pub record IsOwnInterface (t : Tables) (h : Homes) (n : ℕ) (w : NumberedScope) (m : NumberedMember) : Type 0 where
  pub place : ℕ
  pub view : NumberedView
  pub part : m.part ≡ interface place view []
  pub package_ : m.package_ ≡ n
  pub home : home_at h place ≡ Some (n, m.label)
  pub first : NumberedSight
  pub shown : first_at place (sights_of_scope t w) ≡ Some first
  pub is : first.view ≡ view

-- the place of an interface
abbrev pub place_of_part : NumberedPart → List ℕ
place_of_part (world w) = []
place_of_part (interface p v imports) = p ∷ []

-- The interfaces of the package that the world shows, all of them, each once.
pub record AreOwnInterfaces (t : Tables) (h : Homes) (n : ℕ) (w : NumberedScope) (ms : List NumberedMember) : Type 0 where
  pub each : AllByRecursion (IsOwnInterface t h n w) ms
  pub all : (s : NumberedSight) → Contains (sights_of_scope t w) s → is_of_package h n s.place ≡ true → list_any (λ m. is_interface_of s.place m.part) ms ≡ true
  pub once : are_once (flat_map (λ m. place_of_part m.part) ms) ≡ true

-- ---- laws

-- What was followed of one world, beside the interfaces of its package that it shows.
pub record IsWorldInput (t : Tables) (h : Homes) (known : ℕ → Fact) (n : ℕ) (m : Member) (own : List Member) (scope : follow.Scope) : Type 0 where
  pub world : Scope
  pub is : m.part ≡ parts.World world
  pub own_ : AreOwnInterfaces t h n (numbered_scope world) (numbered_members own)
  pub obeys : is_one_world t h known n m.label.now (numbered_scope world) ≡ true
  pub shows : Shows t (numbered_scope world) scope

-- The plan is that of one world, and means what the world does.
pub record IsWholeWorldPlan (t : Tables) (h : Homes) (n : ℕ) (m : Member) (own : List Member) (input : IsWholeInput t h n (m ∷ own)) (scope : follow.Scope)
    (p : Plan) : Type 0 where
  pub plan : IsWorldPlan p
  pub means : plan_world_meaning p ≡ world_with input.identity m.label.now scope

-- Where the world and those interfaces are a package, the plan of that package is the plan of the world.
abbrev pub WorldPlanIsWhole : Type 0
WorldPlanIsWhole = (t : Tables) (h : Homes) (known : ℕ → Fact) (n : ℕ) (m : Member) (own : List Member) (members : List reads.Member)
    → IsPackageInput t h known n (m ∷ own) members → (input : IsWholeInput t h n (m ∷ own))
    → (scope : follow.Scope) → IsWorldInput t h known n m own scope → (p : Plan) → PlansWhole t h.packages (home_at h) n (m ∷ own) p → FitsInput p
    → IsWholeWorldPlan t h n m own input scope p
