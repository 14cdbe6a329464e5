-- The interfaces of a plan, each by the first view of its place and the functions of the first that shows some (WIT.md, "Interfaces").
use Rattle.std.specs.Prelude.{◌≡◌, ◌+◌, ℕ, List, Option, Some, option_map, is_some, true}
use Rattle.std.specs.{List.AllByRecursion, List.AllZip, Option.option_map_or}
use Rattle.wit_model.specs.declared.model.TypeId.{TypeId}
use Rattle.wit_model.specs.Text.{Text}
use Rattle.plan_meaning.specs.{GatheredPlan.functions_seen, Plan.PlannedInterface, Renumbering.IsPart}
use Rattle.plan_meaning.specs.NumberedViews.{NumberedFunction, NumberedSight, NumberedType, NumberedView, Tables, first_at}
use Rattle.plan_parts.specs.Interfaces.{slot_part, AreResources, IsFunctionOver, IsKeptSlot, IsPlannedFunction}

-- a package and the name of an interface in it
abbrev pub Home : Type 0
Home = ℕ × Text

-- the new number of a type under its name
abbrev pub ListsNumber : List ℕ → NumberedType → Text × ℕ → Type 0
ListsNumber kept x e = (e.0 ≡ x.name) × IsPart kept (slot_part x.slot) (14 + e.1)

-- Under its name in its package, or inline in the main package: the types of the view, and these functions, beside its resources.
pub record PlansInterface (t : Tables) (kept : List ℕ) (main : ℕ) (home : Option Home) (v : NumberedView) (fs : List (Text × NumberedFunction))
    (i : PlannedInterface) : Type 0 where
  pub name : i.name ≡ option_map (λ (h : Home). h.1) home
  pub package_ : i.package_ ≡ Some (option_map_or (λ (h : Home). h.0) home main)
  pub types : AllZip (ListsNumber kept) v.types i.types
  pub find : Text → Option TypeId
  pub resources : AreResources kept v.types find
  pub functions : AllZip (IsPlannedFunction t kept find) fs i.functions

-- All types and functions of the view are over what is kept.
pub record ViewIsKept (t : Tables) (kept : List ℕ) (v : NumberedView) : Type 0 where
  pub types : AllByRecursion (IsKeptSlot kept) v.types
  pub functions : AllByRecursion (IsFunctionOver t kept) v.functions

-- the interface of a place, by the first view of it
abbrev pub PlansPlace : Tables → List ℕ → ℕ → (ℕ → Option Home) → List NumberedSight → ℕ → PlannedInterface → Type 0
PlansPlace t kept main homes seen p i = (s : NumberedSight) → first_at p seen ≡ Some s → PlansInterface t kept main (homes p) s.view (functions_seen p seen) i

-- a view was seen of each of the places
abbrev pub AreSeen : List NumberedSight → List ℕ → Type 0
AreSeen seen places = AllByRecursion (λ p. is_some (first_at p seen) ≡ true) places

-- what the interface of a place is made of: the first view of the place, and the functions of the first that shows some
pub record IsSeenAs (seen : List NumberedSight) (p : ℕ) (v : NumberedView) (fs : List (Text × NumberedFunction)) : Type 0 where
  pub first : NumberedSight
  pub there : first_at p seen ≡ Some first
  pub view : first.view ≡ v
  pub functions : functions_seen p seen ≡ fs
