-- The types of a plan, by the types of the table that are kept (WIT.md, "Types"; Binary.md, "Type Definitions").
use Rattle.std.specs.Prelude.{◌≡◌, ◌==◌, ℕ, List, Option, Some, None, map, slice_get, position}
use Rattle.std.specs.{List.AllZip, Option.option_map_or}
use Rattle.wit_model.specs.declared.model.TypeOwner.{TypeOwner}
use Rattle.wit_model.specs.{Text.Text, Valid.as_interface, Valid.as_world}
use Rattle.plan_meaning.specs.{NumberedRules.name_in, NumberedViews.Tables, Plan.PlannedType, Shapes.Shape}
use Rattle.plan_parts.specs.Kinds.{IsFormed, IsFormOver, IsKindFor, MayBeDeclared}
use Rattle.plan_types.specs.{Showings.NumberedShowing, FirstShown.showing_at}
use Rattle.plan_types.specs.declared.showings.Showing.{Showing}
use Rattle.plan_build.specs.PlanOf.{stated_type}
use Rattle.plan_build.specs.declared.plan.PlannedType.{PlannedType as BuiltType}
use Rattle.wit_model.specs.declared.model.TypeOwner.TheVariants as owner

-- ---- owners

-- the number of a place among some
abbrev pub number_in : List ℕ → ℕ → Option ℕ
number_in places p = position (λ q. p == q) places

-- the interface whose place it is, or the world
abbrev pub owner_in : List ℕ → List ℕ → ℕ → TypeOwner
owner_in places homes p = option_map_or as_interface (number_in places p) (option_map_or as_world (number_in homes p) owner.None)

-- ---- types

module _ (t : Tables) (kept : List ℕ) (find : ℕ → Option NumberedShowing) where
  -- What it is made of is kept: the parts of a form, or what a name is shown as.
  pub data MayBePlanned (n : ℕ) : Type 0 where
    a_form : (s : Shape) → slice_get t.shapes n ≡ Some s → name_in s ≡ None → IsFormOver kept s → MayBePlanned n
    a_name : (s : Shape) (q : ℕ) (name : Text) (x : NumberedShowing) → slice_get t.shapes n ≡ Some s → name_in s ≡ Some (q, name) → find n ≡ Some x
        → MayBeDeclared t kept x.declared → MayBePlanned n

  -- The type of the plan: unnamed, of its form over the types that are kept, or named in its place, of the kind that it is shown as.
  pub data PlansType (owners : ℕ → TypeOwner) (n : ℕ) (x : PlannedType) : Type 0 where
    unnamed : (s : Shape) → slice_get t.shapes n ≡ Some s → name_in s ≡ None → x.name ≡ None → x.owner ≡ owner.None → x.external_id ≡ None
        → IsFormed kept s x.kind → PlansType owners n x
    named : (s : Shape) (q : ℕ) (name : Text) (y : NumberedShowing) → slice_get t.shapes n ≡ Some s → name_in s ≡ Some (q, name) → find n ≡ Some y
        → x.name ≡ Some name → x.owner ≡ owners q → x.external_id ≡ y.external_id
        → IsKindFor t kept y.declared x.kind → PlansType owners n x

-- the types of the plan for those of the table that are kept, in order, by the table of what each is shown as first
abbrev pub PlansTypes : Tables → List ℕ → List (Option Showing) → (ℕ → TypeOwner) → List BuiltType → Type 0
PlansTypes t kept first owners types = AllZip (PlansType t kept (showing_at first) owners) kept (map stated_type types)
