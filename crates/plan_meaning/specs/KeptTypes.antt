-- The types of a plan as those of the shapes that are kept, where what was read obeys the rules: then they pass the tests on types alone
-- (WIT.md, "Types"; Binary.md, "Type Validation").
use Rattle.std.specs.Prelude.{◌≡◌, ℕ, ◌<◌, ◌+◌, true, nat_le, nat_lt, List, Option, Some, None, slice_get}
use Rattle.std.specs.List.{AllZip, list_all}
use Rattle.wit_model.specs.{Text.Text, Names.is_label, Tree.Place, Tree.Form, Tree.levels, Rules.each_from}
use Rattle.comp_meaning.specs.Rules.{most_levels}
use Rattle.plan_meaning.specs.{Shapes.node_shape, Shapes.named_shape, Plan.Plan, Plan.PlannedType, Plan.formed, Plan.place_in, Plan.kind_numbers}
use Rattle.plan_meaning.specs.PlanRules.{is_form, type_labels, has_shape, kind_is_named, parts_are_shallow}
use Rattle.plan_meaning.specs.NumberedViews.{Tables, place_at, tree_at, declaration_of, AllOf, AreTables}
use Rattle.plan_meaning.specs.GatheredPlan.{Becomes, DeclaresKind, Keeps}
use Rattle.wit_model.specs.declared.model.TypeOwner.TheVariants as owner
use Rattle.comp_meaning.specs.Rules as rules

-- The type of a shape that is kept. An unnamed one is a part of what was read in a place; a named one declares under a label what a name
-- may be declared as in its place, and stands behind that.
pub data IsKeptType (t : Tables) (kept : List ℕ) (p : Plan) (n : ℕ) (x : PlannedType) : Type 0 where
  unnamed : (place : Place) (form : Form) (olds news : List ℕ) → slice_get t.shapes n ≡ Some (node_shape form olds) → AllZip (Becomes t kept p) olds news
      → x.name ≡ None → x.owner ≡ owner.None → x.kind ≡ formed form news → rules.is_part place (tree_at t (14 + n)) ≡ true
      → nat_le (levels (tree_at t (14 + n))) most_levels ≡ true → IsKeptType t kept p n x
  declared : (q : ℕ) (name : Text) (d : Option ℕ) → slice_get t.shapes n ≡ Some (named_shape q name) → x.name ≡ Some name → place_in p x.owner ≡ place_at t q
      → DeclaresKind t kept p d x.kind
      → AllOf (λ k. k < 14 + n) d → is_label name ≡ true → rules.is_declared (place_at t q) (declaration_of t d) ≡ true → IsKeptType t kept p n x

-- A form of the plan: one that is kept as an unnamed type, or what a name that is kept is declared as.
pub data IsKeptForm (t : Tables) (kept : List ℕ) (p : Plan) (m : ℕ) : Type 0 where
  alone : (j : ℕ) (x : PlannedType) → slice_get p.types j ≡ Some x → slice_get kept j ≡ Some m → IsKeptForm t kept p m
  of_name : (j n : ℕ) (x : PlannedType) (q : ℕ) (name : Text) → slice_get p.types j ≡ Some x → slice_get kept j ≡ Some n
      → slice_get t.shapes n ≡ Some (named_shape q name) → DeclaresKind t kept p (Some (14 + m)) x.kind → IsKeptForm t kept p m

-- The forms of the plan are as a definition has them, the numbers that are kept are in the order of the table, each once, and each type is that
-- of the shape kept there.
pub record TypesAreKept (t : Tables) (kept : List ℕ) (p : Plan) : Type 0 where
  pub forms : (n : ℕ) (form : Form) (parts : List ℕ) → IsKeptForm t kept p n → slice_get t.shapes n ≡ Some (node_shape form parts) → is_form form parts ≡ true
  pub rise : (i j m n : ℕ) → slice_get kept i ≡ Some m → slice_get kept j ≡ Some n → m < n → i < j
  pub once : (i j m : ℕ) → slice_get kept i ≡ Some m → slice_get kept j ≡ Some m → i ≡ j
  pub each : (j : ℕ) (x : PlannedType) → slice_get p.types j ≡ Some x → (n : ℕ) × (slice_get kept j ≡ Some n) × IsKeptType t kept p n x

-- the tests of a plan on its types alone: they refer to smaller numbers, and have the labels, the shapes, the names and the levels that they may
pub record TypesPass (p : Plan) : Type 0 where
  pub types_fall : each_from (λ n x. list_all (λ m. nat_lt m n) (kind_numbers x.kind)) 0 p.types ≡ true
  pub type_labels : list_all type_labels p.types ≡ true
  pub types_shaped : list_all (λ x. has_shape x.kind) p.types ≡ true
  pub kinds_named : list_all (kind_is_named p) p.types ≡ true
  pub depths : list_all (λ x. parts_are_shallow p x.kind) p.types ≡ true

-- Types that are kept so are those of a plan that is gathered, and pass the tests.
abbrev pub KeptTypesPass : Type 0
KeptTypesPass = (t : Tables) → AreTables t → (kept : List ℕ) (p : Plan) → TypesAreKept t kept p → Keeps t kept p × TypesPass p
