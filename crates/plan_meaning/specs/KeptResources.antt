-- Which parts of the tables are resources, and that the plan's numbers are resources accordingly: a handle is of one, and nothing else has one
-- as a part (Explainer.md, "Type Definitions"; WIT.md, "Types").
use Rattle.std.specs.Prelude.{◌≡◌, ℕ, ◌<◌, ◌+◌, Bool, true, false, not, List, Option, Some, slice_get}
use Rattle.std.specs.List.{list_all}
use Rattle.wit_model.specs.{Text.Text, Tree.Form}
use Rattle.plan_meaning.specs.{Shapes.node_shape, Shapes.named_shape, GatheredPlan.Becomes, GatheredPlan.FunctionBecomes}
use Rattle.plan_meaning.specs.Plan.{Plan, PlannedKind, resource, alias, formed, PlannedType, PlannedFunction}
use Rattle.plan_meaning.specs.{PlanRules.handles_resources, PlanRules.is_handle_form, PlanRules.takes_values, KeptTypes.IsKeptForm, KeptTypes.TypesAreKept}
use Rattle.plan_meaning.specs.NumberedViews.{FunctionShape, Tables, AreTables, PartsOf}

-- the mark of a type by its kind: a resource has one, another name has that of what it names, and a form has none
abbrev pub MarkedBy : Tables → List ℕ → Plan → (ℕ → Bool) → PlannedKind → Bool → Type 0
MarkedBy t kept p marks resource mark = mark ≡ true
MarkedBy t kept p marks (alias new) mark = (old : ℕ) → Becomes t kept p old new → mark ≡ marks old
MarkedBy t kept p marks (formed form ks) mark = mark ≡ false

-- what holds of the parts of a form: those of a handle are resources, and those of any other are none
pub record FormIsMarked (marks : ℕ → Bool) (form : Form) (parts : List ℕ) : Type 0 where
  pub handle : is_handle_form form ≡ true → list_all marks parts ≡ true
  pub other : is_handle_form form ≡ false → list_all (λ k. not (marks k)) parts ≡ true

-- The marks tell the parts that are resources, by name or by another name.
pub record AreMarked (t : Tables) (kept : List ℕ) (p : Plan) (marks : ℕ → Bool) : Type 0 where
  pub primitives : (k : ℕ) → k < 14 → marks k ≡ false
  pub forms : (n : ℕ) (form : Form) (parts : List ℕ) → IsKeptForm t kept p n → slice_get t.shapes n ≡ Some (node_shape form parts) → (marks (14 + n) ≡ false)
      × FormIsMarked marks form parts
  pub names : (j n : ℕ) (x : PlannedType) (q : ℕ) (name : Text) → slice_get p.types j ≡ Some x → slice_get kept j ≡ Some n
      → slice_get t.shapes n ≡ Some (named_shape q name) → MarkedBy t kept p marks x.kind (marks (14 + n))

-- So handles are of resources, and no other type has one as a part, nor has a function that takes and gives none.
pub record ResourcesStand (t : Tables) (kept : List ℕ) (p : Plan) (marks : ℕ → Bool) : Type 0 where
  pub handles : list_all (λ x. handles_resources p x.kind) p.types ≡ true
  pub functions : (f : FunctionShape) (external_id : Option Text) (g : PlannedFunction) → FunctionBecomes t kept p f external_id g
      → PartsOf (λ k. marks k ≡ false) f → takes_values p g ≡ true

abbrev pub KeptResourcesStand : Type 0
KeptResourcesStand = (t : Tables) → AreTables t → (kept : List ℕ) (p : Plan) → TypesAreKept t kept p → (marks : ℕ → Bool) → AreMarked t kept p marks
    → ResourcesStand t kept p marks
