-- Whose the types of a plan are: those of a place are its owner's, so what holds names of one place stays with its owner
-- (WIT.md, "Interfaces" and "Worlds").
use Rattle.std.specs.Prelude.{◌≡◌, ◌⊎◌, ℕ, ◌+◌, true, List, Option, Some, slice_get}
use Rattle.std.specs.List.{list_all}
use Rattle.wit_model.specs.declared.model.{TypeOwner.TypeOwner, InterfaceId.InterfaceId}
use Rattle.wit_model.specs.{Text.Text, Parts.same_owner, Valid.as_interface}
use Rattle.plan_meaning.specs.{Shapes.named_shape, NumberedWorlds.HasPath, KeptTypes.TypesAreKept}
use Rattle.plan_meaning.specs.{Plan.Plan, Plan.PlannedType, Plan.PlannedFunction, Plan.PlannedInterface, Plan.interface_in, NumberedRules.IsSeenFrom}
use Rattle.plan_meaning.specs.{PlanRules.function_stays, PlanRules.has_name, PlanRules.type_stays, GatheredPlan.DeclaresKind, GatheredPlan.FunctionBecomes}
use Rattle.plan_meaning.specs.NumberedViews.{FunctionShape, Tables, place_at, tree_at, signature_over, AllOf, PartsOf, AreTables}
use Rattle.wit_model.specs.declared.model.TypeOwner.TheVariants as owner
use Rattle.comp_meaning.specs.Rules as rules

-- an interface of the plan that has a name
pub record IsNamedInterface (p : Plan) (o : TypeOwner) : Type 0 where
  pub id : InterfaceId
  pub is : o ≡ owner.Interface id
  pub named : has_name p id.0 ≡ true

-- A place of the plan: that of a name that is kept, or of one of its interfaces.
pub data IsPlaceOf (t : Tables) (kept : List ℕ) (p : Plan) (owners : ℕ → TypeOwner) (a : ℕ) : Type 0 where
  of_name : (j n : ℕ) (x : PlannedType) (name : Text) → slice_get p.types j ≡ Some x → slice_get kept j ≡ Some n
      → slice_get t.shapes n ≡ Some (named_shape a name) → IsPlaceOf t kept p owners a
  of_interface : (m : ℕ) (i : PlannedInterface) → owners a ≡ as_interface m → interface_in p m ≡ Some i → IsPlaceOf t kept p owners a

-- The owner of each place, another for each: that of a place of the plan with a path is an interface with a name. A named type is the owner's of
-- its place, and is seen from there; it is another name of its own place, or of one with a path.
pub record AreOwned (t : Tables) (kept : List ℕ) (p : Plan) (owners : ℕ → TypeOwner) : Type 0 where
  pub apart : (a b : ℕ) → same_owner (owners a) (owners b) ≡ true → a ≡ b
  pub outside : (a : ℕ) → HasPath t a → IsPlaceOf t kept p owners a → IsNamedInterface p (owners a)
  pub owned : (j n : ℕ) (x : PlannedType) (q : ℕ) (name : Text) → slice_get p.types j ≡ Some x → slice_get kept j ≡ Some n
      → slice_get t.shapes n ≡ Some (named_shape q name) → x.owner ≡ owners q
  pub seen : (j n : ℕ) (x : PlannedType) (q : ℕ) (name : Text) (d : Option ℕ) → slice_get p.types j ≡ Some x → slice_get kept j ≡ Some n
      → slice_get t.shapes n ≡ Some (named_shape q name) → DeclaresKind t kept p d x.kind → AllOf (IsSeenFrom t q) d
  pub used : (j n : ℕ) (x : PlannedType) (q : ℕ) (name : Text) (m r : ℕ) (other : Text) → slice_get p.types j ≡ Some x → slice_get kept j ≡ Some n
      → slice_get t.shapes n ≡ Some (named_shape q name) → DeclaresKind t kept p (Some (14 + m)) x.kind
      → slice_get t.shapes m ≡ Some (named_shape r other) → (r ≡ q) ⊎ HasPath t r

-- Types and functions stay with the owner of their place.
pub record OwnersStand (t : Tables) (kept : List ℕ) (p : Plan) (owners : ℕ → TypeOwner) : Type 0 where
  pub types : list_all (type_stays p) p.types ≡ true
  pub functions : (q : ℕ) (f : FunctionShape) (external_id : Option Text) (g : PlannedFunction) → FunctionBecomes t kept p f external_id g
      → PartsOf (IsSeenFrom t q) f
      → rules.is_signature (place_at t q) (signature_over (tree_at t) f) ≡ true → function_stays p (owners q) g ≡ true

abbrev pub KeptOwnersStand : Type 0
KeptOwnersStand = (t : Tables) → AreTables t → (kept : List ℕ) (p : Plan) → TypesAreKept t kept p → (owners : ℕ → TypeOwner) → AreOwned t kept p owners
    → OwnersStand t kept p owners
