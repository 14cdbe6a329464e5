-- Interfaces of a plan, over the types that are kept (WIT.md, "Interfaces").
use Rattle.std.specs.Prelude.{◌≡◌, ◌≤◌, ◌+◌, ◌&&◌, ℕ, true, List, length, cond, map, Option, Some, slice_get}
use Rattle.std.specs.{Borrow.Bor, List.AllZip}
use Rattle.wit_model.specs.declared.model.{TypeId.TypeId, TypeOwner.TypeOwner}
use Rattle.wit_model.specs.Text.{Text, text_eq}
use Rattle.plan_meaning.specs.{GatheredPlan.FunctionListed, Plan.Plan, Plan.PlannedFunction, Renumbering.IsPart}
use Rattle.plan_meaning.specs.{KeptFunctions.IsKindOf, KeptFunctions.IsResource, NumberedRules.Fact, NumberedRules.is_interface, NumberedRules.is_no_part}
use Rattle.plan_meaning.specs.NumberedViews.{NumberedFunction, NumberedSlot, NumberedType, NumberedView, Tables, function_at, value, resource, PartsOf}
use Rattle.read_rules.specs.declared.{tables.Tables.Tables as KeptTables, views.ViewFunction.ViewFunction}
use Rattle.read_rules.specs.{Tables.numbered_tables, Views.numbered_function}
use Rattle.plan_build.specs.declared.plan.PlannedFunction.{PlannedFunction as BuiltFunction}
use Rattle.plan_build.specs.PlanOf.{named_function}
use Rattle.plan_parts.specs.{Functions.found_under, Functions.NamesKind, Functions.TakesAndGives, Kept.IsKeptPart}

-- the part that the index of a type stands for
abbrev pub slot_part : NumberedSlot → ℕ
slot_part (value k) = k
slot_part (resource k) = k

-- the index of the type stands for a type that is kept
abbrev pub IsKeptSlot : List ℕ → NumberedType → Type 0
IsKeptSlot kept x = (14 ≤ slot_part x.slot) × IsKeptPart kept (slot_part x.slot)

-- the type's new number, under its name
abbrev pub ListsType : List ℕ → NumberedType → Text × TypeId → Type 0
ListsType kept x e = (e.0 ≡ x.name) × IsPart kept (slot_part x.slot) (14 + e.1.0)

-- what stands under a name once the type is noted, if it is a resource
abbrev pub noted : NumberedType → TypeId → Text → Option TypeId → Option TypeId
noted x id name before = cond (is_no_part x.declared && text_eq x.name name) (Some id) before

-- The resources among some types are found by their names, each under its new number, and nothing else is.
pub record AreResources (kept : List ℕ) (xs : List NumberedType) (find : Text → Option TypeId) : Type 0 where
  pub found : (n : ℕ) (x : NumberedType) → slice_get xs n ≡ Some x → is_no_part x.declared ≡ true → (id : TypeId) × (find x.name ≡ Some id)
  pub among : (r : Text) (id : TypeId) → find r ≡ Some id → (n : ℕ) × (x : NumberedType) × (slice_get xs n ≡ Some x) × (is_no_part x.declared ≡ true)
      × (x.name ≡ r) × IsPart kept (slot_part x.slot) (14 + id.0)

-- the function is over types that are kept
abbrev pub IsFunctionOver : Tables → List ℕ → Text × NumberedFunction → Type 0
IsFunctionOver t kept f = PartsOf (IsKeptPart kept) (function_at t f.1.signature)

-- The function of the plan under its name: of the kind that the name says, over the types that are kept.
pub record IsPlannedFunction (t : Tables) (kept : List ℕ) (find : Text → Option TypeId) (f : Text × NumberedFunction)
    (e : Text × PlannedFunction) : Type 0 where
  pub under : e.0 ≡ f.0
  pub named : e.1.name ≡ f.0
  pub kind : NamesKind find f.0 (function_at t f.1.signature).is_async e.1.kind
  pub parts : TakesAndGives kept (function_at t f.1.signature) e.1
  pub same_id : e.1.external_id ≡ f.1.external_id

-- the functions that were planned are those of the view, one for one, where the resources have these numbers
abbrev pub PlansFunctions : KeptTables → List ℕ → List (Bor Text × TypeId) → List ViewFunction → List BuiltFunction → Type 0
PlansFunctions t kept resources fs planned = AllZip (IsPlannedFunction (numbered_tables t) kept (found_under resources)) (map numbered_function fs)
    (map named_function planned)

-- ---- laws

-- Let the plan have a type for each that is kept, and each resource that is shown be the type of its number. Then the functions of an
-- interface that obeys the rules become what they are in the plan, each of the kind that its name says.
abbrev pub FunctionsAreListed : Type 0
FunctionsAreListed = (t : Tables) (known : ℕ → Fact) (kept : List ℕ) (p : Plan) → length p.types ≡ length kept → (o : TypeOwner) (q : ℕ) (v : NumberedView)
    → is_interface t known q v ≡ true
    → (find : Text → Option TypeId) → AreResources kept v.types find
    → ((n : ℕ) (x : NumberedType) (id : TypeId) → slice_get v.types n ≡ Some x → is_no_part x.declared ≡ true → IsPart kept (slot_part x.slot) (14 + id.0)
    → IsResource t known kept p o q x.name id.0)
    → (es : List (Text × PlannedFunction)) → AllZip (IsPlannedFunction t kept find) v.functions es
    → AllZip (FunctionListed t kept p) v.functions es × AllZip (λ f e. IsKindOf t known kept p o q f.0 (function_at t f.1.signature) e.1.kind) v.functions es
