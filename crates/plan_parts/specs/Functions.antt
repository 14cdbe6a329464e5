-- Functions of a plan, by their names and over the types that are kept (WIT.md, "Functions"; Explainer.md, "Import and Export Definitions").
use Rattle.std.specs.Prelude.{◌≡◌, ℕ, Bool, true, false, List, [], ◌∷◌, ◌++◌, length, Option, Some, None, codes}
use Rattle.std.specs.{Borrow.Bor, List.AllZip, List.list_any, Map.lookup}
use Rattle.wit_model.specs.declared.model.{FunctionKind.FunctionKind, TypeId.TypeId, TypeOwner.TypeOwner}
use Rattle.wit_model.specs.{Lookup.is_async, Names.constructor_name, Text.Text, Text.text_eq}
use Rattle.comp_meaning.specs.Rules.{is_label_behind}
use Rattle.plan_meaning.specs.{GatheredPlan.FunctionBecomes, NumberedRules.Fact, NumberedRules.is_function, Plan.Plan, Plan.PlannedFunction}
use Rattle.plan_meaning.specs.{KeptFunctions.IsKindOf, KeptFunctions.IsResource, NumberedViews.FunctionShape, NumberedViews.Tables, Renumbering.IsPart}
use Rattle.wit_model.specs.declared.model.FunctionKind.TheVariants as call

-- ---- kinds

-- the resource of this name, among some by name
abbrev pub found_under : List (Bor Text × TypeId) → Text → Option TypeId
found_under resources name = lookup (λ k. text_eq name k.now) resources

-- the name is that of the resource's constructor, and of a member of it behind the mark
abbrev pub is_constructor_named : Text → Text → Type 0
is_constructor_named name resource = name ≡ constructor_name resource

abbrev pub is_behind : Text → Text → Text → Type 0
is_behind mark name resource = is_label_behind (mark ++ (resource ++ (46 ∷ []))) name ≡ true

-- a resource that the name is of, or none of them is
abbrev pub IsFoundBy : (Text → Type 0) → (Text → Option TypeId) → Option TypeId → Type 0
IsFoundBy P find None = (r : Text) → P r → find r ≡ None
IsFoundBy P find (Some id) = (r : Text) × P r × (find r ≡ Some id)

abbrev pub method_kind : TypeId → Bool → FunctionKind
method_kind id true = call.AsyncMethod id
method_kind id false = call.Method id

abbrev pub static_kind : TypeId → Bool → FunctionKind
static_kind id true = call.AsyncStatic id
static_kind id false = call.Static id

abbrev pub free_kind : Bool → FunctionKind
free_kind true = call.AsyncFreestanding
free_kind false = call.Freestanding

abbrev pub method_mark : Text
method_mark = codes "[method]"

abbrev pub static_mark : Text
static_mark = codes "[static]"

-- The kind that the name says: of a resource that is found, or of none.
pub data NamesKind (find : Text → Option TypeId) (name : Text) (waits : Bool) (kind : FunctionKind) : Type 0 where
  a_constructor : (r : Text) (id : TypeId) → is_constructor_named name r → find r ≡ Some id → kind ≡ call.Constructor id → NamesKind find name waits kind
  a_method : (r : Text) (id : TypeId) → is_behind method_mark name r → find r ≡ Some id → kind ≡ method_kind id waits → NamesKind find name waits kind
  a_static : (r : Text) (id : TypeId) → is_behind static_mark name r → find r ≡ Some id → kind ≡ static_kind id waits → NamesKind find name waits kind
  of_none : IsFoundBy (is_constructor_named name) find None → IsFoundBy (is_behind method_mark name) find None
      → IsFoundBy (is_behind static_mark name) find None → kind ≡ free_kind waits → NamesKind find name waits kind

-- ---- types

abbrev pub KeptParam : List ℕ → Text × ℕ → Text × ℕ → Type 0
KeptParam kept x y = (y.0 ≡ x.0) × IsPart kept x.1 y.1

abbrev pub KeptIfGiven : List ℕ → Option ℕ → Option ℕ → Type 0
KeptIfGiven kept None None = Unit {0}
KeptIfGiven kept (Some old) (Some new) = IsPart kept old new
KeptIfGiven kept _ _ = ⊥

-- The function takes and gives the types that are kept for those of its type.
pub record TakesAndGives (kept : List ℕ) (f : FunctionShape) (g : PlannedFunction) : Type 0 where
  pub params : AllZip (KeptParam kept) f.params g.params
  pub result : KeptIfGiven kept f.result g.result

-- ---- laws

-- A function that may stand behind some resources is of the kind that its name says, where each of them is found and is the type of its number.
abbrev pub KindsAreNamed : Type 0
KindsAreNamed = (t : Tables) (known : ℕ → Fact) (kept : List ℕ) (p : Plan) (o : TypeOwner) (q : ℕ) (find : Text → Option TypeId) (resources : List Text)
    → ((r : Text) → list_any (text_eq r) resources ≡ true → (id : TypeId) × (find r ≡ Some id))
    → ((r : Text) (id : TypeId) → find r ≡ Some id → IsResource t known kept p o q r id.0)
    → (name : Text) (f : FunctionShape) (kind : FunctionKind) → is_function t known q resources name f ≡ true → NamesKind find name f.is_async kind
    → IsKindOf t known kept p o q name f kind × (is_async kind ≡ f.is_async)

-- It becomes what it is in the plan, which has a type for each that is kept.
abbrev pub FunctionsBecome : Type 0
FunctionsBecome = (t : Tables) (kept : List ℕ) (p : Plan) → length p.types ≡ length kept → (f : FunctionShape) (external_id : Option Text) (g : PlannedFunction)
    → TakesAndGives kept f g → is_async g.kind ≡ f.is_async → g.external_id ≡ external_id → FunctionBecomes t kept p f external_id g
