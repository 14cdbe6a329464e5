-- The functions of a plan whose types are those of shapes that are kept, where what was read obeys the rules. Then each passes tests of its
-- numbers, its labels, its levels and its resource (WIT.md, "Functions"; Explainer.md, "Import and Export Definitions").
use Rattle.std.specs.Prelude.{◌≡◌, ℕ, true, List, [], Option, Some, None, slice_get}
use Rattle.wit_model.specs.declared.model.{TypeOwner.TypeOwner, TypeId.TypeId, FunctionKind.FunctionKind}
use Rattle.wit_model.specs.{Text.Text, Names.is_label, Names.constructor_name, Names.method_name, Names.static_name, Tree.Place, Lookup.resource_of}
use Rattle.comp_meaning.specs.Rules.{is_label_behind}
use Rattle.plan_meaning.specs.{Shapes.named_shape, PlanRules.function_in_range, PlanRules.function_labels, PlanRules.function_is_shallow, PlanRules.is_member}
use Rattle.plan_meaning.specs.{Plan.Plan, Plan.PlannedType, Plan.PlannedFunction, Plan.resource, Plan.type_in, GatheredPlan.FunctionBecomes}
use Rattle.plan_meaning.specs.NumberedViews.{FunctionShape, Tables, tree_at, signature_over, AreTables}
use Rattle.plan_meaning.specs.{NumberedRules.Fact, NumberedRules.begins_with_self, NumberedRules.constructs, KeptTypes.TypesAreKept}
use Rattle.wit_model.specs.declared.model.FunctionKind.TheVariants as call
use Rattle.comp_meaning.specs.Rules as rules

module _ (t : Tables) (known : ℕ → Fact) (kept : List ℕ) (p : Plan) (o : TypeOwner) (q : ℕ) where
  -- The type of this number is the resource of this name in the place of number q, which is the owner's.
  pub record IsResource (name : Text) (n : ℕ) : Type 0 where
    pub shape : ℕ
    pub stands : slice_get kept n ≡ Some shape
    pub shape_is : slice_get t.shapes shape ≡ Some (named_shape q name)
    pub type_ : PlannedType
    pub there : type_in p n ≡ Some type_
    pub named : type_.name ≡ Some name
    pub kind : type_.kind ≡ resource
    pub owned : type_.owner ≡ o

  -- The kind of a function by its name: of no resource, or its constructor, a method or a static function of it.
  pub data IsKindOf (name : Text) (f : FunctionShape) (kind : FunctionKind) : Type 0 where
    of_none : is_label name ≡ true → resource_of kind ≡ None → IsKindOf name f kind
    a_constructor : (id : TypeId) (r : Text) → kind ≡ call.Constructor id → IsResource r id.0 → name ≡ constructor_name r
        → constructs t known q r f.result ≡ true → IsKindOf name f kind
    a_method : (id : TypeId) (r : Text) → kind ≡ call.Method id → IsResource r id.0 → is_label_behind (method_name r []) name ≡ true
        → begins_with_self t known q r f.params ≡ true → IsKindOf name f kind
    an_async_method : (id : TypeId) (r : Text) → kind ≡ call.AsyncMethod id → IsResource r id.0 → is_label_behind (method_name r []) name ≡ true
        → begins_with_self t known q r f.params ≡ true → IsKindOf name f kind
    a_static : (id : TypeId) (r : Text) → kind ≡ call.Static id → IsResource r id.0 → is_label_behind (static_name r []) name ≡ true → IsKindOf name f kind
    an_async_static : (id : TypeId) (r : Text) → kind ≡ call.AsyncStatic id → IsResource r id.0 → is_label_behind (static_name r []) name ≡ true
        → IsKindOf name f kind

  -- The function is that of a type in the tables, which obeys the rule on signatures in some place.
  pub record IsKeptFunction (name : Text) (f : FunctionShape) (external_id : Option Text) (g : PlannedFunction) : Type 0 where
    pub becomes : FunctionBecomes t kept p f external_id g
    pub named : g.name ≡ name
    pub kind : IsKindOf name f g.kind
    pub place : Place
    pub obeys : rules.is_signature place (signature_over (tree_at t) f) ≡ true

-- the tests of a plan on a function that look at its types and its resource alone
pub record FunctionPasses (p : Plan) (o : TypeOwner) (g : PlannedFunction) : Type 0 where
  pub in_range : function_in_range p g ≡ true
  pub labels : function_labels g ≡ true
  pub shallow : function_is_shallow p g ≡ true
  pub belongs : is_member p o g ≡ true

-- Each function that is kept so passes them.
abbrev pub KeptFunctionsPass : Type 0
KeptFunctionsPass = (t : Tables) → AreTables t → (known : ℕ → Fact) (kept : List ℕ) (p : Plan) → TypesAreKept t kept p
    → (o : TypeOwner) (q : ℕ) (name : Text) (f : FunctionShape) (external_id : Option Text) (g : PlannedFunction)
    → IsKeptFunction t known kept p o q name f external_id g → FunctionPasses p o g
