-- What the declarations of an instance type or a component type define: each function type and each unnamed kind once.
use Rattle.std.specs.Prelude.{ℕ, ◌≡◌, ◌+◌, ◌&&◌, ◌⊎◌, ◌++◌, ◌∷◌, [], Bool, true, false, cond, nat_eq, List, map, filter, length, count_by, option_to_list, option_map, IsPermutation, Option, Some, None}
use Rattle.std.specs.{List.IsDistinct, List.Contains, List.AllZip, Option.option_eq, Option.option_map_or, Option.is_some, Option.is_none, Set.is_member, Set.distinct_count, Cmp.Lexicographic.pointwise}
use mathlib.Core.Bool.{beq}
use Rattle.comp_bytes.specs.{Raw.Declaration, Raw.Declarations, Raw.from_list, Held.declaration_slots}
use Rattle.comp_bytes.specs.declared.forms.ComponentTypeRef.{ComponentTypeRef}
use Rattle.wit_model.specs.{Text.text_of, Meaning.Signature, Types.trees_of, Types.tree_of, Lookup.is_async, Lookup.type_at}
use Rattle.wit_model.specs.declared.model.{Resolve.Resolve, InterfaceId.InterfaceId, TypeDefKind.TypeDefKind, Function.Function, «Type».«Type» as ValueType, TypeId.TypeId, Param.Param}
use Rattle.encode_types.specs.declared.{key.FunctionKey.FunctionKey, maps.TypeEncodingMaps.TypeEncodingMaps}
use Rattle.encode_types.specs.{Codes.IsListed, Codes.names_of, Codes.lists_of, Plan.foreign_owner, Counts.Definitions, Counts.AddsSlots, Counts.key_slots, Key.same_type, Key.same_param, Scope.Scope, Kinds.has_definition, Kinds.kind_tree, Slots.Pairs, Slots.tree, Slots.function, MetKinds.AreMetKinds, MetKinds.referred}
use Rattle.comp_bytes.specs.declared.forms.ComponentTypeRef.TheVariants as refs

-- ---- keys of functions

-- what makes the type of a function: whether it is asynchronous, its parameters by name and type, its result
pub record Key : Type 0 where
  pub is_async : Bool
  pub params : List Param
  pub result_type : Option ValueType

-- the key of a function's type
abbrev pub key_of : Function → Key
key_of f = record { is_async = is_async f.kind; params = f.params.items; result_type = f.result }

abbrev pub key_view : FunctionKey → Key
key_view k = record { is_async = k.async_; params = k.params.0.now; result_type = k.result.now }

-- the signature that a key makes
abbrev pub signature_of_key : Resolve → Key → Signature
signature_of_key r key = record {
  is_async = key.is_async;
  params = map (λ p. (text_of p.name, tree_of (trees_of r) p.ty)) key.params;
  result = option_map (tree_of (trees_of r)) key.result_type;
}

-- whether two functions share a type
abbrev pub are_same : Key → Key → Bool
are_same a b = beq a.is_async b.is_async && (pointwise same_param a.params b.params && option_eq same_type a.result_type b.result_type)

-- the maps hold an equal key
abbrev pub KnowsKey : TypeEncodingMaps → Key → Type 0
KnowsKey m key = (xs : List ℕ) × (i : ℕ) × IsListed (names_of m.names) key.is_async key.params key.result_type xs × Contains (lists_of m.func_type_map) (xs, i)

-- ---- named types

-- whether a type is a named one, of no other interface than this one, that has a definition of its own
abbrev pub has_own_definition : Resolve → Option InterfaceId → ℕ → Bool
has_own_definition r own n = option_map_or (λ def. is_none (foreign_owner own def.owner) && (is_some def.name && has_definition def.kind)) (type_at r n) false

-- the numbers of these types that have one
abbrev pub defined_under_names : Resolve → Option InterfaceId → List TypeId → List ℕ
defined_under_names r own ts = map (λ t. t.0) (filter (λ t. has_own_definition r own t.0) ts)

-- ---- what is learnt

-- What has been defined for functions is what the maps have learnt, each type in the slot of its key, and the keys that they have learnt are
-- those of the functions.
pub record AddsFunctions (r : Resolve) (scope : Scope) (m m' : TypeEncodingMaps) (d d' : Definitions) (functions : List Function) : Type 0 where
  pub slots : AddsSlots r scope m m' d d'
  pub types_added : List ℕ
  pub functions_ : d'.functions ≡ d.functions ++ types_added
  pub keys_ : IsPermutation (key_slots m ++ types_added) (key_slots m')
  pub known : (key : Key) → KnowsKey m' key → KnowsKey m key ⊎ (is_member are_same (map key_of functions) key ≡ true)
  pub stay : (key : Key) → KnowsKey m key → KnowsKey m' key
  pub learnt : (key : Key) → is_member are_same (map key_of functions) key ≡ true → KnowsKey m' key

-- ---- what is declared

-- whether a declaration defines a value type
abbrev pub is_value_type : Declaration → Bool
is_value_type (Declaration.defined d) = true
is_value_type _ = false

-- whether a declaration defines the type of a function
abbrev pub is_function_type : Declaration → Bool
is_function_type (Declaration.function f) = true
is_function_type _ = false

-- the slots of the definitions of this sort at the first level, in order, behind so many slots
abbrev pub slots_from : (Declaration → Bool) → ℕ → Declarations → List ℕ
slots_from test n Declarations.no_more = []
slots_from test n (Declarations.declares d rest) = cond (test d) (n ∷ []) [] ++ slots_from test (n + declaration_slots d) rest
slots_from test n (Declarations.component inner rest) = slots_from test (n + 1) rest
slots_from test n (Declarations.instance inner rest) = slots_from test (n + 1) rest

-- the slots of the types of functions that are defined at the first level, in order
abbrev pub function_slots : Declarations → List ℕ
function_slots ds = slots_from is_function_type 0 ds

-- Which types of functions are defined where the slots stand for this, and what for: for each of these keys one, in a slot of its own. There is
-- no other.
pub record StandForKeys (r : Resolve) (S : Pairs) (keys : List Key) (declared : Declarations) : Type 0 where
  pub slots : List ℕ
  pub stand : AllZip (λ key i. S i (function (signature_of_key r key))) keys slots
  pub all : IsPermutation (function_slots declared) slots

-- One function type for each of these keys, of which no two are the same: they are the keys of the functions. In a slot of its own the type of
-- each is defined, and no other.
pub record DefinesKeys (r : Resolve) (S : Pairs) (functions : List Function) (declared : List Declaration) : Type 0 where
  pub keys : List Key
  pub count : count_by is_function_type declared ≡ length keys
  pub different : IsDistinct are_same keys
  pub same : (key : Key) → is_member are_same keys key ≡ is_member are_same (map key_of functions) key
  pub slots : StandForKeys r S keys (from_list declared)

-- ---- which value types are declared

-- the slot whose type an import or an export names
abbrev pub described_slot : ComponentTypeRef → Option ℕ
described_slot (refs.TypeEq i) = Some i
described_slot _ = None

-- the slot whose type a declaration imports or exports under a name
abbrev pub target_of : Declaration → Option ℕ
target_of (Declaration.imported name described) = described_slot described
target_of (Declaration.exported name described) = described_slot described
target_of _ = None

-- the slots that are imported or exported under names at the first level, in order
abbrev pub targets_of : Declarations → List ℕ
targets_of Declarations.no_more = []
targets_of (Declarations.declares d rest) = option_to_list (target_of d) ++ targets_of rest
targets_of (Declarations.component inner rest) = targets_of rest
targets_of (Declarations.instance inner rest) = targets_of rest

-- the slots of the value types that are defined at the first level, in order
abbrev pub value_slots : Declarations → List ℕ
value_slots ds = slots_from is_value_type 0 ds

-- Which value types are defined where the slots stand for this, and what for. Each kind of unnamed types that the types and functions meet has a
-- slot of its own, which is exported under no name. Each type of the list that has a definition under its name has a slot of its own, which is
-- exported once. There is no other.
pub record DefinesTypes (r : Resolve) (own : Option InterfaceId) (S : Pairs) (types : List TypeId) (functions : List Function)
    (declared : Declarations) : Type 0 where
  pub kinds : List TypeDefKind
  pub met : AreMetKinds r own (referred types functions) kinds
  pub kind_slots : List ℕ
  pub stand : AllZip (λ kind i. S i (tree (kind_tree r kind))) kinds kind_slots
  pub name_slots : List ℕ
  pub named : filter (is_member nat_eq (value_slots declared)) (targets_of declared) ≡ name_slots
  pub count : length name_slots ≡ distinct_count nat_eq (defined_under_names r own types)
  pub all : IsPermutation (value_slots declared) (kind_slots ++ name_slots)
