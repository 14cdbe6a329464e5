-- What is defined in a scope, and what for (Component Model Binary.md, "Index Spaces" and "Type Definitions").
use Rattle.std.specs.Prelude.{ℕ, ◌≡◌, ◌+◌, Bool, false, not, cond, ◌&&◌, ◌++◌, ◌∷◌, [], ◌⊎◌, is_some, is_none, length, count_by, IsPermutation, List, Option, Some, None, option_map, option_and_then, option_to_list, map, filter, filter_map}
use Rattle.std.specs.{List.Contains, Option.option_map_or}
use Rattle.wit_model.specs.{Text.Text, Text.text_of, Meaning.TypeMeaning, Lookup.type_at}
use Rattle.wit_model.specs.declared.model.{Resolve.Resolve, TypeDef.TypeDef, TypeId.TypeId}
use Rattle.comp_bytes.specs.Raw.{ExternName}
use Rattle.encode_types.specs.declared.{maps.TypeEncodingMaps.TypeEncodingMaps, key.FunctionKey.FunctionKey}
use Rattle.encode_types.specs.{Kinds.has_definition, Plan.foreign_owner, Codes.IsKeyList, Codes.names_of, Codes.lists_of, Maps.HasKey, Maps.LacksKey, Maps.NamesGrow, Scope.Scope, Scope.exported_name}
use Rattle.wit_model.specs.declared.model.TypeDefKind.TheVariants as kind
use Rattle.wit_model.specs.declared.model.«Type».TheVariants as ty

-- The slots of the value types that have been defined in a scope, those that have been exported under a name, and those of the types of
-- functions that have been defined, each in order. Besides, which declarations have been exported, in order.
pub record Definitions : Type 0 where
  pub types : List ℕ
  pub exported : List ℕ
  pub functions : List ℕ
  pub exports : List (Text × TypeMeaning)

-- a value type has been defined in slot i
abbrev pub one_type_more : ℕ → Definitions → Definitions
one_type_more i d = record { types = d.types ++ i ∷ []; exported = d.exported; functions = d.functions; exports = d.exports }

-- the type of a function has been defined in slot i
abbrev pub one_function_more : ℕ → Definitions → Definitions
one_function_more i d = record { types = d.types; exported = d.exported; functions = d.functions ++ i ∷ []; exports = d.exports }

-- a value type has been defined in slot i, if this holds
abbrev pub type_more_if : Bool → ℕ → Definitions → Definitions
type_more_if b i d = cond b (one_type_more i d) d

-- whether a type is a named one of the place that has a definition of its own
abbrev pub is_defined_under_name : Scope → TypeDef → Bool
is_defined_under_name scope def = is_none (foreign_owner scope.own_interface def.owner) && (is_some def.name && has_definition def.kind)

-- whether the type of this number is a named one of the place that has a definition of its own
abbrev pub is_defined_by_name : Resolve → Scope → ℕ → Bool
is_defined_by_name r scope n = option_map_or (is_defined_under_name scope) (type_at r n) false

-- how many of the known numbers are named types of the place with definitions of their own
abbrev pub names_defined : Resolve → Scope → TypeEncodingMaps → ℕ
names_defined r scope m = count_by (λ e. is_defined_by_name r scope e.0) m.id_to_index.entries

-- One declaration of the place has been exported, under this name: that of the type in this slot, or of a fresh resource without one. Nothing
-- has been defined.
pub record ExportsOne (scope : Scope) (d d' : Definitions) (slot : Option ℕ) (name : ExternName) : Type 0 where
  pub declaration : Text × TypeMeaning
  pub there : Contains scope.declarations declaration
  pub named_ : name ≡ exported_name declaration
  pub one_more : d' ≡ record { types = d.types; exported = d.exported ++ option_to_list slot; functions = d.functions; exports = d.exports ++ declaration ∷ [] }

-- the name of a named type of the place
abbrev pub name_of_own : Scope → TypeDef → Option Text
name_of_own scope def = cond (is_none (foreign_owner scope.own_interface def.owner)) (option_map text_of def.name) None

-- the name of the type of this number, where it is a named one of the place
abbrev pub own_name : Resolve → Scope → ℕ → Option Text
own_name r scope n = option_and_then (name_of_own scope) (type_at r n)

-- What has been exported is what the maps have learnt: a declaration for each named type of the place, in order.
pub record Shows (r : Resolve) (scope : Scope) (m m' : TypeEncodingMaps) (d d' : Definitions) : Type 0 where
  pub learnt : List (ℕ × ℕ)
  pub shown : List (Text × TypeMeaning)
  pub numbers : IsPermutation (m.id_to_index.entries ++ learnt) m'.id_to_index.entries
  pub exports : d'.exports ≡ d.exports ++ shown
  pub declared : (x : Text × TypeMeaning) → Contains shown x → Contains scope.declarations x
  pub names : map (λ x. x.0) shown ≡ filter_map (λ e. own_name r scope e.0) learnt

-- the future and the stream without an element that have caches of their own are known where they were
pub record SameUnits (m m' : TypeEncodingMaps) : Type 0 where
  pub future_ : m'.unit_future ≡ m.unit_future
  pub stream_ : m'.unit_stream ≡ m.unit_stream

-- the maps know the same types of functions, by the same names, and the two caches are the same
pub record SameKeys (m m' : TypeEncodingMaps) : Type 0 where
  pub lists : m'.func_type_map.entries ≡ m.func_type_map.entries
  pub names_ : m'.names.entries ≡ m.names.entries
  pub units : SameUnits m m'

-- the maps know one key more, and the names of its parameters; the two caches are the same
pub record AddsKey (m m' : TypeEncodingMaps) (key : FunctionKey) (i : ℕ) : Type 0 where
  pub units : SameUnits m m'
  pub grow : NamesGrow (names_of m.names) (names_of m'.names)
  pub list : List ℕ
  pub is : IsKeyList (names_of m'.names) key list
  pub more : IsPermutation (lists_of m.func_type_map ++ (list, i) ∷ []) (lists_of m'.func_type_map)

-- ---- which definition is which

-- slots, each with whether it is that of a type of the place which has a definition of its own under its name
abbrev pub Marked : Type 0
Marked = List (Bool × ℕ)

-- these slots, without marks
abbrev pub slots_of : Marked → List ℕ
slots_of xs = map (λ x. x.1) xs

-- the slots that are marked
abbrev pub named_slots : Marked → List ℕ
named_slots xs = slots_of (filter (λ x. x.0) xs)

-- the slots that aren't marked
abbrev pub other_slots : Marked → List ℕ
other_slots xs = slots_of (filter (λ x. not x.0) xs)

-- the slots of the unnamed kinds that are known
abbrev pub kind_slots : TypeEncodingMaps → List ℕ
kind_slots m = map (λ e. e.1) m.def_to_index.entries

-- the slots of the keys of functions that are known
abbrev pub key_slots : TypeEncodingMaps → List ℕ
key_slots m = map (λ e. e.1) m.func_type_map.entries

-- a slot is that of a type number which a named type is another name of
pub record IsTarget (r : Resolve) (m : TypeEncodingMaps) (i : ℕ) : Type 0 where
  pub number : ℕ
  pub def : TypeDef
  pub target : TypeId
  pub there : type_at r number ≡ Some def
  pub alias : def.kind ≡ kind.Type_ (ty.Id target)
  pub index : Contains m.id_to_index.entries (target.0, i)

-- What has been defined is what the maps have learnt, each once. For each unnamed kind it is a slot, which is that of the kind. For each
-- named type of the place that has a definition of its own it is a slot, which is exported under that name. What else has been exported is
-- another name of what is known.
pub record AddsSlots (r : Resolve) (scope : Scope) (m m' : TypeEncodingMaps) (d d' : Definitions) : Type 0 where
  pub added : Marked
  pub targets : Marked
  pub types : d'.types ≡ d.types ++ slots_of added
  pub exported : d'.exported ≡ d.exported ++ slots_of targets
  pub kinds : IsPermutation (kind_slots m ++ other_slots added) (kind_slots m')
  pub names : length (named_slots added) + names_defined r scope m ≡ names_defined r scope m'
  pub own : named_slots targets ≡ named_slots added
  pub others : (i : ℕ) → Contains (other_slots targets) i → IsTarget r m' i
  pub numbers_stay : (n i : ℕ) → Contains m.id_to_index.entries (n, i) → Contains m'.id_to_index.entries (n, i)

-- No type of a function has been defined, and no key has been learnt.
pub record AddsTypes (r : Resolve) (scope : Scope) (m m' : TypeEncodingMaps) (d d' : Definitions) : Type 0 where
  pub slots : AddsSlots r scope m m' d d'
  pub functions : d'.functions ≡ d.functions
  pub keys : SameKeys m m'
  pub shows : Shows r scope m m' d d'

-- this has been defined, or one definition more: of a value type, or of the type of a function
pub data OneMoreAtMost (d d' : Definitions) : Type 0 where
  no_more : d' ≡ d → OneMoreAtMost d d'
  a_type : (i : ℕ) → d' ≡ one_type_more i d → OneMoreAtMost d d'
  a_function : (i : ℕ) → d' ≡ one_function_more i d → OneMoreAtMost d d'

-- What a refused call leaves. What has been exported is what the maps have learnt. So is what has been defined, but for one definition at most.
-- The maps know the same types of functions.
pub record AddsInPart (r : Resolve) (scope : Scope) (m m' : TypeEncodingMaps) (d d' : Definitions) : Type 0 where
  pub known : Definitions
  pub slots : AddsSlots r scope m m' d known
  pub functions : known.functions ≡ d.functions
  pub lists : m'.func_type_map.entries ≡ m.func_type_map.entries
  pub shows : Shows r scope m m' d known
  pub more : OneMoreAtMost known d'

-- The key of a function was in the maps already, and no type of a function has been defined; or the key is there now at a new index, in which
-- its type has been defined, and no other. What else has been defined is what the maps have learnt.
pub record AddsFunction (r : Resolve) (scope : Scope) (m m' : TypeEncodingMaps) (d d' : Definitions) (key : FunctionKey) (i : ℕ) : Type 0 where
  pub slots : AddsSlots r scope m m' d d'
  pub keys : (HasKey m key i × SameKeys m m' × (d'.functions ≡ d.functions)) ⊎ (LacksKey m key × AddsKey m m' key i × (d'.functions ≡ d.functions ++ i ∷ []))
  pub shows : Shows r scope m m' d d'
