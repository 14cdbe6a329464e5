-- Which worlds have no room in a component type, where every count and every length is a number of 32 bits
-- (Component Model Binary.md, "vec" and the numbers of "Core WebAssembly").
use Rattle.std.specs.Prelude.{ℕ, ◌≡◌, ◌≤◌, ◌<◌, ◌+◌, ◌*◌, Bool, true, false, nat_eq, List, ◌++◌, map, filter_map, length, Some, None, is_some}
use Rattle.std.specs.List.{Contains, AllPairs}
use Rattle.wit_model.specs.{Lookup.world_at, Lookup.interface_at, Lookup.type_at, Meant.signature_of, Valid.IsValid, Valid.item_function, Weight.world_weight}
use Rattle.wit_model.specs.Rules.{item_type}
use Rattle.wit_model.specs.declared.model.{Resolve.Resolve, Interface.Interface, InterfaceId.InterfaceId, Function.Function, «Type».«Type» as ValueType}
use Rattle.wit_model.specs.declared.model.{World.World, WorldId.WorldId, TypeDef.TypeDef, TypeId.TypeId}
use Rattle.comp_bytes.specs.Fits.{fits_name}
use Rattle.encode_types.specs.{MetKinds.ReachedFrom, MetKinds.referred, Room.function_type, Room.IsUnfit, Room.LacksPart, Room.limit}
use Rattle.encode_names.specs.{WorldNames.name_of_item, WorldSteps.Entry, WorldSteps.interfaces_among}
use Rattle.wit_encode.specs.{Encoders.InterfaceLacksRoom, WorldItems.types_among}
use Rattle.wit_model.specs.declared.model.TypeOwner.TheVariants as owner

-- ---- what entries meet

-- the functions among imports and exports
abbrev pub functions_among : List Entry → List Function
functions_among es = filter_map (λ e. item_function e.1) es

-- the types among imports and exports
abbrev pub type_ids_among : List Entry → List TypeId
type_ids_among es = map (λ n. record { 0 = n }) (types_among es)

-- the types that imports and exports refer to: types of the world, and those of the parameters and results of its functions
abbrev pub referred_among : List Entry → List ValueType
referred_among es = referred (type_ids_among es) (functions_among es)

-- n is met on the way down from one of these: types of interfaces aren't opened
abbrev pub IsMetAmong : Resolve → List Entry → ℕ → Type 0
IsMetAmong r es n = ReachedFrom r None (referred_among es) n

-- a named type of one of these interfaces: an alias may bring it
pub record IsNamedTypeOf (r : Resolve) (interfaces : List ℕ) (n : ℕ) : Type 0 where
  pub interface : InterfaceId
  pub among : Contains interfaces interface.0
  pub def : TypeDef
  pub there : type_at r n ≡ Some def
  pub named_ : is_some def.name ≡ true
  pub owned : def.owner ≡ owner.Interface interface

-- a named type of one of the interfaces that these entries show
abbrev pub IsTypeAmong : Resolve → List Entry → ℕ → Type 0
IsTypeAmong r es n = IsNamedTypeOf r (interfaces_among es) n

-- numbers of which this holds, each once
pub record AreSome (P : ℕ → Type 0) (numbers : List ℕ) : Type 0 where
  pub different : AllPairs (λ x y. nat_eq x y ≡ false) numbers
  pub all : (n : ℕ) → Contains numbers n → P n

-- how many functions and interfaces they are
abbrev pub count_among : List Entry → ℕ
count_among es = length (functions_among es) + length (interfaces_among es)

-- ---- which worlds have no room

-- So many declarations, or more: two for each type number that the world meets, one for each named type of its interfaces, each once, and two
-- for each function and interface.
pub record AreMany (r : Resolve) (es : List Entry) (n : ℕ) : Type 0 where
  pub met : List ℕ
  pub brought : List ℕ
  pub are_met : AreSome (IsMetAmong r es) met
  pub are_brought : AreSome (IsTypeAmong r es) brought
  pub many : n ≤ 2 * length met + (length brought + 2 * count_among es)

-- the imports and the exports of a world
abbrev pub entries_in : World → List Entry
entries_in w = w.imports.entries ++ w.exports.entries

-- Something of the world doesn't fit in 32 bits by itself: an interface in its instance type, the name of a function or an interface, a part
-- of a type, the type of a function. Or there are too many declarations.
pub data WorldLacksRoom (r : Resolve) (w : World) : Type 0 where
  an_interface : (i : InterfaceId) (def : Interface) → Contains (interfaces_among (entries_in w)) i.0 → interface_at r i.0 ≡ Some def
      → InterfaceLacksRoom r i def → WorldLacksRoom r w
  a_name : (canonical : Bool) (e : Entry) → Contains (entries_in w) e → item_type e.1 ≡ None → fits_name (name_of_item r canonical e) ≡ false
      → WorldLacksRoom r w
  a_type : (n : ℕ) (def : TypeDef) → IsMetAmong r (entries_in w) n → type_at r n ≡ Some def → LacksPart r None (IsUnfit r) n def → WorldLacksRoom r w
  a_function : (f : Function) → Contains (functions_among (entries_in w)) f → IsUnfit r (function_type (signature_of r f)) → WorldLacksRoom r w
  too_many : AreMany r (entries_in w) limit → WorldLacksRoom r w

-- ---- law

-- A world that has no room in a component type weighs more than the largest number of 32 bits.
abbrev pub LackingWorldsAreHeavy : Type 0
LackingWorldsAreHeavy = (r : Resolve) (w : WorldId) (def : World) → IsValid r → world_at r w.0 ≡ Some def → WorldLacksRoom r def → limit < world_weight r w.0
