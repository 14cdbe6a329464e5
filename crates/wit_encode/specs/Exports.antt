-- Which types are exported from the instance type of an interface.
use Rattle.std.specs.Prelude.{ℕ, ◌≡◌, ◌⊎◌, List, Option, Some, None, take, map}
use Rattle.std.specs.List.{Contains}
use Rattle.indexmap.specs.IndexMap.{values}
use Rattle.wit_model.specs.{Lookup.interface_at, Parts.used_by_function}
use Rattle.wit_model.specs.declared.model.{Resolve.Resolve, Interface.Interface, InterfaceId.InterfaceId, TypeId.TypeId, Function.Function}
use Rattle.encode_types.specs.declared.maps.TypeEncodingMaps.{TypeEncodingMaps}
use Rattle.encode_types.specs.{Maps.IsKnown, Scope.Scope, Counts.Definitions, Counts.own_name}

-- the types of the interface, in the order of its list
pub record AreTypesOf (r : Resolve) (interface : Option InterfaceId) (types : List TypeId) : Type 0 where
  pub id : InterfaceId
  pub is : interface ≡ Some id
  pub def : Interface
  pub there : interface_at r id.0 ≡ Some def
  pub listed : types ≡ values def.types

-- The first k types are known, and no other named type of the place is; their declarations have been exported, in order.
pub record ShowsFirst (r : Resolve) (scope : Scope) (types : List TypeId) (k : ℕ) (m : TypeEncodingMaps) (d : Definitions) : Type 0 where
  pub known : (t : TypeId) → Contains (take k types) t → IsKnown m t.0
  pub alone : (t : TypeId) (i : ℕ) → Contains m.id_to_index.entries (t.0, i) → (own_name r scope t.0 ≡ None) ⊎ Contains (take k types) t
  pub exported : d.exports ≡ take k scope.declarations

-- each type is known
abbrev pub AllKnown : TypeEncodingMaps → List TypeId → Type 0
AllKnown m types = (t : TypeId) → Contains types t → IsKnown m t.0

-- each named type that a function uses is known
abbrev pub KnowsUsed : Resolve → TypeEncodingMaps → Function → Type 0
KnowsUsed r m f = (n : ℕ) → Contains (used_by_function r f) n → IsKnown m n

-- each named type that a function uses stands in the list
abbrev pub UsesListed : Resolve → List TypeId → Function → Type 0
UsesListed r types f = (n : ℕ) → Contains (used_by_function r f) n → Contains (map (λ t. t.0) types) n
