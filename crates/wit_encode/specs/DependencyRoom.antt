-- Which interfaces have no room in a component type of their own, where every count and every length is a number of 32 bits
-- (Component Model Binary.md, "vec" and the numbers of "Core WebAssembly").
use Rattle.std.specs.Prelude.{ℕ, ◌≡◌, ◌≤◌, ◌<◌, ◌+◌, ◌*◌, Bool, true, false, List, [], length, Some, is_some}
use Rattle.std.specs.List.{Contains}
use Rattle.indexmap.specs.IndexMap.{values}
use Rattle.wit_model.specs.{Lookup.interface_at, Lookup.interface_path, Valid.IsValid, Weight.interface_weight}
use Rattle.wit_model.specs.declared.model.{Resolve.Resolve, Interface.Interface, InterfaceId.InterfaceId}
use Rattle.comp_bytes.specs.{Fits.fits_name, Raw.declaration_count}
use Rattle.encode_shown.specs.Views.{AreReached}
use Rattle.encode_types.specs.{Known.Around, MetKinds.referred, Room.HasNoRoom, Room.limit}
use Rattle.encode_names.specs.WorldNames.{name_of_interface}
use Rattle.wit_encode.specs.{Encoders.InterfaceLacksRoom, Instance.AliasesForTypes, WorldRoom.AreSome, WorldRoom.IsNamedTypeOf, Worlds.brought_numbers}

-- ---- between two imports

-- There are at most so many declarations: one for each named type of a listed interface that has an alias, and two for each of these interfaces.
abbrev pub HoldsImports : Resolve → Around → List ℕ → Type 0
HoldsImports r around interfaces = declaration_count around.declared ≤ length (brought_numbers r around) + 2 * length interfaces

-- The types of an interface have no room in an instance type.
abbrev pub TypesLackRoom : Resolve → InterfaceId → Interface → Type 0
TypesLackRoom r i def = HasNoRoom r (Some i) (referred (values def.types) []) []

-- Why the types of an interface can't be imported. They have no room in an instance type, or the path of the interface doesn't fit. Or the
-- component type, after aliases have been made that they ask for, has no room for the instance type and the import.
pub data LacksImport (r : Resolve) (canonical : Bool) (around : Around) (i : InterfaceId) : Type 0 where
  its_types : (def : Interface) → interface_at r i.0 ≡ Some def → TypesLackRoom r i def → LacksImport r canonical around i
  its_path : fits_name (name_of_interface r canonical i.0) ≡ false → LacksImport r canonical around i
  a_place : (after : Around) → AliasesForTypes r i around after → limit ≤ declaration_count after.declared + 1 → LacksImport r canonical around i

-- ---- the whole

-- The types of one of these interfaces have no room in an instance type, or the path of one doesn't fit. Or there are too many declarations:
-- one for each named type of the interfaces, each once, two for each of them, and two more.
pub data ImportsLackRoom (r : Resolve) (interfaces : List ℕ) : Type 0 where
  an_interface : (i : InterfaceId) (def : Interface) → Contains interfaces i.0 → interface_at r i.0 ≡ Some def → TypesLackRoom r i def
      → ImportsLackRoom r interfaces
  a_path : (canonical : Bool) (n : ℕ) → Contains interfaces n → fits_name (name_of_interface r canonical n) ≡ false → ImportsLackRoom r interfaces
  too_many : (brought : List ℕ) → AreSome (IsNamedTypeOf r interfaces) brought → limit ≤ length brought + 2 * (length interfaces + 1)
      → ImportsLackRoom r interfaces

-- The imports have none, or the interface itself, or its path.
pub data ComponentLacksRoom (r : Resolve) (i : InterfaceId) (reached : List ℕ) : Type 0 where
  of_imports : ImportsLackRoom r reached → ComponentLacksRoom r i reached
  of_interface : (def : Interface) → interface_at r i.0 ≡ Some def → InterfaceLacksRoom r i def → ComponentLacksRoom r i reached
  of_path : (canonical : Bool) → fits_name (name_of_interface r canonical i.0) ≡ false → ComponentLacksRoom r i reached

-- ---- law

-- An interface that has no room in a component type of its own weighs, with what it reaches, more than the largest number of 32 bits.
abbrev pub LackingComponentsAreHeavy : Type 0
LackingComponentsAreHeavy = (r : Resolve) (i : InterfaceId) (reached : List ℕ) → IsValid r → is_some (interface_path r i.0) ≡ true → AreReached r i.0 reached
    → ComponentLacksRoom r i reached
    → limit < interface_weight r i.0
