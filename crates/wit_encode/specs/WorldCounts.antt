-- What the component type of a world defines: each key of a function and each unnamed kind once, and the same in each instance type, which shows
-- its interface in order.
use Rattle.std.specs.Prelude.{ℕ, ◌≡◌, ◌⊎◌, true, List, [], ◌∷◌, ◌++◌, map, length, Some, None}
use Rattle.std.specs.{List.AllZip, List.Contains, List.IsDistinct, Set.is_member}
use Rattle.indexmap.specs.IndexMap.{values}
use Rattle.wit_model.specs.{Lookup.interface_at, Uses.item_interface, Valid.functions_of_interface}
use Rattle.wit_model.specs.declared.model.{Resolve.Resolve, Interface.Interface}
use Rattle.comp_bytes.specs.Raw.{Declaration, Declarations, from_list}
use Rattle.encode_types.specs.declared.maps.TypeEncodingMaps.{TypeEncodingMaps}
use Rattle.encode_types.specs.{Aliases.IsMetElsewhere, Counts.Definitions, MetKinds.LearnsFrom, Scope.Scope, Table.table_scope}
use Rattle.encode_types.specs.Distinct.{Key, key_of, are_same, is_function_type, AddsFunctions, DefinesKeys, StandForKeys, DefinesTypes}
use Rattle.encode_names.specs.WorldSteps.{Entry, interfaces_among}
use Rattle.wit_encode.specs.declared.world.Placed.{Placed}
use Rattle.wit_encode.specs.{DependencyAliases.IsMetByWhole, Worlds.WorldEncoder, Worlds.world_around, Worlds.world_definitions, Worlds.instances_declared}
use Rattle.wit_encode.specs.{WorldAliases.HasAliasesBehind, WorldAliases.KeepsAliases, WorldAliases.PlacedAlias, Places.StandInOrder, Places.are_beside}
use Rattle.wit_encode.specs.Instance.{DeclaresFew, IsInstance, count_declared, meaning_of, stands_inside, SlotsStand, outer_slots}
use Rattle.wit_encode.specs.{Order.functions_in_order, WorldItems.entry_of, WorldRoom.functions_among, WorldRoom.referred_among, WorldRoom.type_ids_among}
use Rattle.wit_model.specs.declared.model.TypeOwner.TheVariants as owner

-- ---- what is defined

-- An instance type shows the types of its interface in order, and its functions: those of resources by the order of their resource, then the
-- others. It defines what these types and functions ask for, each once, and nothing else. It has no more declarations than these take: so no
-- more outer aliases than types of other interfaces that are met. The type of a function stands just before the first function that has it.
pub record DefinesInterface (r : Resolve) (i : ℕ) (declared : Declarations × Declarations) : Type 0 where
  pub def : Interface
  pub there : interface_at r i ≡ Some def
  pub declarations : List Declaration
  pub is : declared.1 ≡ from_list declarations
  pub ordered : IsInstance r declared.0 (record { 0 = i }) declarations (map (meaning_of r) (functions_in_order def))
  pub function_types : DefinesKeys r (stands_inside r (record { 0 = i }) declared.0 declarations) (functions_of_interface def) declarations
  pub value_types : DefinesTypes r (Some (record { 0 = i })) (stands_inside r (record { 0 = i }) declared.0 declarations) (values def.types)
      (functions_of_interface def) (from_list declarations)
  pub few : DeclaresFew r (Some (record { 0 = i })) (values def.types) (functions_of_interface def) declarations
  pub places : StandInOrder declarations

-- what an import or an export of a world asks for: what its types meet of interfaces, and what its interface does
abbrev pub IsAskedBy : Resolve → Entry → ℕ → Type 0
IsAskedBy r e t = IsMetElsewhere r None (referred_among (e ∷ [])) t ⊎ ((i : ℕ) × (item_interface e.1 ≡ Some i) × IsMetByWhole r i t)

-- One of these imports and exports asks for it, and n interfaces stand before that one.
pub record IsAskedBehind (r : Resolve) (es : List Entry) (n t : ℕ) : Type 0 where
  pub before : List Entry
  pub entry : Entry
  pub behind : List Entry
  pub are : es ≡ before ++ entry ∷ behind
  pub place : length (interfaces_among before) ≡ n
  pub asked : IsAskedBy r entry t

-- The component type defines one function type for each key of these functions, in a slot of its own that stands for the key's signature. It
-- defines one value type for each unnamed kind that these types and functions meet and for each of the types that has a definition of its own,
-- in slots of their own. It defines no other function types and value types. It has an instance type for each interface, in order, which does
-- the same for it. Aliases stand there of types that these types, functions and interfaces meet, no type twice. Each is by the latest instance
-- of its interface that stands before, and behind as many instances as stand before one of the imports and exports that ask for it. The type
-- of a function stands just before the first import or export that has it, and an instance type just before its own.
pub record DefinesOnce (r : Resolve) (outer : Declarations) (es : List Entry) : Type 0 where
  pub keys : List Key
  pub function_types : count_declared is_function_type outer ≡ length keys
  pub different : IsDistinct are_same keys
  pub same : (key : Key) → is_member are_same keys key ≡ is_member are_same (map key_of (functions_among es)) key
  pub slots : StandForKeys r (SlotsStand (outer_slots outer)) keys outer
  pub value_types : DefinesTypes r None (SlotsStand (outer_slots outer)) (type_ids_among es) (functions_among es) outer
  pub inside : AllZip (DefinesInterface r) (interfaces_among es) (instances_declared outer)
  pub aliases : HasAliasesBehind r (interfaces_among es) (IsAskedBehind r es) outer
  pub places : are_beside 0 outer ≡ true

-- ---- between two items

abbrev pub nothing_defined : Definitions
nothing_defined = record { types = []; exported = []; functions = []; exports = [] }

-- a scope that is that of no interface
abbrev pub no_interface : Resolve → Scope
no_interface r = table_scope r owner.None

-- What has been defined is what the maps have learnt since they were empty: what these imports and exports meet, and nothing else, and the keys
-- of their functions. Each interface has its instance type. Aliases are of types that these imports and exports ask for, where they do.
pub record HasDefined (r : Resolve) (e : WorldEncoder) (es : List Entry) : Type 0 where
  pub began : TypeEncodingMaps
  pub no_numbers : began.id_to_index.entries ≡ []
  pub no_kinds : began.def_to_index.entries ≡ []
  pub no_keys : began.func_type_map.entries ≡ []
  pub adds : AddsFunctions r (no_interface r) began e.maps nothing_defined (world_definitions e.outer) (functions_among es)
  pub learns : LearnsFrom r None (referred_among es) began e.maps
  pub inside : AllZip (DefinesInterface r) (interfaces_among es) (instances_declared e.outer)
  pub keeps : KeepsAliases r e.instances (world_around e) (interfaces_among es)
  pub asked : (x : PlacedAlias) → Contains keeps.has.made x → IsAskedBehind r es x.0 x.1.number.0

-- Behind whatever had been defined, so is what these entries ask for, or one.
abbrev pub DefinesAll : Resolve → WorldEncoder → WorldEncoder → List Entry → Type 0
DefinesAll r e e' entries = (es : List Entry) → HasDefined r e es → HasDefined r e' (es ++ entries)

abbrev pub Defines : Resolve → WorldEncoder → WorldEncoder → Placed → Type 0
Defines r e e' x = DefinesAll r e e' (entry_of x ∷ [])
