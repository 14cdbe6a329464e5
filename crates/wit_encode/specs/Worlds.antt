-- What an encoder of a world holds: a component type, in whose scope the types of the world are imported (Component Model WIT.md, "Package Format").
use Rattle.std.specs.Prelude.{ℕ, ◌≡◌, ◌-◌, ◌++◌, Bool, false, ◌&&◌, if◌then◌else◌, List, [], ◌∷◌, Option, Some, None, length, map, filter_map, is_some}
use Prim.Native.Nat.{zero, suc}
use Rattle.std.specs.{Option.option_map_or, List.filter, List.list_all}
use Rattle.wit_model.specs.{Text.Text, Tree.TypeDeclaration, Lookup.type_at, Meaning.TypeMeaning, Uses.owner_interface}
use Rattle.wit_model.specs.declared.model.{Resolve.Resolve, TypeDef.TypeDef, WorldId.WorldId}
use Rattle.comp_bytes.specs.Raw.{Declarations, append, declaration_count}
use Rattle.comp_meaning.specs.Follow.{Direction, import_, export_, Seen, Shown, instance_types}
use Rattle.encode_types.specs.declared.maps.TypeEncodingMaps.{TypeEncodingMaps}
use Rattle.encode_types.specs.{Counts.Definitions, Distinct.value_slots, Distinct.function_slots, Distinct.targets_of, Standing.SlotsStand, Standing.is_slot_of}
use Rattle.encode_types.specs.Known.{Around, are_right, below, known_instance, known_slot, outer_instances, outer_scope, outer_slots, standing_instances}
use Rattle.encode_types.specs.{Resources.Names, Resources.resource_names, Resources.is_met_owner, Room.LacksRoomBehind, Scope.Others, Scope.Scope}
use Rattle.encode_types.specs.{Table.table_scope, View.Told, View.View}
use Rattle.encode_names.specs.Rebuilt.{others_seen}
use Rattle.wit_encode.specs.{Instance.around_at, Instance.declared_extent, WholeWorlds.directions_of, WorldAliases.KeepsListed, WrittenNames.instances_around}
use Rattle.wit_encode.specs.Places.{GrowsBy}
use Rattle.wit_encode.specs.declared.world.WorldEncoderOf.{WorldEncoderOf}
use Rattle.wit_model.specs.declared.model.TypeOwner.TheVariants as owner

-- an encoder of a world, with the maps of the code
abbrev pub WorldEncoder : Type 0
WorldEncoder = WorldEncoderOf TypeEncodingMaps

-- ---- what has been imported and exported

-- what a component type imports, followed
abbrev pub seen_imports : Declarations → List Seen
seen_imports outer = option_map_or (λ s. s.imports) (outer_scope outer) []

-- what a component type exports, followed
abbrev pub seen_exports : Declarations → List Seen
seen_exports outer = option_map_or (λ s. s.exports) (outer_scope outer) []

-- the instance types that have been used
abbrev pub used_types : Declarations → List ℕ
used_types outer = option_map_or (λ s. s.used) (outer_scope outer) []

-- the declaration of a type, if that is what is imported
abbrev pub declaration_shown : Shown → Option TypeDeclaration
declaration_shown (Shown.instance key view) = None
declaration_shown (Shown.function f) = None
declaration_shown (Shown.declares d) = Some d

-- an import of a type, by its name and what it means
abbrev pub declared_type : Seen → Option (Text × TypeMeaning)
declared_type seen = option_map_or (λ d. Some (seen.key, record { declaration = d; external_id = seen.external_id })) (declaration_shown seen.shown) None

-- the instance types in a component type, in order, each behind what has been declared before it
abbrev pub instances_from : Declarations → Declarations → List (Declarations × Declarations)
instances_from before Declarations.no_more = []
instances_from before (Declarations.declares d rest) = instances_from (append before (Declarations.declares d Declarations.no_more)) rest
instances_from before (Declarations.component inner rest) = instances_from (append before (Declarations.component inner Declarations.no_more)) rest
instances_from before (Declarations.instance inner rest) =
    (before, inner) ∷ instances_from (append before (Declarations.instance inner Declarations.no_more)) rest

-- the instance types of a component type, each with what was declared before it
abbrev pub instances_declared : Declarations → List (Declarations × Declarations)
instances_declared outer = instances_from Declarations.no_more outer

-- ---- the scope of the component type

-- which names stand for resources in the scope of a world
abbrev pub world_resources : Resolve → WorldId → Names
world_resources r w = resource_names r (is_met_owner r (owner.World w))

-- whether what has been declared can be followed, with each resource in a slot of its own kind, and what is listed of aliases is right
abbrev pub is_sound_outside : Resolve → WorldId → Around → Bool
is_sound_outside r w component =
    is_some (outer_scope component.declared) && (list_all (is_slot_of (world_resources r w)) (outer_slots component.declared)
    && are_right r component.known (outer_slots component.declared))

-- what else a component type with so many instances holds, which no call of the generic functions changes: what has been imported beside
-- types, what has been exported, the instances, and the instance types with those that have been used
abbrev pub others_of : WorldId → ℕ → Around → Others
others_of w count component = record {
  world = Some w.0;
  listed = component.instances;
  instance_count = count;
  imports = others_seen 0 (seen_imports component.declared);
  exports = seen_exports component.declared;
  instances = outer_instances component.declared;
  instance_types = instance_types (outer_slots component.declared);
  used = used_types component.declared;
  declared = instances_declared component.declared;
}

-- the surroundings: instances stand where what has been declared can be followed
abbrev pub world_scope : Resolve → WorldId → ℕ → Around → Scope
world_scope r w count component = record (table_scope r (owner.World w)) {
  instances = if is_sound_outside r w component then standing_instances r component else [];
  is_sound = is_sound_outside r w component;
  others = others_of w count component;
}

-- what has been defined in a component type, and which types it imports
abbrev pub world_definitions : Declarations → Definitions
world_definitions outer = record {
  types = value_slots outer;
  exported = targets_of outer;
  functions = function_slots outer;
  exports = filter_map declared_type (seen_imports outer);
}

-- ---- what is held

-- whether a type is a named one of an interface that is listed with an instance
abbrev pub is_of_listed : List (ℕ × ℕ) → TypeDef → Bool
is_of_listed listed def = is_some def.name && option_map_or (λ i. is_some (known_instance listed i)) (owner_interface def.owner) false

-- whether a type of an interface that is listed with an instance has an alias
abbrev pub is_brought : Resolve → Around → ℕ → Bool
is_brought r component n = is_some (known_slot component.known n) && option_map_or (is_of_listed component.instances) (type_at r n) false

-- the types of listed interfaces that have an alias in the component type
abbrev pub brought_numbers : Resolve → Around → List ℕ
brought_numbers r component = filter (is_brought r component) (below (length r.types.items))

-- how many declarations there are beside an alias for each type that is brought
abbrev pub held_beside : Resolve → Around → ℕ
held_beside r component = declaration_count component.declared - length (brought_numbers r component)

-- an import, or by any greater number an export
abbrev pub direction_at : ℕ → Direction
direction_at zero = import_
direction_at (suc n) = export_

-- The first imports and exports are these.
pub record BeginsWith (ns : List ℕ) (outer : Declarations) : Type 0 where
  pub more : List Direction
  pub are : directions_of outer ≡ map direction_at ns ++ more

-- What is kept of what a user has in mind. Of a list it is, behind zero, what it tells of aliases, and behind any other number, what it tells
-- of imports and exports. Of what had been declared it is that behind it stands only what takes a type index.
abbrev pub KeepsTold : Resolve → ℕ → Around → Told → Type 0
KeepsTold r count around (Told.numbers []) = Unit {0}
KeepsTold r count around (Told.numbers (zero ∷ ns)) = KeepsListed r count around ns
KeepsTold r count around (Told.numbers (suc n ∷ ns)) = BeginsWith ns around.declared
KeepsTold r count around (Told.declared ds) = GrowsBy ds around.declared

-- A component type with so many instances, and the maps of its scope. Around are its instance types and what it imports and exports of
-- instances. Of types of other interfaces stands what has an alias, each by the latest instance of its interface.
abbrev pub world_view : Resolve → WorldId → ℕ → Around → TypeEncodingMaps → View
world_view r w count component maps = record {
  scope = world_scope r w count component;
  around = instances_around component.declared;
  imports = λ n. is_some (known_slot component.known n);
  slot_count = length (outer_slots component.declared);
  stands = SlotsStand (outer_slots component.declared);
  definitions = world_definitions component.declared;
  maps = maps;
  held = held_beside r component;
  extent = declared_extent component.declared;
  lacks_room = LacksRoomBehind r (declaration_count component.declared);
  own = λ told. KeepsTold r count component told;
}

-- the component type, and what is listed of it
abbrev pub world_around : WorldEncoder → Around
world_around e = around_at e.outer e.foreign

-- what an encoder of a world holds, read in these packages
abbrev pub world_view_of : Resolve → WorldEncoder → View
world_view_of r e = world_view r e.world e.instances (world_around e) e.maps

-- what an encoder of a world holds, read in its own packages
abbrev pub world_encoder_view : WorldEncoder → View
world_encoder_view e = world_view_of e.resolve.now e
