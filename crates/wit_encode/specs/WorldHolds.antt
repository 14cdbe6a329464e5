-- How much an encoder of a world holds between two items, and which calls have no room.
use Rattle.std.specs.Prelude.{ℕ, ◌≡◌, ◌≤◌, ◌+◌, ◌*◌, ◌&&◌, true, false, ◌⊎◌, List, [], ◌∷◌, ◌++◌, length, Some, is_some}
use Rattle.std.specs.List.{Contains}
use Rattle.wit_model.specs.Lookup.{interface_at}
use Rattle.wit_model.specs.declared.model.{Resolve.Resolve, Interface.Interface, InterfaceId.InterfaceId, World.World}
use Rattle.comp_bytes.specs.{Fits.fits_declaration, Held.declaration_slots, Held.fits_added, Raw.Declaration, Raw.Declarations, Raw.declaration_count}
use Rattle.comp_meaning.specs.Follow.{Direction}
use Rattle.encode_types.specs.{Known.known_instance, Room.HasNoRoom}
use Rattle.encode_names.specs.WorldSteps.{Entry, Entries, interfaces_among}
use Rattle.wit_encode.specs.declared.world.Placed.{Placed}
use Rattle.wit_encode.specs.{Encoders.InterfaceLacksRoom, WorldCounts.HasDefined, Worlds.WorldEncoder, Worlds.brought_numbers, Worlds.world_around}
use Rattle.wit_encode.specs.{Instance.LacksInstanceRoom, Instance.whole_interface, Instance.types_alone_of, WorldRoom.WorldLacksRoom, WorldRoom.count_among}
use Rattle.wit_encode.specs.WorldItems.{HasShown, IsNext, all_done, begun, entry_of, towards}

-- There are at most two declarations for each type number that is known in the component type, and one for each named type of a
-- listed interface that has an alias there. To these come at most two for each function and interface of these imports and
-- exports. Only their interfaces are listed.
pub record HoldsFew (r : Resolve) (e : WorldEncoder) (es : List Entry) : Type 0 where
  pub listed : (i : ℕ) → is_some (known_instance e.foreign.instances.entries i) ≡ true → Contains (interfaces_among es) i
  pub held : declaration_count e.outer ≤ 2 * length e.maps.id_to_index.entries + (length (brought_numbers r (world_around e)) + 2 * count_among es)

-- It goes on so behind these entries, or behind one.
abbrev pub HoldsAll : Resolve → WorldEncoder → WorldEncoder → List Entry → Type 0
HoldsAll r e e' entries = (es : List Entry) → HoldsFew r e es → HoldsFew r e' (es ++ entries)

abbrev pub HoldsOn : Resolve → WorldEncoder → WorldEncoder → Placed → Type 0
HoldsOn r e e' x = HoldsAll r e e' (entry_of x ∷ [])

-- The world of which the entry is next has no room in a component type.
abbrev pub LacksWorldRoom : Resolve → WorldEncoder → Placed → Type 0
LacksWorldRoom r e x = (w : World) (done : Entries) → HasShown r w e done → IsNext r w (towards x.direction) done (entry_of x) → HasDefined r e (all_done done)
    → HoldsFew r e (all_done done)
    → WorldLacksRoom r w

-- The same of the world whose imports, or whose exports, are next.
abbrev pub LacksRoomTowards : Resolve → WorldEncoder → Direction → Type 0
LacksRoomTowards r e direction = (w : World) → HasShown r w e (begun direction w) → HasDefined r e (all_done (begun direction w))
    → HoldsFew r e (all_done (begun direction w)) → WorldLacksRoom r w

-- An instance type has no room for the interface. Or the component type, after aliases have been made, has none for one more alias or instance
-- type.
abbrev pub LacksInstanceHere : WorldEncoder → InterfaceId → Type 0
LacksInstanceHere e i = (def : Interface) → interface_at e.resolve.now i.0 ≡ Some def → InterfaceLacksRoom e.resolve.now i def
    ⊎ LacksInstanceRoom e.resolve.now i (whole_interface def) (world_around e)

-- So it is with its types alone.
abbrev pub LacksDependencyHere : WorldEncoder → InterfaceId → Type 0
LacksDependencyHere e i = (def : Interface) → interface_at e.resolve.now i.0 ≡ Some def → HasNoRoom e.resolve.now (Some i) (types_alone_of def) []
    ⊎ LacksInstanceRoom e.resolve.now i (types_alone_of def) (world_around e)

-- The declaration doesn't fit behind those of a component type, or a count doesn't with it.
abbrev pub LacksDeclaration : Declarations → Declaration → Type 0
LacksDeclaration outer d = (fits_declaration d && fits_added outer (declaration_slots d)) ≡ false
