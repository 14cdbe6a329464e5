-- What an encoder of a world has encoded: imports and exports of the world, in order, each seen as such when every index is followed.
use Rattle.std.specs.Prelude.{ℕ, ◌≡◌, ◌≤◌, ◌⊎◌, ◌+◌, true, List, [], ◌∷◌, ◌++◌, length, filter_map, is_some, Some, None}
use Rattle.std.specs.{BTreeMap.insert_entry, List.Contains, Ordering.nat_cmp}
use Rattle.wit_model.specs.{Lookup.interface_at, Lookup.interface_path, Lookup.world_at, Rules.item_type}
use Rattle.wit_model.specs.declared.model.{Resolve.Resolve, World.World, Interface.Interface, InterfaceId.InterfaceId}
use Rattle.comp_meaning.specs.Follow.{Direction, import_, export_}
use Rattle.encode_types.specs.{Counts.own_name, Known.outer_scope, Known.standing_instances, Maps.IsKnown, View.Agrees}
use Rattle.encode_names.specs.WorldSteps.{Entry, Entries, ShowsEntries, interfaces_among, with_entry}
use Rattle.wit_encode.specs.declared.world.{Direction.Direction as RustDirection, Placed.Placed}
use Rattle.wit_encode.specs.{Instance.EncodesDependency, Instance.EncodesInterface, WholeWorlds.directions_of, WholeWorlds.imports_first}
use Rattle.wit_encode.specs.Worlds.{WorldEncoder, is_sound_outside, world_around, world_view_of}
use Rattle.comp_meaning.specs.Follow as follow
use Rattle.wit_encode.specs.declared.world.Direction.TheVariants as directions

-- the numbers of the types among entries, in order
abbrev pub types_among : List Entry → List ℕ
types_among es = filter_map (λ e. item_type e.1) es

abbrev pub all_done : Entries → List Entry
all_done done = done.0 ++ done.1

-- What holds between two items: these imports and exports of the world are shown. Instances of the interfaces among them stand, each named
-- one for its number, and no other has been counted; there are no more of them than types. The types of the world that are known are those
-- that have been imported. No import stands behind an export.
pub record HasShown (r : Resolve) (w : World) (e : WorldEncoder) (done : Entries) : Type 0 where
  pub packages_ : e.resolve.now ≡ r
  pub world_ : world_at r e.world.0 ≡ Some w
  pub scope : follow.Scope
  pub followed : outer_scope e.outer ≡ Some scope
  pub shows : ShowsEntries r done scope
  pub order : directions_of e.outer ≡ imports_first done.0 done.1
  pub agree : Agrees r (world_view_of r e)
  pub sound : is_sound_outside r e.world (world_around e) ≡ true
  pub stand : (i : ℕ) → Contains (interfaces_among (all_done done)) i → is_some (interface_path r i) ≡ true → Contains (standing_instances r (world_around e)) i
  pub count : e.instances ≡ length (interfaces_among (all_done done))
  -- each instance has a type of its own
  pub typed : e.instances ≤ length scope.slots
  pub known : (n : ℕ) → Contains (types_among (all_done done)) n → IsKnown e.maps n
  pub alone : (n : ℕ) → IsKnown e.maps n → (own_name r (world_view_of r e).scope n ≡ None) ⊎ Contains (types_among (all_done done)) n

abbrev pub towards : RustDirection → Direction
towards directions.Import = import_
towards directions.Export = export_

-- imports, or exports, of a world, and those among what has been done
abbrev pub entries_of : Direction → World → List Entry
entries_of import_ w = w.imports.entries
entries_of export_ w = w.exports.entries

abbrev pub done_towards : Direction → Entries → List Entry
done_towards import_ done = done.0
done_towards export_ done = done.1

-- before the exports all imports have been encoded, and before the imports no export
abbrev pub IsBegun : Direction → World → Entries → Type 0
IsBegun import_ w done = done.1 ≡ []
IsBegun export_ w done = done.0 ≡ w.imports.entries

-- The entry stands in the world's list right behind those that have been encoded.
pub record IsNext (r : Resolve) (w : World) (direction : Direction) (done : Entries) (e : Entry) : Type 0 where
  pub rest : List Entry
  pub next : entries_of direction w ≡ done_towards direction done ++ e ∷ rest
  pub begun : IsBegun direction w done

abbrev pub entry_of : Placed → Entry
entry_of x = (x.key.now, x.item.now)

-- Some imports and exports of the world have been encoded, and the entry is next.
pub record AwaitsNext (r : Resolve) (e : WorldEncoder) (x : Placed) : Type 0 where
  pub world : World
  pub done : Entries
  pub shown : HasShown r world e done
  pub next : IsNext r world (towards x.direction) done (entry_of x)

-- Behind whatever had been encoded, the entry has been encoded.
abbrev pub Encodes : Resolve → WorldEncoder → WorldEncoder → Placed → Type 0
Encodes r e e' x = (w : World) (done : Entries) → HasShown r w e done → IsNext r w (towards x.direction) done (entry_of x)
    → HasShown r w e' (with_entry (towards x.direction) done (entry_of x))

-- ---- interfaces

-- Slot k of the component type is new: an instance type that shows the interface, behind aliases alone.
abbrev pub DefinesInstance : WorldEncoder → WorldEncoder → InterfaceId → ℕ → Type 0
DefinesInstance e e' i k = (def : Interface) → interface_at e.resolve.now i.0 ≡ Some def
    → EncodesInterface e.resolve.now (world_around e) (world_around e') i def k

-- So it is with its types alone.
abbrev pub DefinesDependency : WorldEncoder → WorldEncoder → InterfaceId → ℕ → Type 0
DefinesDependency e e' i k = (def : Interface) → interface_at e.resolve.now i.0 ≡ Some def
    → EncodesDependency e.resolve.now (world_around e) (world_around e') i def k

-- The latest instance is that of the interface, and has the next number. One more has been counted.
pub record ListsInstance (e e' : WorldEncoder) (i : InterfaceId) : Type 0 where
  pub listed : e'.foreign.instances.entries ≡ insert_entry nat_cmp e.foreign.instances.entries i.0 e.instances
  pub rest : e' ≡ record e { foreign = record e.foreign { instances = e'.foreign.instances }; instances = e.instances + 1 }

-- ---- all imports, or all exports

-- what has been encoded before the imports, or the exports, and after them
abbrev pub begun : Direction → World → Entries
begun import_ w = ([], [])
begun export_ w = (w.imports.entries, [])

abbrev pub ended : Direction → World → Entries
ended import_ w = (w.imports.entries, [])
ended export_ w = (w.imports.entries, w.exports.entries)

-- these imports of the world, or these exports, are next
pub record AwaitsAll (r : Resolve) (e : WorldEncoder) (direction : Direction) (entries : List Entry) : Type 0 where
  pub world : World
  pub shown : HasShown r world e (begun direction world)
  pub are : entries ≡ entries_of direction world

-- they have been encoded
abbrev pub EncodesAll : Resolve → WorldEncoder → WorldEncoder → Direction → Type 0
EncodesAll r e e' direction = (w : World) → HasShown r w e (begun direction w) → HasShown r w e' (ended direction w)
