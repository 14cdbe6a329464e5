-- What an encoder holds.
use Rattle.std.specs.Prelude.{ℕ, ◌≡◌, ◌≤◌, ◌+◌, ◌⊎◌, Bool, true, cond, List, Option, Some}
use Rattle.wit_model.specs.{Tree.Tree, Tree.named, Meaning.Signature, Lookup.type_at}
use Rattle.wit_model.specs.declared.model.{TypeDef.TypeDef, TypeId.TypeId, Resolve.Resolve}
use Rattle.comp_bytes.specs.declared.forms.{ComponentDefinedType.ComponentDefinedType, ComponentFuncType.ComponentFuncType}
use Rattle.comp_bytes.specs.Raw.{ExternName, Declarations}
use Rattle.encode_types.specs.declared.maps.TypeEncodingMaps.{TypeEncodingMaps}
use Rattle.encode_types.specs.Slots.{Pairs, Standing, tree, Keeps, SlotAdded, NameAdded, Follows, FollowsFunction}
use Rattle.encode_types.specs.{Scope.Scope, Maps.MapsAgree, Known.Around, Known.GrowsAround, Extents.tree_extent, Extents.signature_extent, Extents.import_extent, Extents.known_extent, Counts.Definitions, Counts.ExportsOne, Room.Request, Room.Refusals, Room.HoldsFor, Room.value_type, Room.function_type}

-- what the user of an encoder may have in mind of it: some numbers, or what had been declared at some time
pub data Told : Type 0 where
  numbers : List ℕ → Told
  declared : Declarations → Told

-- What an encoder holds: its scope, its slots, its maps, and what has been defined and written.
pub record View : Type 1 where
  -- what is around
  pub scope : Scope
  -- what stands in the scope around it, if there is one: aliases of types of other interfaces are made there
  pub around : Around
  -- for which type numbers of other interfaces something stands in the scope itself: an import adds the one that it is asked for at most
  pub imports : ℕ → Bool
  -- the number of slots, and what each stands for: after an export without a slot, one slot stands for two trees
  pub slot_count : ℕ
  pub stands : Pairs
  -- what has been defined, and what has been exported
  pub definitions : Definitions
  -- which index stands for what
  pub maps : TypeEncodingMaps
  -- how much it holds: a call that defines, exports or imports adds one at most, and one that finds no room adds nothing
  pub held : ℕ
  -- how much it has written: a call that defines, exports or imports adds no more than the extent of what it is asked to add
  pub extent : ℕ
  -- what more it has no room for, in 32 bits
  pub lacks_room : Refusals
  -- what the implementor says besides, of what its user has in mind: each call keeps it
  pub own : Told → Type 0

-- There are at least as many slots, and the old ones stand for what they did. Around, nothing has been declared but aliases of types that
-- had none. What the implementor says besides goes on to hold.
pub record Grows (v v' : View) : Type 0 where
  pub kept : Keeps v.stands v'.stands
  pub more : v.slot_count ≤ v'.slot_count
  pub around_ : GrowsAround v.scope.packages v.around v'.around
  pub own_ : (told : Told) → v.own told → v'.own told

-- of types of other interfaces, something has come to stand in the scope for this one at most
pub record ImportsOne (id : TypeId) (old new : ℕ → Bool) : Type 0 where
  pub each : (n : ℕ) → new n ≡ true → (old n ≡ true) ⊎ (n ≡ id.0)

-- slot i is new, and stands for what P holds of
abbrev pub AddsSlot : View → View → ℕ → (Standing → Type 0) → Type 0
AddsSlot v v' i P = SlotAdded v.stands v'.stands v.slot_count v'.slot_count i P

-- slot i is new, and stands for a name of the place
abbrev pub AddsName : View → View → ExternName → ℕ → Type 0
AddsName v v' name i = AddsSlot v v' i (λ m. m ≡ tree (named v.scope.place name.text))

-- slot i is exported as this tree: the name has a slot of its own, or none
abbrev pub Exports : View → View → ℕ → Tree → Option ℕ → Type 0
Exports v v' i t slot = NameAdded v.stands v'.stands v.slot_count v'.slot_count i t slot

-- one declaration of the place has been exported, under this name, from this slot or from none, and nothing has been defined
abbrev pub ExportsName : View → View → Option ℕ → ExternName → Type 0
ExportsName v v' slot name = ExportsOne v.scope v.definitions v'.definitions slot name

-- this has no room after the call, and nothing more is held than was
pub record Refuses (v v' : View) (request : Request) : Type 0 where
  pub lacks : v'.lacks_room request
  pub held : v'.held ≤ v.held

-- a definition has no room, as it was read before the call
abbrev pub LacksDefinition : View → View → ComponentDefinedType → Type 0
LacksDefinition v v' def = (t : Tree) → Follows v.stands def t → Refuses v v' (value_type t)

-- the type of a function has no room, as it was read before the call
abbrev pub LacksFunctionType : View → View → ComponentFuncType → Type 0
LacksFunctionType v v' def = (s : Signature) → FollowsFunction v.stands def s → Refuses v v' (function_type s)

-- the maps agree with the slots
abbrev pub Agrees : Resolve → View → Type 0
Agrees r v = MapsAgree r v.maps v.stands

-- at most so much more is held
abbrev pub HoldsMore : ℕ → View → View → Type 0
HoldsMore n v v' = v'.held ≤ v.held + n

-- one more is held at most where this is so, and else nothing more
abbrev pub HoldsIf : Bool → View → View → Type 0
HoldsIf b v v' = HoldsMore (cond b 1 0) v v'

-- at most so much more is held, and what has been learnt
abbrev pub HoldsLearnt : Resolve → ℕ → View → View → Type 0
HoldsLearnt r n v v' = HoldsFor r v.scope.own_interface v.maps v'.maps v.held v'.held n

-- at most so much more has been written
pub record Writes (n : ℕ) (v v' : View) : Type 0 where
  pub extent : v'.extent ≤ v.extent + n

-- a definition has been written, as it was read before the call
abbrev pub WritesDefinition : View → View → ComponentDefinedType → Type 0
WritesDefinition v v' def = (t : Tree) → Follows v.stands def t → Writes (tree_extent t) v v'

-- the type of a function has been written, as it was read before the call
abbrev pub WritesFunctionType : View → View → ComponentFuncType → Type 0
WritesFunctionType v v' def = (s : Signature) → FollowsFunction v.stands def s → Writes (signature_extent s) v v'

-- what stands for a type number of another interface has been written
abbrev pub WritesImport : View → View → ℕ → Type 0
WritesImport v v' n = (def : TypeDef) → type_at v.scope.packages n ≡ Some def → Writes (import_extent def) v v'

-- at most so much more has been written, and each type number that has been learnt
pub record WritesLearnt (r : Resolve) (n : ℕ) (v v' : View) : Type 0 where
  pub extent : v'.extent + known_extent r v.scope.own_interface v.maps ≤ v.extent + (known_extent r v.scope.own_interface v'.maps + n)

-- all of an encoder but its maps is the same
pub record SameRest (v v' : View) : Type 0 where
  pub scope_ : v'.scope ≡ v.scope
  pub around_ : v'.around ≡ v.around
  pub imports_ : v'.imports ≡ v.imports
  pub slot_count_ : v'.slot_count ≡ v.slot_count
  pub definitions_ : v'.definitions ≡ v.definitions
  pub held_ : v'.held ≡ v.held
  pub extent_ : v'.extent ≡ v.extent
  pub own_ : (told : Told) → v.own told → v'.own told
  pub kept : Keeps v.stands v'.stands
  pub back : Keeps v'.stands v.stands
