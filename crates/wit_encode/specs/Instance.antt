-- What an encoder of interfaces holds: the component type around, and in it the instance type of the interface that it is encoding.
-- What has been declared is followed, so each slot stands for what the bytes say.
use Rattle.std.specs.Prelude.{length, ℕ, ◌≡◌, ◌≤◌, ◌⊎◌, ◌+◌, ◌++◌, Bool, false, ◌&&◌, List, [], ◌∷◌, map, count_by, Option, Some, None, is_some, String, if◌then◌else◌}
use Rattle.std.specs.{Option.option_map_or, List.list_all, List.Contains, Set.distinct_count, Borrow.Bor}
use Rattle.std.specs.declared.alloc.Global.{Global}
use Rattle.wit_model.specs.{Text.Text, Text.text_of, Tree.Place, Tree.here}
use Rattle.wit_model.specs.{Meaning.TypeMeaning, Meaning.FunctionMeaning, Meant.interface_meaning_at, Meant.types_alone, Lookup.interface_at, Lookup.place_of}
use Rattle.wit_model.specs.declared.model.{Resolve.Resolve, InterfaceId.InterfaceId, TypeOwner.TypeOwner, Interface.Interface, «Type».«Type» as ValueType}
use Rattle.wit_model.specs.declared.model.TypeId.{TypeId}
use Rattle.comp_bytes.specs.{Raw.Declaration, Raw.Declarations, Raw.append, Raw.declaration_count, Raw.from_list, Held.type_slots_of, Held.fits_added}
use Rattle.comp_bytes.specs.Writing.{declarations_bytes}
use Rattle.comp_meaning.specs.Reads.{meaning_of_view}
use Rattle.comp_meaning.specs.Follow.{Slot, View, InstanceScope, instance_view, instance_steps, new_instance}
use Rattle.encode_shown.specs.Views.{ShowsInterface, ShowsTypes, types_of}
use Rattle.wit_encode.specs.declared.interface.{OpenInterface.OpenInterface, Foreign.Foreign}
use Rattle.indexmap.specs.IndexMap.{values}
use Rattle.encode_types.specs.{Slots.Pairs, Resources.Names, Resources.is_met_owner, Resources.is_named_interface, Resources.resource_names}
use Rattle.encode_types.specs.Room.{Refusals, value_type, function_type, export_name, import_of, LacksRoomBehind, AreApart, numbers_count}
use Rattle.wit_model.specs.declared.model.TypeOwner.TheVariants as owner
use Rattle.wit_model.specs.declared.model.«Type».TheVariants as ty
pub use Rattle.encode_types.specs.Standing.{standing_at, SlotsStand, is_slot_of}
use Rattle.encode_types.specs.Known.{Around, GrowsAround, no_around}
pub use Rattle.encode_types.specs.Known.{outer_scope, outer_slots, outer_instances, standing_instances}
use Rattle.wit_model.specs.declared.model.Function.{Function}
use Rattle.wit_model.specs.{Meant.signature_of, Meant.function_meaning, Parts.function_types}
use Rattle.encode_types.specs.declared.maps.TypeEncodingMaps.{TypeEncodingMaps}
use Rattle.encode_types.specs.{Maps.MapsAgree, Formed.IsFormedSignature, Fits.CanEncode, Scope.Scope, Scope.no_others}
use Rattle.wit_encode.specs.{Order.functions_in_order, Places.StandInOrder}
pub use Rattle.encode_types.specs.Distinct.{is_value_type, is_function_type}
use Rattle.encode_types.specs.Distinct.{key_of, are_same, value_slots, function_slots, targets_of, DefinesKeys, DefinesTypes}
use Rattle.encode_types.specs.{Counts.Definitions, Aliases.AliasesMet, MetKinds.referred, MetKinds.ReachedFrom}

-- ---- what has been declared in a scope

-- What has been declared in a scope: its slots, what it shows, whether it can be followed, and which slots define what.
pub record Contents : Type 0 where
  pub slots : List Slot
  pub shown : View
  pub is_followed : Bool
  -- the slots of the value types that are defined, those that are exported under names, and those of the types of functions that are defined
  pub types : List ℕ
  pub exported : List ℕ
  pub functions : List ℕ

-- the view of nothing
abbrev pub no_view : View
no_view = record { types = []; functions = [] }

-- how many of the declarations at the first level pass a test
abbrev pub count_declared : (Declaration → Bool) → Declarations → ℕ
count_declared test Declarations.no_more = 0
count_declared test (Declarations.declares d rest) = count_by test (d ∷ []) + count_declared test rest
count_declared test (Declarations.component inner rest) = count_declared test rest
count_declared test (Declarations.instance inner rest) = count_declared test rest

-- of the component type
unfoldable pub outer_contents : Declarations → Contents
outer_contents outer = record {
  slots = outer_slots outer;
  shown = no_view;
  is_followed = is_some (outer_scope outer);
  types = value_slots outer;
  exported = targets_of outer;
  functions = function_slots outer;
}

-- the declarations of an instance type, followed in the component type around it
abbrev pub inner_scope : Place → Declarations → List Declaration → Option InstanceScope
inner_scope place outer ds = instance_steps place (outer_slots outer) new_instance ds

-- what has been declared in the instance type
unfoldable pub inner_contents : Place → Declarations → List Declaration → Contents
inner_contents place outer ds = record {
  slots = option_map_or (λ s. s.slots) (inner_scope place outer ds) [];
  shown = option_map_or (λ s. s.shown) (inner_scope place outer ds) no_view;
  is_followed = is_some (inner_scope place outer ds);
  types = value_slots (from_list ds);
  exported = targets_of (from_list ds);
  functions = function_slots (from_list ds);
}

-- ---- the encoder

abbrev pub own_of : Option OpenInterface → Option InterfaceId
own_of None = None
own_of (Some current) = Some current.interface

abbrev pub place_in : Resolve → Option InterfaceId → Place
place_in r None = here
place_in r (Some i) = place_of r (owner.Interface i)

-- the declarations of the interface, with the names of its resources
abbrev pub declarations_in : Resolve → Option InterfaceId → List (Text × TypeMeaning)
declarations_in r None = []
declarations_in r (Some i) = (interface_meaning_at r i.0).types

abbrev pub is_owner_in : Resolve → Option InterfaceId → TypeOwner → Bool
is_owner_in r None o = is_named_interface r o
is_owner_in r (Some i) o = is_met_owner r (owner.Interface i) o

abbrev pub resources_in : Resolve → Option InterfaceId → Names
resources_in r interface = resource_names r (is_owner_in r interface)

abbrev pub contents_of : Resolve → Declarations → Option OpenInterface → Contents
contents_of r outer None = outer_contents outer
contents_of r outer (Some current) = inner_contents (place_of r (owner.Interface current.interface)) outer current.declared

-- a component type, and what is listed of it
abbrev pub around_at : Declarations → Foreign → Around
around_at outer foreign = record { declared = outer; instances = foreign.instances.entries; known = foreign.known.entries }

-- what stands around an instance type, if one is open
abbrev pub around_of : Declarations → Option OpenInterface → Around
around_of outer None = no_around
around_of outer (Some current) = around_at outer current.foreign

-- whether what has been declared can be followed, with each resource in a slot of its own kind
abbrev pub is_sound_in : Resolve → Option InterfaceId → Contents → Bool
is_sound_in r interface contents = contents.is_followed && list_all (is_slot_of (resources_in r interface)) contents.slots

-- The surroundings. Instances stand where what has been declared can be followed.
abbrev pub scope_from : Resolve → Option InterfaceId → List ℕ → List (Text × FunctionMeaning) → Bool → Scope
scope_from r interface standing functions sound = record {
  packages = r;
  place = place_in r interface;
  declarations = declarations_in r interface;
  own_interface = interface;
  instances = if sound then standing else [];
  resources = resources_in r interface;
  functions = functions;
  is_sound = sound;
  others = no_others;
}

-- the surroundings, with these contents
abbrev pub scope_with : Resolve → Option InterfaceId → Around → Contents → Scope
scope_with r interface around contents = scope_from r interface (standing_instances r around) contents.shown.functions (is_sound_in r interface contents)

abbrev pub encoder_scope : Resolve → Declarations → Option OpenInterface → Scope
encoder_scope r outer inner = scope_with r (own_of inner) (around_of outer inner) (contents_of r outer inner)

abbrev pub definitions_with : Contents → Definitions
definitions_with contents = record {
  types = contents.types;
  exported = contents.exported;
  functions = contents.functions;
  exports =
      map (λ t. (t.name, t.meaning)) contents.shown.types;
}

-- ---- what an encoder holds: what its slots stand for, how many there are, what has been defined, and what is shown

abbrev pub stands_in : Resolve → Declarations → Option OpenInterface → Pairs
stands_in r outer inner = SlotsStand (contents_of r outer inner).slots

abbrev pub slots_in : Resolve → Declarations → Option OpenInterface → ℕ
slots_in r outer inner = length (contents_of r outer inner).slots

abbrev pub defined_in : Resolve → Declarations → Option OpenInterface → Definitions
defined_in r outer inner = definitions_with (contents_of r outer inner)

-- how many declarations there are in the instance type, or in the component type where none is open
abbrev pub held_in : Declarations → Option OpenInterface → ℕ
held_in outer None = declaration_count outer
held_in outer (Some current) = length current.declared

-- how many bytes declarations take
unfoldable pub declared_extent : Declarations → ℕ
declared_extent ds = length (declarations_bytes ds)

-- those of the component type, with those of the instance type, if one is open
abbrev pub extent_in : Declarations → Option OpenInterface → ℕ
extent_in outer None = declared_extent outer
extent_in outer (Some current) = declared_extent outer + declared_extent (from_list current.declared)

-- an import has no room where the component type has none for one more alias
abbrev pub LacksAlias : Declarations → Refusals
LacksAlias outer (value_type t) = ⊥
LacksAlias outer (function_type s) = ⊥
LacksAlias outer (export_name name) = ⊥
LacksAlias outer (import_of n) = fits_added outer 1 ≡ false

-- what has no room: behind what is held, or, of imports, in the component type around
abbrev pub lacks_room_in : Resolve → Declarations → Option OpenInterface → Refusals
lacks_room_in r outer inner request = LacksRoomBehind r (held_in outer inner) request ⊎ LacksAlias outer request

-- the types that have been exported, in order
abbrev pub exports_in : Resolve → Declarations → Option OpenInterface → List (Text × TypeMeaning)
exports_in r outer inner = (defined_in r outer inner).exports

-- what is held after a function has been exported: the slots are the same
pub record ShowsFunction (c c' : Contents) (f : Text × FunctionMeaning) : Type 0 where
  pub slots : c'.slots ≡ c.slots
  pub functions_shown : c'.shown.functions ≡ c.shown.functions ++ f ∷ []
  pub types_shown : c'.shown.types ≡ c.shown.types
  pub followed : c'.is_followed ≡ c.is_followed
  pub types : c'.types ≡ c.types
  pub exported : c'.exported ≡ c.exported
  pub functions : c'.functions ≡ c.functions

-- the surroundings after functions have been exported
abbrev pub with_functions : Scope → List (Text × FunctionMeaning) → Scope
with_functions scope functions = record scope { functions = functions }

-- What a call leaves, also where it is refused: the surroundings but for the functions that have been exported, and maps that agree.
-- Around, nothing has been declared but aliases of types that had none.
pub record Continues (r r' : Resolve) (outer outer' : Declarations) (inner inner' : Option OpenInterface) (m m' : TypeEncodingMaps) : Type 0 where
  pub scope_stays : encoder_scope r' outer' inner' ≡ with_functions (encoder_scope r outer inner) (contents_of r' outer' inner').shown.functions
  pub agree : MapsAgree r m' (SlotsStand (contents_of r' outer' inner').slots)
  pub around_ : GrowsAround r (around_of outer inner) (around_of outer' inner')

-- Functions of an interface can be encoded: their types can, and they take and give no resource by themselves.
pub record CanEncodeFunction (r : Resolve) (scope : Scope) (f : Function) : Type 0 where
  pub types : CanEncode r scope (function_types f)
  pub formed : IsFormedSignature scope (signature_of r f)

-- ---- functions by their names

abbrev pub keyed : String Global × Function → Text × Function
keyed e = (text_of e.0, e.1)

-- with a place in an order
abbrev pub placed_function : ℕ × Bor (String Global) × Bor Function → Text × Function
placed_function f = (text_of f.1.now, f.2.now)

-- a function under its name, as what it means
abbrev pub meaning_of : Resolve → Text × Function → Text × FunctionMeaning
meaning_of r f = (f.0, function_meaning r f.1)

-- an interface of which nothing has been declared yet, where this of others stands around
abbrev pub opened : InterfaceId → Foreign → Option OpenInterface
opened i foreign = Some (record { interface = i; declared = []; foreign = foreign })

-- Declarations of an instance type that can be followed, and that show exactly the types of the interface, in order, each in the slot of its
-- name, and these functions.
pub record IsInstance (r : Resolve) (outer : Declarations) (i : InterfaceId) (ds : List Declaration) (functions : List (Text × FunctionMeaning)) : Type 0 where
  pub view : View
  pub followed : instance_view (place_of r (owner.Interface i)) (outer_slots outer) ds ≡ Some view
  pub shows : view.functions ≡ functions
  pub types : view.types ≡ option_map_or (types_of r i.0) (interface_at r i.0) []

-- what the types and the functions of an interface refer to
abbrev pub whole_interface : Interface → List ValueType
whole_interface def = referred (values def.types) (values def.functions)

-- what the types of an interface refer to, without its functions
abbrev pub types_alone_of : Interface → List ValueType
types_alone_of def = referred (values def.types) []

-- In the component type nothing has been declared but aliases of types of other interfaces that are met from an interface, each of one that had
-- none.
pub record AliasesFor (r : Resolve) (i : InterfaceId) (around around' : Around) : Type 0 where
  pub def : Interface
  pub there : interface_at r i.0 ≡ Some def
  pub made : AliasesMet r (Some i) (whole_interface def) around around'

-- In the component type nothing has been declared but aliases of types that are met from the interface's types alone.
pub record AliasesForTypes (r : Resolve) (i : InterfaceId) (around around' : Around) : Type 0 where
  pub def : Interface
  pub there : interface_at r i.0 ≡ Some def
  pub made : AliasesMet r (Some i) (types_alone_of def) around around'

-- After aliases have been made that an interface asks for, which refers to these types, the component type has no room for one more alias or
-- instance type.
pub record LacksInstanceRoom (r : Resolve) (i : InterfaceId) (ts : List ValueType) (around : Around) : Type 0 where
  pub after : Around
  pub grown : AliasesMet r (Some i) ts around after
  pub full : fits_added after.declared 1 ≡ false

-- what an interface asks for, when it is encoded in this component type
pub record CanEncodeInterface (r : Resolve) (outer : Declarations) (i : InterfaceId) (foreign : Foreign) (def : Interface) : Type 0 where
  pub types : (t : TypeId) → Contains (values def.types) t → CanEncode r (encoder_scope r outer (opened i foreign)) (ty.Id t ∷ [])
  pub functions : (f : Text × Function) → Contains (map keyed def.functions.entries) f → CanEncodeFunction r (encoder_scope r outer (opened i foreign)) f.1

-- what the slots of an instance type of an interface stand for, where this has been declared around it
abbrev pub stands_inside : Resolve → InterfaceId → Declarations → List Declaration → Pairs
stands_inside r i outer ds = SlotsStand (inner_contents (place_of r (owner.Interface i)) outer ds).slots

-- There are no more declarations than these types and functions take. That is two for each named type that is met and has a definition of its own:
-- the definition and its export. It is one for each kind of unnamed types that are met, and one for each other type: an alias of a type of
-- another interface, or an export. For the functions it is an export each, and the types of functions that are defined.
pub record DeclaresFew (r : Resolve) (own : Option InterfaceId) (types : List TypeId) (functions : List Function) (declared : List Declaration) : Type 0 where
  pub numbers : List ℕ
  pub apart : AreApart r own numbers
  pub met : (n : ℕ) → Contains numbers n → ReachedFrom r own (referred types functions) n
  pub few : length declared ≤ numbers_count r own numbers + (count_by is_function_type declared + length functions)

-- Slot k of the component type is new: an instance type that can be followed, and that shows the types of the interface, in order, and these
-- functions, in order, with what they mean. Before it, nothing has been declared but aliases of types that had none and that the interface's
-- types and these functions meet. Types of functions and value types are defined as the interface's types and these functions, in any order, ask for, each
-- once, and no others. There are no more declarations than these take. They stand in order: types before functions, and the type of a function just
-- before the function.
pub record EncodesPart (r : Resolve) (around around' : Around) (i : InterfaceId) (def : Interface) (written : List (Text × Function))
    (functions : List Function) (k : ℕ) : Type 0 where
  pub before : Around
  pub aliases : AliasesMet r (Some i) (referred (values def.types) functions) around before
  pub declared : List Declaration
  pub index : k ≡ type_slots_of before.declared
  pub one_more : around' ≡ record before { declared = append before.declared (Declarations.instance (from_list declared) Declarations.no_more) }
  pub is_instance : IsInstance r before.declared i declared (map (meaning_of r) written)
  pub function_types : DefinesKeys r (stands_inside r i before.declared declared) functions declared
  pub value_types : DefinesTypes r (Some i) (stands_inside r i before.declared declared) (values def.types) functions (from_list declared)
  pub few : DeclaresFew r (Some i) (values def.types) functions declared
  pub places : StandInOrder declared

-- What `EncodesPart` says, of the types of the interface and all its functions: what is shown is the interface.
pub record EncodesInterface (r : Resolve) (around around' : Around) (i : InterfaceId) (def : Interface) (k : ℕ) : Type 0 where
  pub part : EncodesPart r around around' i def (functions_in_order def) (values def.functions) k
  pub shows : ShowsInterface r i.0 part.is_instance.view
  pub means : meaning_of_view part.is_instance.view part.is_instance.view.functions ≡ interface_meaning_at r i.0
  -- how many types of functions are defined
  pub function_types : count_by is_function_type part.declared ≡ distinct_count are_same (map key_of (values def.functions))

-- What `EncodesPart` says, of the types of the interface alone.
pub record EncodesDependency (r : Resolve) (around around' : Around) (i : InterfaceId) (def : Interface) (k : ℕ) : Type 0 where
  pub part : EncodesPart r around around' i def [] [] k
  pub shows : ShowsTypes r i.0 part.is_instance.view
  pub means : meaning_of_view part.is_instance.view part.is_instance.view.functions ≡ types_alone (interface_meaning_at r i.0)
  pub function_types : count_by is_function_type part.declared ≡ 0
