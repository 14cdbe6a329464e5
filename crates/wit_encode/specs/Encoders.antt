-- An encoder of interfaces as one value, and what its calls ask and leave.
use Rattle.std.specs.Prelude.{ℕ, ◌≡◌, ◌⊎◌, ◌++◌, false, ◌∷◌, [], List, String, map, nat_eq, IsSome, Option, Some, None}
use Rattle.std.specs.{List.Contains, Set.distinct_count, Borrow.Bor}
use Rattle.std.specs.declared.alloc.Global.{Global}
use Rattle.wit_model.specs.{Text.Text, Meaning.Signature, Meaning.FunctionMeaning, Lookup.interface_at, Valid.IsValid}
use Rattle.wit_model.specs.declared.model.{Resolve.Resolve, Interface.Interface, InterfaceId.InterfaceId, Function.Function, «Type».«Type» as ValueType}
use Rattle.wit_model.specs.declared.model.TypeId.{TypeId}
use Rattle.comp_bytes.specs.{Raw.ExternName, Raw.Declaration, Raw.Declarations, Raw.append, Raw.from_list, Held.type_slots, Held.type_slots_of}
use Rattle.encode_types.specs.{Counts.names_defined, Distinct.defined_under_names, Aliases.AliasesMet, Known.Around, Known.UsedStand, Scope.Scope}
use Rattle.encode_types.specs.{MetKinds.LearnsFrom, MetKinds.referred, Room.HasNoRoom, View.Told, View.View, View.Agrees, View.HoldsLearnt, View.WritesLearnt}
use Rattle.wit_encode.specs.{Exports.AreTypesOf, FunctionRoom.LacksFunctions, Order.functions_in_order, Places.GrowsBy, Places.StandInOrder}
use Rattle.wit_encode.specs.Instance.{own_of, ShowsFunction, placed_function, meaning_of, Contents, contents_of, encoder_scope, around_of, around_at, slots_in, stands_in, defined_in, opened, standing_instances, Continues, EncodesInterface, EncodesDependency, EncodesPart, AliasesFor, AliasesForTypes, whole_interface, types_alone_of, held_in, extent_in, lacks_room_in, LacksInstanceRoom}
use Rattle.encode_types.specs.declared.maps.TypeEncodingMaps.{TypeEncodingMaps}
use Rattle.wit_encode.specs.declared.interface.{InstanceEncoderOf.InstanceEncoderOf, OpenInterface.OpenInterface}
use Rattle.indexmap.specs.IndexMap.{values}
use Rattle.comp_bytes.specs.declared.forms.ComponentTypeRef.TheVariants as refs

abbrev pub InstanceEncoder : Type 0
InstanceEncoder = InstanceEncoderOf TypeEncodingMaps

-- the declarations of the instance type, if one is open
abbrev pub declared_inside : Option OpenInterface → List Declaration
declared_inside None = []
declared_inside (Some current) = current.declared

-- what is kept in mind of it: behind what had been declared there stands only what takes a type index
abbrev pub KeepsInside : Option OpenInterface → Told → Type 0
KeepsInside inner (Told.numbers ns) = Unit {0}
KeepsInside inner (Told.declared ds) = GrowsBy ds (from_list (declared_inside inner))

-- what it holds, read in these packages
abbrev pub view_of : Resolve → InstanceEncoder → View
view_of r e = record {
  scope = encoder_scope r e.outer e.inner;
  around = around_of e.outer e.inner;
  imports = λ n. false;
  slot_count = slots_in r e.outer e.inner;
  stands = stands_in r e.outer e.inner;
  definitions = defined_in r e.outer e.inner;
  maps = e.maps;
  held = held_in e.outer e.inner;
  extent = extent_in e.outer e.inner;
  lacks_room = lacks_room_in r e.outer e.inner;
  own = λ told. KeepsInside e.inner told;
}

-- in its own
abbrev pub encoder_view : InstanceEncoder → View
encoder_view e = view_of e.resolve.now e

abbrev pub contents_in : InstanceEncoder → Contents
contents_in e = contents_of e.resolve.now e.outer e.inner

-- a function that is shown under a name
abbrev pub shown_as : ExternName → Signature → Text × FunctionMeaning
shown_as name s = (name.text, record { signature = s; external_id = name.external_id })

-- What a call leaves, also where it is refused: the packages, the interface that is being encoded, the surroundings but for the functions that
-- have been exported, and maps that agree.
pub record GoesOn (r : Resolve) (e e' : InstanceEncoder) : Type 0 where
  pub packages_ : e'.resolve.now ≡ r
  pub inside : own_of e'.inner ≡ own_of e.inner
  pub continues : Continues r r e.outer e'.outer e.inner e'.inner e.maps e'.maps

-- what is asked of an encoder that is encoding an interface of these packages
pub record IsEncoding (r : Resolve) (e : InstanceEncoder) : Type 0 where
  pub inside : IsSome e.inner
  pub packages_ : e.resolve.now ≡ r
  pub agree : Agrees r (view_of r e)
  pub valid : IsValid r

-- these are the types of the interface that is being encoded, of which nothing is known yet and nothing has been exported
pub record Begins (r : Resolve) (e : InstanceEncoder) (types : List TypeId) : Type 0 where
  pub packages_ : e.resolve.now ≡ r
  pub agree : Agrees r (encoder_view e)
  pub valid : IsValid r
  pub listed : AreTypesOf r (own_of e.inner) types
  pub fresh : e.maps.id_to_index.entries ≡ []
  pub unshown : (encoder_view e).definitions.exports ≡ []

-- ---- what a call has added

-- one declaration more, which takes slot i
abbrev pub DeclaresInside : List Declaration → List Declaration → Declaration → ℕ → Type 0
DeclaresInside ds ds' d i = (i ≡ type_slots ds) × (ds' ≡ ds ++ d ∷ [])

abbrev pub declared_after : Declarations → Declaration → Declarations
declared_after outer d = append outer (Declarations.declares d Declarations.no_more)

abbrev pub DeclaresOutside : Declarations → Declarations → Declaration → ℕ → Type 0
DeclaresOutside outer outer' d i = (i ≡ type_slots_of outer) × (outer' ≡ declared_after outer d)

-- one instance type more, which takes slot k
abbrev pub AddsInstance : Declarations → Declarations → List Declaration → ℕ → Type 0
AddsInstance outer outer' ds k = (k ≡ type_slots_of outer) × (outer' ≡ append outer (Declarations.instance (from_list ds) Declarations.no_more))

-- functions that have a place in an order, without it, and what they mean
abbrev pub Placed : Type 0
Placed = ℕ × Bor (String Global) × Bor Function

abbrev pub plain : List Placed → List Function
plain fs = map (λ f. f.2.now) fs

abbrev pub meanings_of : Resolve → List Placed → List (Text × FunctionMeaning)
meanings_of r fs = map (λ f. meaning_of r (placed_function f)) fs

-- a function of this signature is shown under a name, or these functions are
abbrev pub ShowsAs : InstanceEncoder → InstanceEncoder → ExternName → Signature → Type 0
ShowsAs e e' name s = ShowsFunction (contents_in e) (contents_in e') (shown_as name s)

-- a function of the type in this slot has been exported under a name, and nothing else declared
abbrev pub ExportsFunction : InstanceEncoder → InstanceEncoder → ExternName → ℕ → Type 0
ExportsFunction e e' name i = declared_inside e'.inner ≡ declared_inside e.inner ++ Declaration.exported name (refs.Func i) ∷ []

-- where the declarations of the instance type stand in order, so they do after this
abbrev pub StaysInOrder : InstanceEncoder → InstanceEncoder → Type 0
StaysInOrder e e' = StandInOrder (declared_inside e.inner) → StandInOrder (declared_inside e'.inner)

-- where none had been declared, they stand in order
abbrev pub BeginsInOrder : InstanceEncoder → InstanceEncoder → Type 0
BeginsInOrder e e' = declared_inside e.inner ≡ [] → StandInOrder (declared_inside e'.inner)

abbrev pub ShowsMore : Resolve → InstanceEncoder → InstanceEncoder → List (Text × FunctionMeaning) → Type 0
ShowsMore r e e' fs = (view_of r e').scope.functions ≡ (view_of r e).scope.functions ++ fs

-- at most so much more is held, and what has been learnt
abbrev pub HoldsInside : Resolve → ℕ → InstanceEncoder → InstanceEncoder → Type 0
HoldsInside r n e e' = HoldsLearnt r n (encoder_view e) (encoder_view e')

-- at most so much more has been written, and each type number that has been learnt
abbrev pub WritesInside : Resolve → ℕ → InstanceEncoder → InstanceEncoder → Type 0
WritesInside r n e e' = WritesLearnt r n (encoder_view e) (encoder_view e')

-- a part of a type that is met from these, or one of these functions, has no room, and no more is held than was and what they take
abbrev pub LacksInside : Resolve → InstanceEncoder → InstanceEncoder → List ValueType → List (Text × Function) → Type 0
LacksInside r e e' ts fs = LacksFunctions r (own_of e.inner) ts fs e.maps (encoder_view e).held (encoder_view e').held (encoder_view e').lacks_room

-- no type has been exported
abbrev pub TypesStay : Resolve → InstanceEncoder → InstanceEncoder → Type 0
TypesStay r e e' = (view_of r e').definitions.exports ≡ (view_of r e).definitions.exports

-- no named type of the place has become known
abbrev pub NamesStay : Resolve → InstanceEncoder → InstanceEncoder → Type 0
NamesStay r e e' = names_defined r (view_of r e).scope e'.maps ≡ names_defined r (view_of r e).scope e.maps

-- what is met from these types has been learnt, and nothing else
abbrev pub LearnsInside : Resolve → InstanceEncoder → InstanceEncoder → List ValueType → Type 0
LearnsInside r e e' ts = LearnsFrom r (own_of e.inner) ts e.maps e'.maps

-- of the named types of the place that have a definition of their own, these are known, each once
abbrev pub DefinesNames : Resolve → View → InstanceEncoder → InstanceEncoder → List TypeId → Type 0
DefinesNames r v e e' types = names_defined r v.scope e'.maps ≡ distinct_count nat_eq (defined_under_names r (own_of e.inner) types)

-- the surroundings inside an interface, of which nothing has been declared yet
abbrev pub scope_within : InstanceEncoder → InterfaceId → Scope
scope_within e i = encoder_scope e.resolve.now e.outer (opened i e.foreign)

-- the component type, in which instances and aliases stand
abbrev pub outside : InstanceEncoder → Around
outside e = around_at e.outer e.foreign

-- each interface that an interface uses has an instance in the component type
abbrev pub UsedAround : InstanceEncoder → InterfaceId → Type 0
UsedAround e i = UsedStand e.resolve.now (standing_instances e.resolve.now (outside e)) i.0

-- the same instances stand there
abbrev pub InstancesStay : InstanceEncoder → InstanceEncoder → Type 0
InstancesStay e e' = (j : ℕ) → Contains (standing_instances e.resolve.now (outside e)) j → Contains (standing_instances e.resolve.now (outside e')) j

-- in the component type nothing has been declared but aliases of types that had none and that an interface meets from these
abbrev pub ReachesMet : InstanceEncoder → InstanceEncoder → InterfaceId → List ValueType → Type 0
ReachesMet e e' i ts = AliasesMet e.resolve.now (Some i) ts (outside e) (outside e')

-- that it meets, or that its types alone meet
abbrev pub ReachesWhole : InstanceEncoder → InstanceEncoder → InterfaceId → Type 0
ReachesWhole e e' i = AliasesFor e.resolve.now i (outside e) (outside e')

abbrev pub ReachesTypes : InstanceEncoder → InstanceEncoder → InterfaceId → Type 0
ReachesTypes e e' i = AliasesForTypes e.resolve.now i (outside e) (outside e')

-- slot k of the component type is new, and stands for the interface
abbrev pub EncodesAs : InstanceEncoder → InstanceEncoder → InterfaceId → ℕ → Type 0
EncodesAs e e' i k = (def : Interface) → interface_at e.resolve.now i.0 ≡ Some def → EncodesInterface e.resolve.now (outside e) (outside e') i def k

-- it stands for the interface's types alone
abbrev pub EncodesTypesAs : InstanceEncoder → InstanceEncoder → InterfaceId → ℕ → Type 0
EncodesTypesAs e e' i k = (def : Interface) → interface_at e.resolve.now i.0 ≡ Some def → EncodesDependency e.resolve.now (outside e) (outside e') i def k

-- it stands for the interface's types and these functions
abbrev pub EncodesPlaced : InstanceEncoder → InstanceEncoder → InterfaceId → List Placed → ℕ → Type 0
EncodesPlaced e e' i fs k = (def : Interface) → interface_at e.resolve.now i.0 ≡ Some def
    → EncodesPart e.resolve.now (outside e) (outside e') i def (map placed_function fs) (plain fs) k

-- an instance type has no room for the types and functions of an interface
abbrev pub InterfaceLacksRoom : Resolve → InterfaceId → Interface → Type 0
InterfaceLacksRoom r i def = HasNoRoom r (Some i) (referred (values def.types) (map (λ f. f.1) (functions_in_order def))) (functions_in_order def)

-- An instance type has no room for the types and functions of the interface. Or the component type, after aliases have been made, has none
-- for one more alias or instance type.
abbrev pub LacksInstance : InstanceEncoder → InterfaceId → Type 0
LacksInstance e i = (def : Interface) → interface_at e.resolve.now i.0 ≡ Some def → InterfaceLacksRoom e.resolve.now i def
    ⊎ LacksInstanceRoom e.resolve.now i (whole_interface def) (outside e)

-- the same of the interface's types alone
abbrev pub LacksDependency : InstanceEncoder → InterfaceId → Type 0
LacksDependency e i = (def : Interface) → interface_at e.resolve.now i.0 ≡ Some def → HasNoRoom e.resolve.now (Some i) (types_alone_of def) []
    ⊎ LacksInstanceRoom e.resolve.now i (types_alone_of def) (outside e)

-- the same of these types and functions of the interface
abbrev pub LacksWithin : InstanceEncoder → InterfaceId → List TypeId → List Placed → Type 0
LacksWithin e i types fs = HasNoRoom e.resolve.now (Some i) (referred types (plain fs)) (map placed_function fs)
    ⊎ LacksInstanceRoom e.resolve.now i (referred types (plain fs)) (outside e)
