-- What a call leaves, also where it is refused, and what it has learnt and defined.
use Rattle.std.specs.Prelude.{ℕ, ◌≡◌, ◌+◌, ◌++◌, ◌⊎◌, Bool, List, [], ◌∷◌, length, Result, Err, IfOk, OnOk, OnErr, IfErr}
use Rattle.comp_bytes.specs.Refusal.{IsMemoryOrSize}
use Rattle.comp_bytes.specs.declared.forms.ComponentValType.{ComponentValType}
use Rattle.wit_model.specs.declared.{error.Error.Error, model.Resolve.Resolve, error.Error.TheVariants.Size, model.TypeDefKind.TypeDefKind, model.«Type».«Type» as ValueType, model.Function.Function}
use Rattle.wit_model.specs.{Meant.signature_of, Parts.function_types}
use Rattle.encode_types.specs.declared.key.FunctionKey.{FunctionKey}
use Rattle.encode_types.specs.{MetKinds.Learns, MetKinds.LearnsMet, View.View, View.Agrees, View.Grows, View.HoldsLearnt, Aliases.ImportsMet, Aliases.MakesMet, Maps.MapsGrow, Fits.CanEncode, Formed.IsFormed, Slots.StandsFor, Kinds.parts_of, Kinds.kind_tree, Distinct.KnowsKey, Distinct.key_of, Distinct.AddsFunctions, Room.Request, Room.value_type, Room.function_type, Room.FindsNoRoom}
use Rattle.encode_types.specs.Counts.{Definitions, SameUnits, one_type_more, type_more_if, AddsTypes, AddsInPart, AddsFunction}
use Rattle.comp_bytes.specs.declared.forms.ComponentValType.TheVariants as value

-- The maps agree with the slots and have lost no entry, old slots stand for what they did, and the surroundings are the same.
pub record LeavesSlots (r : Resolve) (v v' : View) : Type 0 where
  pub agree : Agrees r v'
  pub maps_grow : MapsGrow v.maps v'.maps
  pub grows : Grows v v'
  pub scope_stays : v'.scope ≡ v.scope

-- The same, and the caches of a future and a stream without an element are as they were.
pub record Leaves (r : Resolve) (v v' : View) : Type 0 where
  pub agree : Agrees r v'
  pub maps_grow : MapsGrow v.maps v'.maps
  pub units : SameUnits v.maps v'.maps
  pub grows : Grows v v'
  pub scope_stays : v'.scope ≡ v.scope

-- what is met on the way down from these types has been learnt, and nothing else
abbrev pub LearnsFrom : Resolve → List ValueType → View → View → Type 0
LearnsFrom r ts v v' = LearnsMet r v.scope.own_interface ts v.maps v'.maps

-- of what has been learnt, the parts are known, and the kind where it has no name
abbrev pub LearnsParts : Resolve → View → View → Type 0
LearnsParts r v v' = Learns r v.scope.own_interface v.maps v'.maps

-- a part of a type that is met from these, or one of these requests, has no room, and no more is held than was and what they take
abbrev pub LacksRoom : Resolve → List ValueType → List Request → View → View → Type 0
LacksRoom r ts requests v v' = FindsNoRoom r v.scope.own_interface ts requests (length requests) v.maps v.held v'.held v'.lacks_room

-- a part of a kind, or its definition, has no room, and no more is held than was and what they take
abbrev pub KindLacksRoom : Resolve → TypeDefKind → View → View → Type 0
KindLacksRoom r kind v v' = LacksRoom r (parts_of kind) (value_type (kind_tree r kind) ∷ []) v v'

-- the types of a function, or its own type, have no room, where the maps lacked its key
pub record FunctionLacksRoom (r : Resolve) (f : Function) (v v' : View) : Type 0 where
  pub new_key : KnowsKey v.maps (key_of f) → ⊥
  pub room : LacksRoom r (function_types f) (function_type (signature_of r f) ∷ []) v v'

-- what has been defined is what the maps have learnt, and no type of a function is among it
abbrev pub CountsTypes : Resolve → View → View → Type 0
CountsTypes r v v' = AddsTypes r v.scope v.maps v'.maps v.definitions v'.definitions

-- Where a call is refused, what has been exported is what the maps have learnt, and what has been defined is that and one definition more at most.
abbrev pub CountsInPart : Resolve → View → View → Type 0
CountsInPart r v v' = AddsInPart r v.scope v.maps v'.maps v.definitions v'.definitions

-- what has been defined is what the maps have learnt, and behind it one value type, which this is
pub record CountsOneMore (r : Resolve) (v v' : View) (x : ComponentValType) : Type 0 where
  pub slot : ℕ
  pub is : x ≡ value.Type_ slot
  pub parts : Definitions
  pub adds : AddsTypes r v.scope v.maps v'.maps v.definitions parts
  pub one_more : v'.definitions ≡ one_type_more slot parts

-- what has been defined is what the maps have learnt, with the type of a function, which has this key and stands at this index
abbrev pub CountsFunction : Resolve → View → View → FunctionKey → ℕ → Type 0
CountsFunction r v v' key i = AddsFunction r v.scope v.maps v'.maps v.definitions v'.definitions key i

-- the same with the types of these functions
abbrev pub CountsFunctions : Resolve → View → View → List Function → Type 0
CountsFunctions r v v' functions = AddsFunctions r v.scope v.maps v'.maps v.definitions v'.definitions functions

-- a value type has been defined in slot i where this holds, and nothing else
abbrev pub DefinesIf : Bool → View → View → ℕ → Type 0
DefinesIf b v v' i = v'.definitions ≡ type_more_if b i v.definitions

-- a value type has been defined, which this is, and nothing else
pub record DefinesValue (v v' : View) (x : ComponentValType) : Type 0 where
  pub slot : ℕ
  pub is : x ≡ value.Type_ slot
  pub one_more : v'.definitions ≡ one_type_more slot v.definitions

-- the type of a function has been defined, in the last slot
pub record DefinesFunctionLast (v v' : View) (i : ℕ) : Type 0 where
  pub one_more : v'.definitions.functions ≡ v.definitions.functions ++ i ∷ []
  pub last : v'.slot_count ≡ i + 1

-- no type of a function has been defined, or one, in the last slot
abbrev pub DefinesLast : View → View → ℕ → Type 0
DefinesLast v v' i = (v'.definitions.functions ≡ v.definitions.functions) ⊎ DefinesFunctionLast v v' i

-- ---- a kind

-- what is asked before a kind is defined
pub record CanDefine (r : Resolve) (kind : TypeDefKind) (v : View) : Type 0 where
  pub encodable : CanEncode r v.scope (parts_of kind)
  pub formed : IsFormed v.scope (kind_tree r kind)
  pub agree : Agrees r v

-- The parts of a kind have been learnt, and it has been defined, once: the answer stands for it. Old slots stand for what they did, and the maps
-- agree with the slots, and aliases and imports are made of types that its parts meet, also where it is refused.
pub record DefinesKind (r : Resolve) (kind : TypeDefKind) (v v' : View) (result : Result ComponentValType Error) : Type 0 where
  pub ok : IfOk result (λ x. StandsFor v'.stands x (kind_tree r kind))
  pub learns : OnOk result (LearnsFrom r (parts_of kind) v v')
  pub leaves : Leaves r v v'
  pub aliases : MakesMet r (parts_of kind) v v'
  pub imports : ImportsMet r (parts_of kind) v v'
  pub counts : IfOk result (CountsOneMore r v v')
  pub stopped : OnErr result (CountsInPart r v v')
  pub held : OnOk result (HoldsLearnt r 1 v v')
  pub size : result ≡ Err Size → KindLacksRoom r kind v v'
  pub refuses : IfErr result IsMemoryOrSize
