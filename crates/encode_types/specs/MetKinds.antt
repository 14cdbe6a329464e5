-- The kinds of unnamed types that the types and functions of an interface meet, and what maps have learnt on the way.
use Rattle.std.specs.Prelude.{ℕ, ◌≡◌, ◌⊎◌, true, false, Some, List, [], ◌++◌, map, flat_map, option_to_list, Option, None}
use Rattle.std.specs.List.{Contains, AllPairs}
use Rattle.wit_model.specs.{Lookup.type_at, Parts.function_types, Valid.IsValid}
use Rattle.wit_model.specs.declared.model.{Resolve.Resolve, Function.Function, TypeDefKind.TypeDefKind, InterfaceId.InterfaceId, «Type».«Type» as ValueType, TypeDef.TypeDef, TypeId.TypeId}
use Rattle.encode_types.specs.declared.{key.FunctionKey.FunctionKey, maps.TypeEncodingMaps.TypeEncodingMaps}
use Rattle.encode_types.specs.{Codes.kind_code, Codes.IsKeyList, Codes.names_of, Codes.lists_of, Kinds.parts_of, Plan.foreign_owner, Plan.Reaches, Plan.MetFrom}
use Rattle.encode_types.specs.Maps.{same_kind, IsKnown, AllReady, HasKind, IsOnce, MapsGrow, LearnsOnly}
use Rattle.wit_model.specs.declared.model.«Type».TheVariants as ty

-- ---- what an interface meets

-- the types that an interface refers to: its own, and those of the parameters and results of its functions
abbrev pub referred : List TypeId → List Function → List ValueType
referred types functions = map (λ t. ty.Id t) types ++ flat_map function_types functions

-- n is met on the way down from one of these: named types of the interface are opened, those of others aren't
abbrev pub ReachedFrom : Resolve → Option InterfaceId → List ValueType → ℕ → Type 0
ReachedFrom r own ts n = (t : ValueType) × Contains ts t × Reaches r own t n

-- an unnamed type of this kind is met
pub record IsMetKind (r : Resolve) (own : Option InterfaceId) (ts : List ValueType) (kind : TypeDefKind) : Type 0 where
  pub number : ℕ
  pub met : ReachedFrom r own ts number
  pub def : TypeDef
  pub there : type_at r number ≡ Some def
  pub unnamed : def.name ≡ None
  pub same : def.kind ≡ kind

-- a kind that is the same stands in the list
abbrev pub HasSame : List TypeDefKind → TypeDefKind → Type 0
HasSame kinds kind = (k : TypeDefKind) × Contains kinds k × (same_kind k kind ≡ true)

-- These are the kinds of the unnamed types that are met, each once.
pub record AreMetKinds (r : Resolve) (own : Option InterfaceId) (ts : List ValueType) (kinds : List TypeDefKind) : Type 0 where
  pub different : AllPairs (λ x y. same_kind x y ≡ false) kinds
  pub met : (kind : TypeDefKind) → Contains kinds kind → IsMetKind r own ts kind
  pub all : (kind : TypeDefKind) → IsMetKind r own ts kind → HasSame kinds kind

-- ---- what maps have learnt

-- an unnamed type of this kind is known
pub record IsKnownKind (r : Resolve) (m : TypeEncodingMaps) (kind : TypeDefKind) : Type 0 where
  pub number : ℕ
  pub known : IsKnown m number
  pub def : TypeDef
  pub there : type_at r number ≡ Some def
  pub unnamed : def.name ≡ None
  pub same : def.kind ≡ kind

-- the parts of a type are known, and so is its kind where it has no name
pub record IsHeld (m : TypeEncodingMaps) (def : TypeDef) : Type 0 where
  pub parts : AllReady m (parts_of def.kind)
  pub kind : def.name ≡ None → (i : ℕ) × HasKind m def.kind i

-- the types that a key is made of
abbrev pub key_types : FunctionKey → List ValueType
key_types key = map (λ p. p.ty) key.params.0.now ++ option_to_list key.result.now

-- the list of a kind that is known
pub record IsKnownList (r : Resolve) (m : TypeEncodingMaps) (xs : List ℕ) : Type 0 where
  pub kind : TypeDefKind
  pub is : xs ≡ kind_code kind
  pub known : IsKnownKind r m kind

-- the list of a key whose types are known
pub record IsReadyKey (m : TypeEncodingMaps) (xs : List ℕ) : Type 0 where
  pub key : FunctionKey
  pub is : IsKeyList (names_of m.names) key xs
  pub ready : AllReady m (key_types key)

-- the list of a key by the names of the first maps is its list by those of the second
pub record KeepsNames (m m' : TypeEncodingMaps) : Type 0 where
  pub kept_list : (key : FunctionKey) (xs : List ℕ) → IsKeyList (names_of m.names) key xs → IsKeyList (names_of m'.names) key xs

-- Of each type that has been learnt, other than those of other interfaces, the parts are known, and the kind where it has no name.
-- Each kind that has been learnt is that of an unnamed type that is known, and the types of each key that has been learnt are known.
pub record Learns (r : Resolve) (own : Option InterfaceId) (m m' : TypeEncodingMaps) : Type 0 where
  pub grow : MapsGrow m m'
  pub names_ : KeepsNames m m'
  pub numbers : (n : ℕ) (def : TypeDef) → IsKnown m' n → type_at r n ≡ Some def → foreign_owner own def.owner ≡ None → IsKnown m n ⊎ IsHeld m' def
  pub kinds : (xs : List ℕ) (i : ℕ) → Contains (lists_of m'.def_to_index) (xs, i) → Contains (lists_of m.def_to_index) (xs, i) ⊎ IsKnownList r m' xs
  pub keys : (xs : List ℕ) (i : ℕ) → Contains (lists_of m'.func_type_map) (xs, i) → Contains (lists_of m.func_type_map) (xs, i) ⊎ IsReadyKey m' xs

-- What is met on the way down from these types has been learnt, and nothing else.
pub record LearnsMet (r : Resolve) (own : Option InterfaceId) (ts : List ValueType) (m m' : TypeEncodingMaps) : Type 0 where
  pub only : LearnsOnly (MetFrom r own m ts) m m'
  pub learns : Learns r own m m'

-- The same, by what is met on the way down from them, known or not.
pub record LearnsFrom (r : Resolve) (own : Option InterfaceId) (ts : List ValueType) (m m' : TypeEncodingMaps) : Type 0 where
  pub only : LearnsOnly (ReachedFrom r own ts) m m'
  pub learns : Learns r own m m'

-- The kind is known, and no other has been learnt.
pub record LearnsKindOf (m m' : TypeEncodingMaps) (kind : TypeDefKind) : Type 0 where
  pub known : (i : ℕ) × HasKind m' kind i
  pub only : (xs : List ℕ) (i : ℕ) → Contains (lists_of m'.def_to_index) (xs, i) → Contains (lists_of m.def_to_index) (xs, i) ⊎ (xs ≡ kind_code kind)

-- ---- law

-- Maps that were empty, and have learnt what is met from some types and nothing else, hold the kinds of the unnamed types that are met, each once.
abbrev pub MetKindsAreHeld : Type 0
MetKindsAreHeld = (r : Resolve) (own : Option InterfaceId) (ts : List ValueType) (m m' : TypeEncodingMaps) → IsValid r → m.id_to_index.entries ≡ []
    → m.def_to_index.entries ≡ []
    → Learns r own m m' → LearnsOnly (ReachedFrom r own ts) m m' → AllReady m' ts → IsOnce m'
    → (kinds : List TypeDefKind) × (map (λ e. e.0) (lists_of m'.def_to_index) ≡ map kind_code kinds) × AreMetKinds r own ts kinds
