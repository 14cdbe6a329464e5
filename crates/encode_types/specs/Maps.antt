-- What the maps of an encoder hold, and what they say of its slots.
use Rattle.std.specs.Prelude.{ℕ, ◌≡◌, ◌<◌, ◌++◌, Bool, true, false, List, [], ◌∷◌, length, Some, None, AllPairs, IsPermutation, nat_eq, ◌⊎◌}
use Rattle.std.specs.List.{Contains}
use Rattle.wit_model.specs.{Rules.is_named_kind, Text.Text, Tree.future_tree, Tree.stream_tree, Types.number_tree}
use Rattle.wit_model.specs.declared.model.{Resolve.Resolve, TypeId.TypeId, TypeDefKind.TypeDefKind, «Type».«Type» as ValueType}
use Rattle.comp_bytes.specs.declared.forms.ComponentValType.{ComponentValType}
use Rattle.encode_types.specs.declared.{key.FunctionKey.FunctionKey, maps.TypeEncodingMaps.TypeEncodingMaps}
use Rattle.encode_types.specs.Codes.{Names, IsTable, kind_code, IsKeyList, HaveNumbers, names_of, lists_of}
use Rattle.encode_types.specs.{NumberMaps.has_room, Key.key_signature, Kinds.kind_tree, Slots.Standing, Slots.tree, Slots.function, Slots.Pairs}
use Rattle.wit_model.specs.declared.model.«Type».TheVariants as ty
use Rattle.wit_model.specs.contracts.model.TypeDefKindPartialEq.TheImpl as kind_eq
use Rattle.comp_bytes.specs.declared.forms.ComponentValType.TheVariants as v
use Rattle.comp_bytes.specs.declared.forms.PrimitiveValType.TheVariants as p

-- whether two kinds are the same: references are compared by number
abbrev pub same_kind : TypeDefKind → TypeDefKind → Bool
same_kind = kind_eq.ghosts.eq

-- what the maps know the index of: a type number, an unnamed kind, the key of a function type,
-- the future and the stream without elements that have a cache of their own
pub data Known : Type 0 where
  by_number : ℕ → Known
  by_kind : TypeDefKind → Known
  by_key : FunctionKey → Known
  by_unit_future by_unit_stream : Known

-- The maps have this index for a type number, a kind, a key, or a future or stream without elements. Kinds and keys are found by their lists.
abbrev pub Holds : TypeEncodingMaps → Known → ℕ → Type 0
Holds m (by_number n) i = Contains m.id_to_index.entries (n, i)
Holds m (by_kind kind) i = (is_named_kind kind ≡ false) × Contains (lists_of m.def_to_index) (kind_code kind, i)
Holds m (by_key key) i = (xs : List ℕ) × IsKeyList (names_of m.names) key xs × Contains (lists_of m.func_type_map) (xs, i)
Holds m by_unit_future i = m.unit_future ≡ Some i
Holds m by_unit_stream i = m.unit_stream ≡ Some i

-- what the index stands for that the maps know
abbrev pub standing_of : Resolve → Known → Standing
standing_of r (by_number n) = tree (number_tree r n)
standing_of r (by_kind kind) = tree (kind_tree r kind)
standing_of r (by_key key) = function (key_signature r key)
standing_of r by_unit_future = tree (future_tree None)
standing_of r by_unit_stream = tree (stream_tree None)

-- what the maps say that a slot stands for
abbrev pub Says : Resolve → TypeEncodingMaps → Pairs
Says r m i s = (k : Known) × Holds m k i × (s ≡ standing_of r k)

-- names with numbers of their own, which are below the number of names
pub record AreNumbered (names : Names) : Type 0 where
  pub table : IsTable names
  pub below : (t : Text) (n : ℕ) → Contains names (t, n) → n < length names

-- this is the list of some unnamed kind
pub record IsKindList (xs : List ℕ) : Type 0 where
  pub kind : TypeDefKind
  pub unnamed : is_named_kind kind ≡ false
  pub is : xs ≡ kind_code kind

-- this is the list of some key
pub record IsSomeKeyList (names : Names) (xs : List ℕ) : Type 0 where
  pub key : FunctionKey
  pub is : IsKeyList names key xs

-- each key of a map stands once, and each list is that of a kind or of a key of a function
pub record IsOnce (m : TypeEncodingMaps) : Type 0 where
  pub numbers : AllPairs (λ x y. nat_eq x.0 y.0 ≡ false) m.id_to_index.entries
  pub kinds : AllPairs (λ x y. x.0 ≡ y.0 → ⊥) (lists_of m.def_to_index)
  pub keys : AllPairs (λ x y. x.0 ≡ y.0 → ⊥) (lists_of m.func_type_map)
  pub kind_lists : (xs : List ℕ) (i : ℕ) → Contains (lists_of m.def_to_index) (xs, i) → IsKindList xs
  pub key_lists : (xs : List ℕ) (i : ℕ) → Contains (lists_of m.func_type_map) (xs, i) → IsSomeKeyList (names_of m.names) xs
  pub names_ : AreNumbered (names_of m.names)

-- the maps agree with the slots
pub record MapsAgree (r : Resolve) (m : TypeEncodingMaps) (S : Pairs) : Type 0 where
  pub says : (k : Known) (i : ℕ) → Holds m k i → S i (standing_of r k)
  pub once : IsOnce m

-- the second maps hold what the first do
pub record MapsGrow (m m' : TypeEncodingMaps) : Type 0 where
  pub keeps : (k : Known) (i : ℕ) → Holds m k i → Holds m' k i

-- a type number has an index
abbrev pub IsKnown : TypeEncodingMaps → ℕ → Type 0
IsKnown m n = (i : ℕ) × Contains m.id_to_index.entries (n, i)

-- there is room for this type number, so that it can be remembered without memory
abbrev pub HasRoomFor : TypeEncodingMaps → ℕ → Type 0
HasRoomFor m n = has_room m.id_to_index n ≡ true

-- no such list stands there
abbrev pub LacksList : List (List ℕ × ℕ) → List ℕ → Type 0
LacksList entries xs = (i : ℕ) → Contains entries (xs, i) → ⊥

-- a kind has this index
abbrev pub HasKind : TypeEncodingMaps → TypeDefKind → ℕ → Type 0
HasKind m kind i = Holds m (by_kind kind) i

-- a key has this index
abbrev pub HasKey : TypeEncodingMaps → FunctionKey → ℕ → Type 0
HasKey m key i = Holds m (by_key key) i

-- the maps hold no index of this kind
abbrev pub LacksKind : TypeEncodingMaps → TypeDefKind → Type 0
LacksKind m kind = LacksList (lists_of m.def_to_index) (kind_code kind)

-- the maps hold no index of this key
abbrev pub LacksKey : TypeEncodingMaps → FunctionKey → Type 0
LacksKey m key = (i : ℕ) → HasKey m key i → ⊥

-- a slot stands for the tree of the unnamed kind that has this list
pub record StandsAsKind (r : Resolve) (S : Pairs) (xs : List ℕ) (i : ℕ) : Type 0 where
  pub kind : TypeDefKind
  pub unnamed : is_named_kind kind ≡ false
  pub is : xs ≡ kind_code kind
  pub stands : S i (tree (kind_tree r kind))

-- a slot stands for the type of the functions whose key has this list
pub record StandsAsKey (r : Resolve) (names : Names) (S : Pairs) (xs : List ℕ) (i : ℕ) : Type 0 where
  pub key : FunctionKey
  pub is : IsKeyList names key xs
  pub stands : S i (function (key_signature r key))

-- ---- what is learnt

-- the maps have the same entries, and so have the two caches
pub record SameMaps (m m' : TypeEncodingMaps) : Type 0 where
  pub numbers : m'.id_to_index.entries ≡ m.id_to_index.entries
  pub kinds : m'.def_to_index.entries ≡ m.def_to_index.entries
  pub keys : m'.func_type_map.entries ≡ m.func_type_map.entries
  pub names_ : m'.names.entries ≡ m.names.entries
  pub unit_future_ : m'.unit_future ≡ m.unit_future
  pub unit_stream_ : m'.unit_stream ≡ m.unit_stream

-- names that had a number keep it, and the others have numbers of their own
pub record NamesGrow (names names' : Names) : Type 0 where
  pub kept : (t : Text) (n : ℕ) → Contains names (t, n) → Contains names' (t, n)
  pub numbered : AreNumbered names → AreNumbered names'

-- names may have been added, and the rest is as it was
pub record AddsNames (m m' : TypeEncodingMaps) : Type 0 where
  pub rest : SameMaps m (record m' { names = m.names })
  pub grow : NamesGrow (names_of m.names) (names_of m'.names)

-- no name is added for a key where all of its names have numbers
abbrev pub KeepsKnownNames : FunctionKey → TypeEncodingMaps → TypeEncodingMaps → Type 0
KeepsKnownNames key m m' = HaveNumbers (names_of m.names) key.params.0.now → m'.names.entries ≡ m.names.entries

-- one type number more, and the rest as it was
pub record LearnsNumber (m m' : TypeEncodingMaps) (id : TypeId) (i : ℕ) : Type 0 where
  pub rest : SameMaps m (record m' { id_to_index = m.id_to_index })
  pub more : IsPermutation (m.id_to_index.entries ++ (id.0, i) ∷ []) m'.id_to_index.entries

-- one kind more by its list, and the rest as it was
pub record LearnsList (m m' : TypeEncodingMaps) (xs : List ℕ) (i : ℕ) : Type 0 where
  pub rest : SameMaps m (record m' { def_to_index = m.def_to_index })
  pub more : IsPermutation (lists_of m.def_to_index ++ (xs, i) ∷ []) (lists_of m'.def_to_index)

-- one key more by its list, and the rest as it was
pub record LearnsKeyList (m m' : TypeEncodingMaps) (xs : List ℕ) (i : ℕ) : Type 0 where
  pub rest : SameMaps m (record m' { func_type_map = m.func_type_map })
  pub more : IsPermutation (lists_of m.func_type_map ++ (xs, i) ∷ []) (lists_of m'.func_type_map)

-- each type number that has been learnt is one of these
pub record LearnsOnly (P : ℕ → Type 0) (m m' : TypeEncodingMaps) : Type 0 where
  pub each : (n : ℕ) (i : ℕ) → Contains m'.id_to_index.entries (n, i) → Contains m.id_to_index.entries (n, i) ⊎ P n

-- number n is known, and no other has been learnt
pub record LearnsOne (m m' : TypeEncodingMaps) (n : ℕ) : Type 0 where
  pub known : IsKnown m' n
  pub only : LearnsOnly (λ k. k ≡ n) m m'

-- ---- parts by their indexes

-- what a part is written as: its byte, or an index that the maps have for it
abbrev pub IsWritten : TypeEncodingMaps → ComponentValType → ValueType → Type 0
IsWritten m x (ty.Id id) = (i : ℕ) × (x ≡ v.Type_ i) × Contains m.id_to_index.entries (id.0, i)
IsWritten m x ty.Bool = x ≡ v.Primitive p.Bool
IsWritten m x ty.U8 = x ≡ v.Primitive p.U8
IsWritten m x ty.U16 = x ≡ v.Primitive p.U16
IsWritten m x ty.U32 = x ≡ v.Primitive p.U32
IsWritten m x ty.U64 = x ≡ v.Primitive p.U64
IsWritten m x ty.S8 = x ≡ v.Primitive p.S8
IsWritten m x ty.S16 = x ≡ v.Primitive p.S16
IsWritten m x ty.S32 = x ≡ v.Primitive p.S32
IsWritten m x ty.S64 = x ≡ v.Primitive p.S64
IsWritten m x ty.F32 = x ≡ v.Primitive p.F32
IsWritten m x ty.F64 = x ≡ v.Primitive p.F64
IsWritten m x ty.Char = x ≡ v.Primitive p.Char
IsWritten m x ty.String = x ≡ v.Primitive p.String
IsWritten m x ty.ErrorContext = x ≡ v.Primitive p.ErrorContext

-- a part can be written
abbrev pub IsReady : TypeEncodingMaps → ValueType → Type 0
IsReady m t = (id : TypeId) → t ≡ ty.Id id → IsKnown m id.0

-- each of these parts can be written
abbrev pub AllReady : TypeEncodingMaps → List ValueType → Type 0
AllReady m ts = (t : ValueType) → Contains ts t → IsReady m t
