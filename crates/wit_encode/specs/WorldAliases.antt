-- Which aliases stand in the component type of a world, and where: of types that are met, once for each, by the latest instance of their interface
-- that stands before (Component Model Explainer.md, "Alias Definitions").
use Rattle.std.specs.Prelude.{ℕ, ◌≡◌, ◌≤◌, ◌<◌, ◌+◌, nat_eq, List, [], ◌∷◌, ◌++◌, map, flat_map, length, take, drop, Some, None, String, slice_get}
use Rattle.std.specs.List.{Contains, IsDistinct}
use Rattle.std.specs.declared.alloc.Global.{Global}
use Rattle.wit_model.specs.{Text.text_of, Lookup.type_at}
use Rattle.wit_model.specs.declared.model.{Resolve.Resolve, TypeDef.TypeDef, InterfaceId.InterfaceId}
use Rattle.comp_bytes.specs.Raw.{Alias, Declarations}
use Rattle.encode_types.specs.Known.{Aliased, Around, known_instance, known_slot}
use Rattle.wit_encode.specs.{DependencyAliases.alias_in, DependencyAliases.export_alias, WrittenNames.instance_name, WrittenNames.instance_names}
use Rattle.wit_model.specs.declared.model.TypeOwner.TheVariants as owner

-- ---- what stands there

-- the aliases at the first level, in order, each with how many instances have been imported and exported before it, behind so many
abbrev pub placed_aliases : ℕ → Declarations → List (ℕ × Alias)
placed_aliases n Declarations.no_more = []
placed_aliases n (Declarations.declares d rest) = map (λ a. (n, a)) (alias_in d) ++ placed_aliases (n + length (instance_name d)) rest
placed_aliases n (Declarations.component inner rest) = placed_aliases n rest
placed_aliases n (Declarations.instance inner rest) = placed_aliases n rest

-- an alias of a type number, with how many instances stand before it
abbrev pub PlacedAlias : Type 0
PlacedAlias = ℕ × Aliased

-- as it is declared
abbrev pub placed_alias : PlacedAlias → ℕ × Alias
placed_alias x = (x.0, export_alias x.1)

-- ---- what is asked of them

-- of the first n of these interfaces number k is this one, and none behind it is
pub record IsLatest (interfaces : List ℕ) (n i k : ℕ) : Type 0 where
  pub before : k < n
  pub is : slice_get interfaces k ≡ Some i
  pub last : (j : ℕ) → k < j → j < n → slice_get interfaces j ≡ Some i → ⊥

-- A named type of an interface, by the latest instance of that interface which stands before, where instances of these interfaces stand in order.
pub record IsAliasBehind (r : Resolve) (interfaces : List ℕ) (x : PlacedAlias) : Type 0 where
  pub def : TypeDef
  pub name : String Global
  pub interface : InterfaceId
  pub there : type_at r x.1.number.0 ≡ Some def
  pub named_ : def.name ≡ Some name
  pub owned : def.owner ≡ owner.Interface interface
  pub text : x.1.name ≡ text_of name
  pub behind : x.0 ≤ length interfaces
  pub instance : IsLatest interfaces x.0 interface.0 x.1.instance

-- The aliases are those of some types, no type twice, each by the latest instance of its interface by then, and P holds of each place and type
-- number, where the place is how many instances stand before the alias.
pub record HasAliasesBehind (r : Resolve) (interfaces : List ℕ) (P : ℕ → ℕ → Type 0) (outer : Declarations) : Type 0 where
  pub made : List PlacedAlias
  pub are : placed_aliases 0 outer ≡ map placed_alias made
  pub once : IsDistinct nat_eq (map (λ x. x.1.number.0) made)
  pub each : (x : PlacedAlias) → Contains made x → IsAliasBehind r interfaces x
  pub asked : (x : PlacedAlias) → Contains made x → P x.0 x.1.number.0

-- ---- between two declarations

-- a type number has an alias
abbrev pub HasSlot : Around → ℕ → Type 0
HasSlot around n = known_slot around.known n ≡ None → ⊥

-- So many instances stand, of these interfaces in order; each interface that is listed has its latest one there. The aliases are those of the types
-- that are listed with a slot.
pub record KeepsAliases (r : Resolve) (count : ℕ) (around : Around) (interfaces : List ℕ) : Type 0 where
  pub counted : count ≡ length interfaces
  pub named : length (instance_names around.declared) ≡ length interfaces
  pub listed : (i k : ℕ) → known_instance around.instances i ≡ Some k → IsLatest interfaces (length interfaces) i k
  pub has : HasAliasesBehind r interfaces (λ n t. HasSlot around t) around.declared
  pub all : (t : ℕ) → HasSlot around t → Contains (map (λ x. x.1.number.0) has.made) t

-- where an alias stands, and the number of its type
abbrev pub place_and_number : PlacedAlias → ℕ × ℕ
place_and_number x = (x.0, x.1.number.0)

-- Aliases have been made behind these of before, and each of them stands behind n instances.
pub record KeepsBehind (r : Resolve) (count : ℕ) (around : Around) (interfaces : List ℕ) (before : List (ℕ × ℕ)) (n : ℕ) : Type 0 where
  pub keeps : KeepsAliases r count around interfaces
  pub more : List (ℕ × ℕ)
  pub are : map place_and_number keeps.has.made ≡ before ++ more
  pub placed : (x : ℕ × ℕ) → Contains more x → x.0 ≡ n

-- ---- interfaces and aliases in one list

-- numbers, two by two
abbrev pub pairs_in : List ℕ → List (ℕ × ℕ)
pairs_in [] = []
pairs_in (n ∷ []) = []
pairs_in (n ∷ t ∷ rest) = (n, t) ∷ pairs_in rest

-- how many interfaces there are, these, and then the aliases of before, place and number of each
abbrev pub in_one_list : List ℕ → List (ℕ × ℕ) → List ℕ
in_one_list interfaces before = length interfaces ∷ interfaces ++ flat_map (λ x. x.0 ∷ x.1 ∷ []) before

-- the interfaces in such a list
abbrev pub interfaces_in : List ℕ → List ℕ
interfaces_in [] = []
interfaces_in (count ∷ rest) = take count rest

-- the aliases in such a list
abbrev pub aliases_in : List ℕ → List (ℕ × ℕ)
aliases_in [] = []
aliases_in (count ∷ rest) = pairs_in (drop count rest)

-- the interfaces whose instances stand and the aliases of before are those of the list, and no instance has been named since
abbrev pub KeepsListed : Resolve → ℕ → Around → List ℕ → Type 0
KeepsListed r count around ns = KeepsBehind r count around (interfaces_in ns) (aliases_in ns) (length (interfaces_in ns))
