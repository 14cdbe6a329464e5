-- What the table of a comparison holds: pairs of type numbers, each once, of which the first so many have been compared.
use Rattle.std.specs.Prelude.{◌≡◌, ℕ, ◌<◌, ◌≤◌, ◌⊎◌, Bool, true, false, nat_lt, List, [], ◌∷◌, ◌++◌, length, take, Some, None}
use Rattle.std.specs.List.{Contains, AllZip, list_all}
use Rattle.wit_model.specs.declared.model.{Resolve.Resolve, TypeDef.TypeDef, TypeDefKind.TypeDefKind, TypeId.TypeId, «Type».«Type» as ValueType}
use Rattle.wit_model.specs.{Lookup.type_at, Parts.kind_numbers, Types.number_of, Types.tree_at}
use Rattle.compat_meaning.specs.{Opened.resource_leaf, Opened.opened_of, Opened.places_of, Opened.form_of, Walk.Pair, Walk.in_heads, Walk.heads_of, Walk.Reached}
use Rattle.compat_meaning.specs.Outline.{OwnerInRange}
use Rattle.wit_model.specs.declared.model.TypeDefKind.TheVariants as kind
use Rattle.wit_model.specs.declared.model.«Type».TheVariants as ty

-- Each type refers to smaller numbers alone, and its owner is in range. So it is in a valid `Resolve`.
pub record IsLayered (r : Resolve) : Type 0 where
  pub smaller : (n : ℕ) (def : TypeDef) → type_at r n ≡ Some def → list_all (λ m. nat_lt m n) (kind_numbers def.kind) ≡ true
  pub owners : (n : ℕ) (def : TypeDef) → type_at r n ≡ Some def → OwnerInRange r def

abbrev pub InRange : Resolve → ValueType → Type 0
InRange r t = (id : TypeId) → t ≡ ty.Id id → id.0 < length r.types.items

abbrev pub AllInRange : Resolve → List ValueType → Type 0
AllInRange r ts = (t : ValueType) → Contains ts t → InRange r t

-- ---- two types

-- The same primitive, or numbers whose pair stands in the list.
abbrev pub IsJoined : List Pair → ValueType → ValueType → Type 0
IsJoined pairs t u = ((number_of t ≡ None) × (t ≡ u)) ⊎ ((a : ℕ) × (b : ℕ) × (number_of t ≡ Some a) × (number_of u ≡ Some b) × Contains pairs (a, b))

-- the same, aliases followed
abbrev pub Joined : List ValueType → List Pair → ValueType → ValueType → Type 0
Joined heads pairs t u = IsJoined pairs (in_heads heads t) (in_heads heads u)

-- Two primitives that differ, or a primitive and a number.
abbrev pub IsApart : ValueType → ValueType → Type 0
IsApart t u = ((number_of t ≡ None) × (t ≡ u → ⊥)) ⊎ ((a : ℕ) × (number_of t ≡ Some a) × (number_of u ≡ None))

abbrev pub Apart : List ValueType → ValueType → ValueType → Type 0
Apart heads t u = IsApart (in_heads heads t) (in_heads heads u)

abbrev pub SomeApart : List ValueType → List ValueType → List ValueType → Type 0
SomeApart heads [] us = ⊥
SomeApart heads (t ∷ ts) [] = ⊥
SomeApart heads (t ∷ ts) (u ∷ us) = Apart heads t u ⊎ SomeApart heads ts us

-- ---- two kinds

abbrev pub is_alias : TypeDefKind → Bool
is_alias (kind.Type_ t) = true
is_alias k = false

-- the number of a type that is no alias
abbrev pub IsHead : Resolve → ℕ → Type 0
IsHead r n = (def : TypeDef) × (type_at r n ≡ Some def) × (is_alias def.kind ≡ false)

-- The kinds are the same beside the types in them; of resources, the places and the names.
abbrev pub SameKinds : Resolve → TypeDef → TypeDef → Type 0
SameKinds r d e = (form_of d.kind ≡ form_of e.kind) × (form_of d.kind ≡ None → resource_leaf r d ≡ resource_leaf r e)

-- The kinds are the same, and what stands at equal places is the same or stands in the list.
pub record IsMatched (r : Resolve) (pairs : List Pair) (p : Pair) : Type 0 where
  pub prev : TypeDef
  pub new : TypeDef
  pub prev_at : type_at r p.0 ≡ Some prev
  pub new_at : type_at r p.1 ≡ Some new
  pub same : SameKinds r prev new
  pub places : AllZip (Joined (heads_of r) pairs) (places_of prev.kind) (places_of new.kind)

abbrev pub AreHeads : Resolve → List Pair → Type 0
AreHeads r pairs = (p : Pair) → Contains pairs p → IsHead r p.0 × IsHead r p.1

-- a table of pairs of which the first so many have been compared, and found the same
pub record IsTable (r : Resolve) (pairs : List Pair) (done : ℕ) : Type 0 where
  pub heads : AreHeads r pairs
  pub matched : (p : Pair) → Contains (take done pairs) p → IsMatched r pairs p
  pub within : done ≤ length pairs

-- new is old, followed by some of the candidates
pub record Grows (old new candidates : List Pair) : Type 0 where
  pub added : List Pair
  pub is : new ≡ old ++ added
  pub each : (p : Pair) → Contains added p → Contains candidates p

-- new is old, followed by pairs that are reached from it
pub record GrowsWithin (r : Resolve) (old new : List Pair) : Type 0 where
  pub added : List Pair
  pub is : new ≡ old ++ added
  pub each : (p : Pair) → Contains new p → Reached r old p

-- whether two numbers have the same opened tree
abbrev pub SameTrees : Resolve → Pair → Type 0
SameTrees r p = tree_at (opened_of r) p.0 ≡ tree_at (opened_of r) p.1

-- some pair of the list has different trees
abbrev pub SomeDiffers : Resolve → List Pair → Type 0
SomeDiffers r pairs = (p : Pair) × Contains pairs p × (SameTrees r p → ⊥)

-- every pair has been compared and found the same
abbrev pub IsSettled : Resolve → List Pair → ℕ → Type 0
IsSettled r pairs steps = IsTable r pairs (length pairs) × (steps ≡ length pairs)

-- every pair is reached from these
abbrev pub AreReached : Resolve → List Pair → List Pair → Type 0
AreReached r roots pairs = (p : Pair) → Contains pairs p → Reached r roots p

-- each pair of the first list stands in the second
abbrev pub AreAmong : List Pair → List Pair → Type 0
AreAmong ps qs = (p : Pair) → Contains ps p → Contains qs p
