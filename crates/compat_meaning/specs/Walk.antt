-- Which pairs of type numbers a comparison of two worlds may have to compare, aliases followed.
use Rattle.std.specs.Prelude.{◌≡◌, ℕ, Bool, true, false, if◌then◌else◌, List, [], ◌∷◌, ◌++◌, length, map, flat_map, Option, Some, option_to_list, is_some, unwrap_or, slice_get}
use Rattle.std.specs.{Option.option_map_or, List.Contains}
use Rattle.wit_model.specs.declared.model.{Resolve.Resolve, TypeDef.TypeDef, TypeDefKind.TypeDefKind, Function.Function, «Type».«Type» as ValueType}
use Rattle.wit_model.specs.declared.model.World.{World}
use Rattle.wit_model.specs.{Text.text_of, Lookup.type_at, Lookup.is_async, Types.grow, Types.number_of}
use Rattle.compat_meaning.specs.Opened.{places_of}
use Rattle.compat_meaning.specs.Flat.{FlatName, Thing, of_type, of_function, find_named, things_of}
use Rattle.wit_model.specs.declared.model.TypeDefKind.TheVariants as kind
use Rattle.wit_model.specs.declared.model.«Type».TheVariants as ty

-- ---- aliases followed

-- what a type is, from a table of what earlier numbers are
abbrev pub in_heads : List ValueType → ValueType → ValueType
in_heads heads (ty.Id id) = unwrap_or (slice_get heads id.0) (ty.Id id)
in_heads heads t = t

-- what a definition is: itself, or what the alias names
abbrev pub head_of_kind : List ValueType → TypeDefKind → ValueType
head_of_kind heads (kind.Type_ t) = in_heads heads t
head_of_kind heads k = ty.Id (record { 0 = length heads })

-- what a type number is, aliases followed, from what earlier numbers are
abbrev pub head_of : List ValueType → TypeDef → ValueType
head_of heads def = head_of_kind heads def.kind

-- what each type number is, aliases followed
unfoldable pub heads_of : Resolve → List ValueType
heads_of r = grow head_of [] r.types.items

-- ---- pairs

-- the numbers of two types that are compared
abbrev pub Pair : Type 0
Pair = ℕ × ℕ

-- the pair of the numbers of two types, where both have one
abbrev pub both : Option ℕ → Option ℕ → List Pair
both (Some a) (Some b) = (a, b) ∷ []
both _ _ = []

-- the pairs at equal places of two lists of types, by a table of what each number is, aliases followed
abbrev pub pairs_at : List ValueType → List ValueType → List ValueType → List Pair
pairs_at heads [] us = []
pairs_at heads (t ∷ ts) [] = []
pairs_at heads (t ∷ ts) (u ∷ us) = both (number_of (in_heads heads t)) (number_of (in_heads heads u)) ++ pairs_at heads ts us

-- the types at the places of a number's kind
abbrev pub places_at : Resolve → ℕ → List ValueType
places_at r n = option_map_or (λ def. places_of def.kind) (type_at r n) []

-- the pairs at equal places of two kinds
abbrev pub pairs_below : Resolve → Pair → List Pair
pairs_below r p = pairs_at (heads_of r) (places_at r p.0) (places_at r p.1)

-- Two functions are the same beside the types in them.
pub record SameShapes (f g : Function) : Type 0 where
  pub asyncs : is_async f.kind ≡ is_async g.kind
  pub names : map (λ p. text_of p.name) f.params.items ≡ map (λ p. text_of p.name) g.params.items
  pub results : is_some f.result ≡ is_some g.result

-- the pairs at equal places of two things
abbrev pub pairs_of_things : Resolve → Thing → Thing → List Pair
pairs_of_things r (of_type t) (of_type u) = pairs_at (heads_of r) (t ∷ []) (u ∷ [])
pairs_of_things r (of_function f) (of_function g) = pairs_at (heads_of r) (map (λ p. p.ty) f.params.items) (map (λ p. p.ty) g.params.items) ++ pairs_at
    (heads_of r) (option_to_list f.result) (option_to_list g.result)
pairs_of_things r _ _ = []

-- The pairs at equal places of a thing of the small list and one of the large list.
-- The previous world's comes first: its list is the small one, or, where `back`, the large one.
abbrev pub pairs_between : Resolve → Bool → Thing → Thing → List Pair
pairs_between r back small large = if back then pairs_of_things r large small else pairs_of_things r small large

-- the pairs of a thing of the small list and the one of that name in the large list, if there is one
abbrev pub pairs_of_entry : Resolve → Bool → List (FlatName × Thing) → FlatName × Thing → List Pair
pairs_of_entry r back large e = option_map_or (pairs_between r back e.1) (find_named e.0 large) []

-- the pairs at equal places of the things that both lists have
abbrev pub pairs_shared : Resolve → Bool → List (FlatName × Thing) → List (FlatName × Thing) → List Pair
pairs_shared r back small large = flat_map (pairs_of_entry r back large) small

-- The pairs at equal places of the items that both worlds have. Imports are looked up in new, and exports in prev.
abbrev pub pairs_of_worlds : Resolve → World → World → List Pair
pairs_of_worlds r prev new =
    pairs_shared r false (things_of r prev.imports.entries) (things_of r new.imports.entries)
    ++ pairs_shared r true (things_of r new.exports.entries) (things_of r prev.exports.entries)

-- the least set that holds these pairs, and with a pair those at equal places of its two kinds
pub data Reached (r : Resolve) (roots : List Pair) : Pair → Type 0 where
  root : (p : Pair) → Contains roots p → Reached r roots p
  below : (p q : Pair) → Reached r roots p → Contains (pairs_below r p) q → Reached r roots q

-- the pairs of types that two worlds lead to, from what both have under one name
abbrev pub Walk : Resolve → World → World → Pair → Type 0
Walk r prev new = Reached r (pairs_of_worlds r prev new)

-- each of these pairs stands once
abbrev pub AreDifferent : List Pair → Type 0
AreDifferent [] = Unit {0}
AreDifferent (p ∷ ps) = (Contains ps p → ⊥) × AreDifferent ps

-- So many steps are so many different pairs of the walk; where `all`, every pair of the walk.
pub record IsCounted (r : Resolve) (prev new : World) (steps : ℕ) (all : Bool) : Type 0 where
  pub pairs : List Pair
  pub different : AreDifferent pairs
  pub walked : (p : Pair) → Contains pairs p → Walk r prev new p
  pub counted : length pairs ≡ steps
  pub every : all ≡ true → (p : Pair) → Walk r prev new p → Contains pairs p
