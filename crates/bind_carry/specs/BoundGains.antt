-- What the own bound world gains of the other one: items whose keys it hasn't, with their inline interfaces and the types of both.
use Rattle.std.specs.Prelude.{◌≡◌, ℕ, Bool, true, false, ◌||◌, nat_lt, List, [], ◌∷◌, ◌++◌, Option, Some, None, length, option_and_then, replicate, slice_set}
use Rattle.std.specs.{List.list_all, List.AllZip, List.IsDistinct, Map.keys_of, Map.lookup, Option.option_map_or}
use Rattle.wit_model.specs.Valid.{key_eq}
use Rattle.wit_model.specs.declared.model.{Interface.Interface, PackageId.PackageId, Resolve.Resolve, TypeId.TypeId, WorldItem.WorldItem, WorldKey.WorldKey}
use Rattle.wit_model.specs.declared.model.World.{World}
use Rattle.bind_copy.specs.Copies.{become_one, IsInterfaceUnder, IsKeyUnder}
use Rattle.bind_carry.specs.{Fates.settled_from, First.second_from, Marked.mark_new_items, Needs.mark_interfaces, Needs.mark_new, Needs.needed_alone, Shown.any_new, Shown.are_keys_below, Shown.type_in, Whole.kept}
use Rattle.bind_carry.specs.declared.fate.Fate.{Fate}
use Rattle.bind_carry.specs.declared.fate.Fate.TheVariants as fate

-- whether some import or some export of the other world has a key that the own one hasn't
abbrev pub gains_any : List ℕ → World → World → Bool
gains_any interfaces own other = any_new interfaces own.imports.entries other.imports.entries || any_new interfaces own.exports.entries other.exports.entries

-- the interfaces that are keys of a world are below so many
pub record AreWorldKeysBelow (count : ℕ) (w : World) : Type 0 where
  pub imports : are_keys_below count w.imports.entries ≡ true
  pub exports : are_keys_below count w.exports.entries ≡ true

-- which inline interfaces are gained
abbrev pub gained_inline : Resolve → List ℕ → World → World → List Bool
gained_inline other interfaces own bound =
    mark_new_items other interfaces own.exports.entries (mark_new_items other interfaces own.imports.entries (replicate (length other.interfaces.items) false)
    bound.imports.entries) bound.exports.entries

-- ---- types

-- the type that stands under a key
abbrev pub type_under_key : List (WorldKey × WorldItem) → WorldKey → Option TypeId
type_under_key es k = option_and_then type_in (lookup (key_eq k) es)

-- a type stands for the own one of its key
abbrev pub unify_one : List Fate → Option TypeId → Option TypeId → List Fate
unify_one fates (Some id) (Some own) = slice_set fates id.0 (fate.Stands own.0)
unify_one fates (Some id) None = fates
unify_one fates None own = fates

abbrev pub unified : List (WorldKey × WorldItem) → List (WorldKey × WorldItem) → List Fate → List Fate
unified here [] fates = fates
unified here (e ∷ es) fates = unified here es (unify_one fates (type_in e.1) (type_under_key here e.0))

-- the types among items are below so many
abbrev pub are_types_below : ℕ → List (WorldKey × WorldItem) → Bool
are_types_below count es = list_all (λ (e : WorldKey × WorldItem). option_map_or (λ id. nat_lt id.0 count) (type_in e.1) true) es

-- the types that functions name among the items that are gained, and of their inline interfaces
abbrev pub gained_marks : Resolve → List Bool → List ℕ → World → World → List Bool
gained_marks other copied interfaces own bound = mark_new interfaces own.exports.entries (mark_new interfaces own.imports.entries
    (mark_interfaces (replicate (length other.types.items) false) copied other.interfaces.items) bound.imports.entries) bound.exports.entries

-- what becomes of the other's types in what the bound world gains, by their fates and numbers by path, if all are copied that can be
abbrev pub all_bound_fates : Resolve → ℕ → ℕ → World → World → List Bool → List ℕ → List Fate → List ℕ → List Fate
all_bound_fates other world other_world own bound copied interfaces fates numbers =
    settled_from (gains_any interfaces own bound) [] other.types.items
    (unified own.imports.entries bound.imports.entries (second_from other world other_world copied interfaces other.types.items fates numbers))

-- what becomes of them
abbrev pub bound_fates : Resolve → ℕ → ℕ → World → World → List Bool → List ℕ → List Fate → List ℕ → List Fate
bound_fates other world other_world own bound copied interfaces fates numbers = needed_alone (gained_marks other copied interfaces own bound) other.types.items
    (all_bound_fates other world other_world own bound copied interfaces fates numbers)

-- ---- interfaces and keys

-- Inline interfaces are copied into this package, behind those that were added before.
pub record AreInlineCopied (types : List ℕ) (home : Option PackageId) (copied : List Bool) (interfaces old new : List Interface) : Type 0 where
  pub more : List Interface
  pub behind : new ≡ old ++ more
  pub copies : AllZip (IsInterfaceUnder types home) (kept copied interfaces) more

-- Keys under their new numbers, in their order, where no two become one.
abbrev pub AreKeysUnder : List ℕ → List (WorldKey × WorldItem) → List WorldKey → Type 0
AreKeysUnder interfaces es keys = IsDistinct (become_one interfaces) (keys_of es) → AllZip (IsKeyUnder interfaces) (keys_of es) keys
