-- When a world may take the place of another, and why not (documentation of `semver_check`).
use Rattle.std.specs.Prelude.{◌≡◌, ◌⊎◌, true, List, [], ◌∷◌, ◌++◌, map, Option, Some, None, option_map, MatchOption}
use Rattle.std.specs.{Borrow.Bor, List.Contains, List.IsDistinct}
use Rattle.wit_model.specs.declared.model.{Resolve.Resolve, World.World, WorldId.WorldId, WorldKey.WorldKey, WorldItem.WorldItem}
use Rattle.wit_model.specs.declared.error.Error.{Error}
use Rattle.wit_model.specs.{Text.Text, Text.text_of, Text.text_eq, Names.PackageIdentity, Rules.entries_in_range, Lookup.world_at, Meant.package_of_world}
use Rattle.compat_meaning.specs.{Opened.bare_identity, Opened.bare_key, Flat.FlatName, Flat.FlatShown, Flat.find_named, Flat.flat_imports, Flat.flat_exports}
use Rattle.wit_model.specs.declared.error.Error.TheVariants as error

-- ---- compatible worlds

-- each entry of the first map stands in the second
abbrev pub IsIncluded : List (FlatName × FlatShown) → List (FlatName × FlatShown) → Type 0
IsIncluded small large = (e : FlatName × FlatShown) → Contains small e → find_named e.0 large ≡ Some e.1

-- What prev imports new imports too, and what new exports prev exports too.
pub record Compatible (r : Resolve) (prev new : World) : Type 0 where
  pub imports : IsIncluded (flat_imports r prev) (flat_imports r new)
  pub exports : IsIncluded (flat_exports r new) (flat_exports r prev)

-- ---- what `semver_check` asks before

-- the namespace and the name of a world's package
abbrev pub package_name : Resolve → World → Option PackageIdentity
package_name r w = option_map (λ p. bare_identity p.name) (package_of_world r w)

-- the keys of imports or exports, without version
abbrev pub bare_keys : Resolve → List (WorldKey × WorldItem) → List Text
bare_keys r es = map (λ e. bare_key r e.0) es

-- the first text of a list that repeats an earlier one: those before it are all different, and it is one of them
pub record IsFirstRepeat (ts : List Text) (t : Text) : Type 0 where
  pub front : List Text
  pub rest : List Text
  pub split : ts ≡ front ++ (t ∷ rest)
  pub before : IsDistinct text_eq front
  pub again : Contains front t

-- nothing stands twice, or this text is the first that repeats
abbrev pub RepeatsIn : List Text → Option (Bor Text) → Type 0
RepeatsIn ts o = MatchOption o (IsDistinct text_eq ts) (λ s. IsFirstRepeat ts s.now)

-- the first such text of lists that are looked through in turn: nothing stands twice in a list before its own
pub record IsRepeatedIn (lists : List (List Text)) (t : Text) : Type 0 where
  pub front : List (List Text)
  pub list : List Text
  pub rest : List (List Text)
  pub split : lists ≡ front ++ (list ∷ rest)
  pub before : (ts : List Text) → Contains front ts → IsDistinct text_eq ts
  pub repeats : IsFirstRepeat list t

-- the keys of a world's imports and of its exports, without version
abbrev pub keys_of_world : Resolve → World → List (List Text)
keys_of_world r w = bare_keys r w.imports.entries ∷ (bare_keys r w.exports.entries ∷ [])

-- no key of a world is twice without version
pub record HasKeysOnce (r : Resolve) (w : World) : Type 0 where
  pub imports : IsDistinct text_eq (bare_keys r w.imports.entries)
  pub exports : IsDistinct text_eq (bare_keys r w.exports.entries)

-- The first key that is twice without version: prev's imports, prev's exports, new's imports, new's exports.
abbrev pub IsTwice : Resolve → World → World → Text → Type 0
IsTwice r prev new name = IsRepeatedIn (keys_of_world r prev ++ keys_of_world r new) name

-- no key of either world is twice, or this is the first that is
abbrev pub TwiceIn : Resolve → World → World → Option (Bor Text) → Type 0
TwiceIn r prev new o = MatchOption o (HasKeysOnce r prev × HasKeysOnce r new) (λ s. IsTwice r prev new s.now)

-- the packages agree in namespace and name, and no key is twice without version
pub record AreComparable (r : Resolve) (prev new : World) : Type 0 where
  pub packages : package_name r prev ≡ package_name r new
  pub prev_keys : HasKeysOnce r prev
  pub new_keys : HasKeysOnce r new

-- ---- the first fault

-- why a world may not take the place of another
pub data Refusal : Type 0 where
  other_package : Refusal
  twice_without_version : Text → Refusal
  missing : Text → Refusal
  differs : Text → Refusal

-- `key`, or `key/name`
abbrev pub spelled_name : FlatName → Text
spelled_name (k, []) = k
spelled_name (k, b ∷ bs) = k ++ (47 ∷ (b ∷ bs))

-- what is wrong with an entry, where the other map has this under its name
pub data IsFault (name : FlatName) (s : FlatShown) : Option FlatShown → Refusal → Type 0 where
  is_missing : IsFault name s None (missing (spelled_name name))
  is_other : (o : FlatShown) → (o ≡ s → ⊥) → IsFault name s (Some o) (differs (spelled_name name))

-- the first entry of the small map that doesn't stand in the large one
pub record IsFirstFault (small large : List (FlatName × FlatShown)) (f : Refusal) : Type 0 where
  pub front : List (FlatName × FlatShown)
  pub entry : FlatName × FlatShown
  pub rest : List (FlatName × FlatShown)
  pub split : small ≡ front ++ (entry ∷ rest)
  pub before : (e : FlatName × FlatShown) → Contains front e → find_named e.0 large ≡ Some e.1
  pub wrong : IsFault entry.0 entry.1 (find_named entry.0 large) f

-- Each refusal, where no earlier one stands.
pub data Refuses (r : Resolve) (prev new : World) : Refusal → Type 0 where
  packages : (package_name r prev ≡ package_name r new → ⊥) → Refuses r prev new other_package
  keys : (name : Text) → package_name r prev ≡ package_name r new → IsTwice r prev new name → Refuses r prev new (twice_without_version name)
  imports : (f : Refusal) → AreComparable r prev new → IsFirstFault (flat_imports r prev) (flat_imports r new) f → Refuses r prev new f
  exports : (f : Refusal) → AreComparable r prev new → IsIncluded (flat_imports r prev) (flat_imports r new)
      → IsFirstFault (flat_exports r new) (flat_exports r prev) f → Refuses r prev new f

-- What `Ok` says: the packages agree in namespace and name, no key is twice without version, and the worlds are compatible.
pub record Accepts (r : Resolve) (prev new : World) : Type 0 where
  pub comparable : AreComparable r prev new
  pub compatible : Compatible r prev new

-- the refusal that an error carries
abbrev pub refusal_of : Error → Option Refusal
refusal_of error.OtherPackage = Some other_package
refusal_of (error.TwiceWithoutVersion name) = Some (twice_without_version (text_of name))
refusal_of (error.Missing name) = Some (missing (text_of name))
refusal_of (error.Differs name) = Some (differs (text_of name))
refusal_of _ = None

-- want of memory, or this refusal
abbrev pub IsMemoryOr : Refusal → Error → Type 0
IsMemoryOr f e = (e ≡ error.Memory) ⊎ (refusal_of e ≡ Some f)

-- want of memory, or what is wrong with an entry
abbrev pub IsEntryFault : List (FlatName × FlatShown) → FlatName × FlatShown → Error → Type 0
IsEntryFault large x e = (e ≡ error.Memory) ⊎ ((f : Refusal) × (refusal_of e ≡ Some f) × IsFault x.0 x.1 (find_named x.0 large) f)

-- want of memory, or the first fault of an inclusion
abbrev pub IsFaultOf : List (FlatName × FlatShown) → List (FlatName × FlatShown) → Error → Type 0
IsFaultOf small large e = (e ≡ error.Memory) ⊎ ((f : Refusal) × (refusal_of e ≡ Some f) × IsFirstFault small large f)

-- want of memory, or the first key that is twice without version
abbrev pub IsRepeated : Resolve → World → World → Error → Type 0
IsRepeated r prev new e = (e ≡ error.Memory) ⊎ ((name : Text) × (refusal_of e ≡ Some (twice_without_version name)) × IsTwice r prev new name)

-- the numbers in a world's items are in range
pub record HasItemsInRange (r : Resolve) (w : World) : Type 0 where
  pub imports : entries_in_range r w.imports.entries ≡ true
  pub exports : entries_in_range r w.exports.entries ≡ true

-- want of memory, or the first fault: of the imports, or of the exports where the imports have none
abbrev pub IsMismatch : Resolve → World → World → Error → Type 0
IsMismatch r prev new e =
    IsFaultOf (flat_imports r prev) (flat_imports r new) e
    ⊎ (IsIncluded (flat_imports r prev) (flat_imports r new) × IsFaultOf (flat_exports r new) (flat_exports r prev) e)

-- what an error says: want of memory, or the first fault
pub data IsRefused (r : Resolve) (prev new : World) : Error → Type 0 where
  memory : IsRefused r prev new error.Memory
  refused : (e : Error) (f : Refusal) → refusal_of e ≡ Some f → Refuses r prev new f → IsRefused r prev new e

-- this holds of the worlds of these two numbers
abbrev pub OfWorlds : Resolve → WorldId → WorldId → (World → World → Type 0) → Type 0
OfWorlds r prev new Holds = (p n : World) → world_at r prev.0 ≡ Some p → world_at r new.0 ≡ Some n → Holds p n
