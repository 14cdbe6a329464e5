-- The places of names, by number, and the keys of instances, whose paths are places (Binary.md, "Import and Export Definitions").
use Rattle.std.specs.Prelude.{◌≡◌, ◌⊎◌, ◌<◌, ◌≤◌, ℕ, ◌+◌, ◌==◌, ◌&&◌, not, if◌then◌else◌, Bool, false, List, [], length, map, Option, Some, None, option_map, is_some, slice_get, true}
use Rattle.std.specs.Borrow.{Bor}
use Rattle.wit_model.specs.{Text.Text, Text.text_of, Names.is_label, Names.known_path, Names.read_path, Names.versioned, Tree.Place}
use Rattle.comp_bytes.specs.Reading.{◌>>=◌}
use Rattle.comp_meaning.specs.Follow.{Key, complete_path, instance_place, provided}
use Rattle.read_follow.specs.declared.{instance_keys.InstanceKey.InstanceKey, places.PlaceKey.PlaceKey}
use Rattle.read_follow.specs.Functions.{AreApart}
use Rattle.read_follow.specs.declared.instance_keys.InstanceKey.TheVariants as keys

-- two texts that are parts of another
abbrev pub two_texts : Option (Bor (List ℕ) × Bor (List ℕ)) → Option (Text × Text)
two_texts o = option_map (λ x. (x.0.now, x.1.now)) o

-- whether these are a package's namespace and name, and the rest an interface's name and the package's version, if it has one
abbrev pub behind_name : Text → Text → Text → Bool
behind_name namespace name rest = is_some (known_path (record { namespace = namespace; name = name; version = (versioned rest).1 }) (versioned rest).0)

-- ---- places

-- A place by its path and the number 0, or one without a path by a number of its own.
abbrev pub place_shape : PlaceKey → Text × ℕ
place_shape k = (text_of k.path, k.number)

-- the path of a place, if it has one
abbrev pub path_in : Text × ℕ → Option Text
path_in x = if x.1 == 0 then Some x.0 else None

abbrev pub has_path : Option Text → Bool
has_path o = is_some o

-- each path stands once
abbrev pub ArePathsApart : List (Option Text) → Type 0
ArePathsApart paths = (m n : ℕ) (path : Text) → slice_get paths m ≡ Some (Some path) → slice_get paths n ≡ Some (Some path) → m ≡ n

-- the path, if there is one, is read as the name of an interface in a package
abbrev pub IsReadIfGiven : Option Text → Type 0
IsReadIfGiven o = (path : Text) → o ≡ Some path → is_some (read_path path) ≡ true

-- each path is so
abbrev pub ArePathsRead : List (Option Text) → Type 0
ArePathsRead paths = (n : ℕ) (path : Text) → slice_get paths n ≡ Some (Some path) → is_some (read_path path) ≡ true

-- None stands twice, the number of one without a path isn't yet that of one to come, each path is read, and each mark says whether there is one.
pub record ArePlaces (shapes : List (Text × ℕ)) (marks : List Bool) : Type 0 where
  pub apart : AreApart shapes
  pub numbered : (n : ℕ) (x : Text × ℕ) → slice_get shapes n ≡ Some x → x.1 ≤ n + 1
  pub read : ArePathsRead (map path_in shapes)
  pub marked : marks ≡ map has_path (map path_in shapes)

-- each place of these numbers is that of its path, or else of the scope itself
abbrev pub ArePlacesOf : List (Option Text) → (ℕ → Place) → Type 0
ArePlacesOf paths place = (n : ℕ) (o : Option Text) → slice_get paths n ≡ Some o → place n ≡ instance_place o

-- ---- keys of instances

abbrev pub path_text : Place → Text
path_text (Place.of_interface path) = path
path_text Place.here = []

abbrev pub place_number : InstanceKey → ℕ
place_number (keys.Path p) = p
place_number (keys.Label l p) = p
place_number (keys.Implementing l p) = p

abbrev pub key_at : (ℕ → Place) → InstanceKey → Key
key_at place (keys.Path p) = Key.path (path_text (place p))
key_at place (keys.Label l p) = Key.label l.now
key_at place (keys.Implementing l p) = Key.implementing l.now (path_text (place p))

-- The place of a path has one, and that of an inline interface has none.
abbrev pub IsKeyIn : List (Option Text) → InstanceKey → Type 0
IsKeyIn paths (keys.Path p) = (path : Text) × (slice_get paths p ≡ Some (Some path))
IsKeyIn paths (keys.Label l p) = slice_get paths p ≡ Some None
IsKeyIn paths (keys.Implementing l p) = (path : Text) × (slice_get paths p ≡ Some (Some path))

-- an inline interface has a place of its own, behind those that were there before
abbrev pub IsFreshKey : List (Option Text) → InstanceKey → Type 0
IsFreshKey before (keys.Path p) = Unit {0}
IsFreshKey before (keys.Label l p) = length before ≤ p
IsFreshKey before (keys.Implementing l p) = Unit {0}

-- a label and the path of what it implements, completed
abbrev pub implementing_key : Text → Text → Option Text → Option Key
implementing_key text target suffix = complete_path target suffix >>= λ whole. provided (is_label text) (Key.implementing text whole)

-- a name that is no label alone, where it isn't the key of what implements another
abbrev pub IsNoLabel : Text → Option Text → Type 0
IsNoLabel text suffix = (is_label text && not (is_some suffix)) ≡ false

-- a place behind those that were there before, if it has a path, is the one of this number
abbrev pub IsOnlyNew : List (Option Text) → ℕ → List (Option Text) → Type 0
IsOnlyNew before n paths = (q : ℕ) (path : Text) → slice_get paths q ≡ Some (Some path) → (q < length before) ⊎ (q ≡ n)

-- the number of the place of a path, completed
pub record IsPathNumber (text : Text) (suffix : Option Text) (paths : List (Option Text)) (n : ℕ) : Type 0 where
  pub path : Text
  pub completes : complete_path text suffix ≡ Some path
  pub at : slice_get paths n ≡ Some (Some path)

-- What is found is the key, wherever the places are those of their paths.
pub record IsKeyOf (found : Option Key) (paths : List (Option Text)) (key : InstanceKey) : Type 0 where
  pub stands : IsKeyIn paths key
  pub is : (place : ℕ → Place) → ArePlacesOf paths place → found ≡ Some (key_at place key)
