-- When two imports, or two exports, of a world have one canonical name.
use Rattle.std.specs.Prelude.{◌≡◌, ℕ, Bool, true, List, ◌∷◌, ◌++◌, map, String}
use Rattle.std.specs.List.{Contains, IsDistinct}
use Rattle.std.specs.declared.alloc.Global.{Global}
use Rattle.wit_model.specs.Text.{Text, text_eq, text_of}
use Rattle.wit_model.specs.declared.{error.Error.Error, model.Resolve.Resolve, model.World.World, model.WorldKey.WorldKey, model.WorldItem.WorldItem}
use Rattle.encode_names.specs.WorldNames.{written_key, written_path}
use Rattle.wit_model.specs.declared.error.Error.TheVariants as errors

-- the canonical names of imports, or of exports
abbrev pub canonical_names_of : Resolve → List (WorldKey × WorldItem) → List Text
canonical_names_of r items = map (λ e. written_key r true e.0) items

-- the canonical paths of the interfaces of these numbers
abbrev pub canonical_paths_of : Resolve → List ℕ → List Text
canonical_paths_of r numbers = map (written_path r true) numbers

-- no text of these stands twice
abbrev pub AreDifferent : List Text → Type 0
AreDifferent texts = IsDistinct text_eq texts

-- the first text that repeats an earlier one: those before it are different, and it is one of them
pub record IsFirstRepeatedName (texts : List Text) (x : Text) : Type 0 where
  pub before : List Text
  pub after : List Text
  pub is : texts ≡ before ++ (x ∷ after)
  pub repeats : Contains before x
  pub different : AreDifferent before

-- Want of memory, or the first canonical name of these items that repeats an earlier one.
pub data RefusesItems (r : Resolve) (items : List (WorldKey × WorldItem)) (e : Error) : Type 0 where
  memory : e ≡ errors.Memory → RefusesItems r items e
  clash : (name : String Global) → IsFirstRepeatedName (canonical_names_of r items) (text_of name) → e ≡ errors.CanonicalClash name → RefusesItems r items e

-- Want of memory, or this name where it is one of those before it.
pub data RefusesText (before : List Text) (x : Text) (e : Error) : Type 0 where
  memory : e ≡ errors.Memory → RefusesText before x e
  clash : (name : String Global) → text_of name ≡ x → Contains before x → e ≡ errors.CanonicalClash name → RefusesText before x e

-- Want of memory, or, where canonical names are asked for, the first canonical path of these interfaces that repeats an earlier one.
pub data RefusesPaths (r : Resolve) (numbers : List ℕ) (canonical : Bool) (e : Error) : Type 0 where
  memory : e ≡ errors.Memory → RefusesPaths r numbers canonical e
  clash : canonical ≡ true → (name : String Global) → IsFirstRepeatedName (canonical_paths_of r numbers) (text_of name) → e ≡ errors.CanonicalClash name
      → RefusesPaths r numbers canonical e

-- no two imports and no two exports have one canonical name
pub record HasNoClash (r : Resolve) (w : World) : Type 0 where
  pub imports : AreDifferent (canonical_names_of r w.imports.entries)
  pub exports : AreDifferent (canonical_names_of r w.exports.entries)

-- The canonical name at which a world clashes: the first that repeats an earlier one, imports before exports. An import and an export
-- may have one name.
pub data IsNameClash (r : Resolve) (w : World) (x : Text) : Type 0 where
  of_imports : IsFirstRepeatedName (canonical_names_of r w.imports.entries) x → IsNameClash r w x
  of_exports : AreDifferent (canonical_names_of r w.imports.entries) → IsFirstRepeatedName (canonical_names_of r w.exports.entries) x → IsNameClash r w x

-- Want of memory, or, where canonical names are asked for, the one at which the world clashes.
pub data RefusesNames (r : Resolve) (w : World) (canonical : Bool) (e : Error) : Type 0 where
  memory : e ≡ errors.Memory → RefusesNames r w canonical e
  clash : canonical ≡ true → (name : String Global) → IsNameClash r w (text_of name) → e ≡ errors.CanonicalClash name → RefusesNames r w canonical e
