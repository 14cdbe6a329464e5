-- Whether files can be read.
use Rattle.std.specs.Prelude.{◌≡◌, ℕ, Bool, true, false, List}
use Rattle.wit_component.specs.{Binding.Binding, Bound.IsBound, Bound.RefusesBindings, Reached.OutgrowsLists}
use Rattle.wit_component.specs.{Decoded.IsDecoded, Decoded.MeansNothing, DecodedWorlds.IsDecodedWorld, DecodedWorlds.MeansNoWorld}
use Rattle.wit_model.specs.declared.{error.Error.Error, model.Resolve.Resolve}
use Rattle.wit_model.specs.declared.error.Error.TheVariants as errors
use Rattle.teasel_texts.specs.declared.input.Input.{Input}
use Rattle.teasel_messages.specs.{Looks.begins_as_module, Reasons.is_memory}

-- Bytes mean a package, or else one world.
pub data MeansComponent (bytes : List ℕ) : Type 0 where
  a_package : (r : Resolve) (n : ℕ) → IsDecoded bytes r n → MeansComponent bytes
  a_world : (r : Resolve) (w : ℕ) → MeansNothing bytes → IsDecodedWorld bytes r w → MeansComponent bytes

-- Bytes mean something: a core module's, that it binds something; else a package, or one world.
pub data Means (bytes : List ℕ) : Type 0 where
  a_module : (b : Binding) → begins_as_module bytes ≡ true → IsBound bytes b → Means bytes
  a_component : begins_as_module bytes ≡ false → MeansComponent bytes → Means bytes

-- a module is refused so, with `Size` only where a list would get too long
abbrev pub RefusesModule : List ℕ → Error → Type 0
RefusesModule bytes e = RefusesBindings bytes e × (e ≡ errors.Size → OutgrowsLists bytes)

-- Bytes mean nothing: a core module's are refused, for a reason that isn't want of memory; others mean neither a package nor one world.
pub data MeansNone (bytes : List ℕ) : Type 0 where
  no_module : (e : Error) → begins_as_module bytes ≡ true → is_memory e ≡ false → RefusesModule bytes e → MeansNone bytes
  no_component : begins_as_module bytes ≡ false → MeansNothing bytes → MeansNoWorld bytes → MeansNone bytes

-- they are refused for want of memory, or since they mean nothing
abbrev pub MeansNoneFor : List ℕ → Error → Type 0
MeansNoneFor bytes e = is_memory e ≡ false → MeansNone bytes

-- the same of bytes that may be some of the first ones of a file that is no WebAssembly
abbrev pub MeansNoneOf : Bool → List ℕ → Type 0
MeansNoneOf true bytes = MeansNone bytes
MeansNoneOf false bytes = Unit {0}

-- a file can be read, or it can't: it is no WebAssembly, or means nothing
abbrev pub IsChecked : Input → Bool → Type 0
IsChecked i true = (i.whole ≡ true) × Means i.bytes.items
IsChecked i false = MeansNoneOf i.whole i.bytes.items
