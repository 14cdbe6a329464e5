-- How many worlds a package has, and which of them is chosen.
use Rattle.std.specs.Prelude.{◌≡◌, ◌≢◌, ◌-◌, ℕ, List, length, Option, Some, None, slice_get}
use Rattle.wit_component.specs.{Decoded.IsDecoded, Decoded.MeansNothing, Lookup.package_at}
use Rattle.wit_model.specs.declared.{model.Package.Package, model.Resolve.Resolve}
use Rattle.teasel_words.specs.Table.{Text}

-- how many worlds a package has, if there is one
abbrev pub world_count : Option Package → ℕ
world_count None = 0
world_count (Some p) = length p.worlds.entries

-- The bytes mean a package with so many worlds.
pub record HasWorlds (bytes : List ℕ) (count : ℕ) : Type 0 where
  pub resolve : Resolve
  pub number : ℕ
  pub decoded : IsDecoded bytes resolve number
  pub counted : world_count (package_at resolve number) ≡ count

-- They mean no package, or one that hasn't just one world.
pub data HasNoOneWorld (bytes : List ℕ) : Type 0 where
  no_package : MeansNothing bytes → HasNoOneWorld bytes
  no_one : (count : ℕ) → HasWorlds bytes count → count ≢ 1 → HasNoOneWorld bytes

-- the last of some texts
abbrev pub last_of : List Text → Option Text
last_of ts = slice_get ts (length ts - 1)

-- The name is this; or, where none is named, the package has just one world.
abbrev pub IsNamedBy : Option Text → List ℕ → Text → Type 0
IsNamedBy None bytes name = HasWorlds bytes 1
IsNamedBy (Some t) bytes name = name ≡ t

-- the same of the last name of several
abbrev pub IsChosen : List Text → List ℕ → Text → Type 0
IsChosen ts = IsNamedBy (last_of ts)
