-- Packages by their names.
use Rattle.std.specs.Prelude.{◌≡◌, Bool, if◌then◌else◌, List, Option, Some, None}
use Rattle.std.specs.HashMap.{get_by}
use Rattle.indexmap.specs.IndexMap.{IndexMap}
use Rattle.keyed_hash.specs.declared.KeyedHash.{KeyedHash}
use Rattle.wit_model.specs.declared.model.{Package.Package, PackageId.PackageId, PackageName.PackageName}
use Rattle.wit_model.specs.Rules.{same_package_name}
use Rattle.bind_match.specs.Matching.{package_from}

abbrev pub Table : Type 0
Table = IndexMap PackageName PackageId KeyedHash

-- the package of this name
abbrev pub found_by : Table → PackageName → Option PackageId
found_by named x = get_by (same_package_name x) named

-- Each name is found as the first package that bears it.
abbrev pub AreNamed : List Package → Table → Type 0
AreNamed packages named = (x : PackageName) → found_by named x ≡ package_from x 0 packages

-- what was found, or else this, where it bears the name
abbrev pub or_else : Option PackageId → Bool → PackageId → Option PackageId
or_else (Some id) is_its id_of_name = Some id
or_else None is_its id_of_name = if is_its then Some id_of_name else None

-- A name has got a package, unless it had one.
abbrev pub GainsName : Table → PackageName → PackageId → Table → Type 0
GainsName old name id new = (x : PackageName) → found_by new x ≡ or_else (found_by old x) (same_package_name x name) id
