-- Laws over the definitions of meaning: a byte string means one package, and one world, at most.
use Rattle.std.specs.Prelude.{◌≡◌, ℕ, List, Some, ◌↔◌}
use Rattle.wit_model.specs.Meaning.{PackageMeaning, WorldPackage}
use Rattle.comp_bytes.specs.Reading.{component_of, ◌>>=◌}
use Rattle.comp_meaning.specs.Reads.{Reads, ReadsWorld, package_of_sections, world_of_sections}

-- Bytes mean one package at most.
abbrev pub OneMeaning : Type 0
OneMeaning = (bytes : List ℕ) (m n : PackageMeaning) → Reads bytes m → Reads bytes n → m ≡ n

-- Bytes mean one world at most.
abbrev pub OneWorld : Type 0
OneWorld = (bytes : List ℕ) (m n : WorldPackage) → ReadsWorld bytes m → ReadsWorld bytes n → m ≡ n

-- What bytes mean as a package is what reading them gives.
abbrev pub MeaningIsRead : Type 0
MeaningIsRead = (bytes : List ℕ) (m : PackageMeaning) → Reads bytes m ↔ ((component_of bytes >>= package_of_sections) ≡ Some m)

-- What bytes mean as one world is what reading them gives.
abbrev pub WorldIsRead : Type 0
WorldIsRead = (bytes : List ℕ) (m : WorldPackage) → ReadsWorld bytes m ↔ ((component_of bytes >>= world_of_sections) ≡ Some m)
