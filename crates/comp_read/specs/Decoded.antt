-- What is decoded of bytes (Component Model WIT.md, "Package Format"; Binary.md, "Component Definitions").
use Rattle.std.specs.Prelude.{◌≡◌, ◌≤◌, ◌↔◌, ℕ, ◌-◌, List, length, Option, Some}
use Rattle.wit_model.specs.declared.{error.Error.Error, model.Package.Package, model.Resolve.Resolve}
use Rattle.wit_model.specs.{Lookup.package_at, Meaning.PackageMeaning, Meant.Meant, Valid.IsValid}
use Rattle.comp_meaning.specs.Reads.{Reads}
use Rattle.read_follow.specs.declared.refusal.Refusal.{Refusal}
use Rattle.plan_meaning.specs.{Built.IsBare, NothingElse.HoldsPackageAlone}
use Rattle.comp_read.specs.Order.{OthersListByNumber}
use Rattle.wit_model.specs.declared.error.Error.TheVariants as errors
use Rattle.read_follow.specs.declared.refusal.Refusal.TheVariants as refusals

-- The `Resolve` is valid, without documentation and with no stability known; its package of this number means just what was found, and nothing stands
-- there beyond that. Each other package lists its interfaces in the order of their numbers.
pub record HoldsFound (found : Option PackageMeaning) (r : Resolve) (n : ℕ) : Type 0 where
  pub valid : IsValid r
  pub bare : IsBare r
  pub package_ : Package
  pub stands : package_at r n ≡ Some package_
  pub alone : HoldsPackageAlone r n package_
  pub listed : OthersListByNumber r n
  pub meaning : PackageMeaning
  pub is : found ≡ Some meaning
  pub meant : (m : PackageMeaning) → Meant r n m ↔ (found ≡ Some m)

-- The bytes mean a package, and the `Resolve` is valid, without documentation and with no stability known. Its package of this number means
-- just what the bytes do, and nothing stands in the `Resolve` beyond that. Each other package lists its interfaces in the order of their
-- numbers, and there are no more types than bytes.
pub record IsDecoded (bytes : List ℕ) (r : Resolve) (n : ℕ) : Type 0 where
  pub valid : IsValid r
  pub bare : IsBare r
  pub package_ : Package
  pub stands : package_at r n ≡ Some package_
  pub alone : HoldsPackageAlone r n package_
  pub listed : OthersListByNumber r n
  pub meaning : PackageMeaning
  pub read : Reads bytes meaning
  pub meant : (m : PackageMeaning) → Meant r n m ↔ Reads bytes m
  pub few : length r.types.items ≤ length bytes

-- The bytes mean no package.
abbrev pub MeansNothing : List ℕ → Type 0
MeansNothing bytes = (m : PackageMeaning) → Reads bytes m → ⊥

-- Bytes that mean no package are refused with an offset among them, and all others with `Memory` alone.
abbrev pub RefusesBytes : List ℕ → Error → Type 0
RefusesBytes bytes (errors.NoReading cause offset) = (offset ≤ length bytes) × MeansNothing bytes
RefusesBytes bytes errors.Memory = Unit {0}
RefusesBytes bytes _ = ⊥

-- the error of a refusal, for an input of this length
abbrev pub error_from : Refusal → ℕ → Error
error_from refusals.Memory many = errors.Memory
error_from (refusals.Absent cause left) many = errors.NoReading cause (many - left)
