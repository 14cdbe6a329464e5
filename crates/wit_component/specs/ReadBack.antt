-- What is decoded of the bytes of a package (Component Model WIT.md, "Package Format").
use Rattle.std.specs.Prelude.{◌≡◌, ◌↔◌, ℕ, false, List, Some}
use Rattle.wit_model.specs.declared.{error.Error.Error, model.Package.Package, model.Resolve.Resolve}
use Rattle.wit_model.specs.{Lookup.package_at, Meaning.PackageMeaning, Meant.Meant, Valid.IsValid}
use Rattle.comp_meaning.specs.Reads.{Reads}
use Rattle.plan_meaning.specs.{Built.IsBare, NothingElse.HoldsPackageAlone}
use Rattle.comp_read.specs.{Decoded.IsDecoded, Decoded.RefusesBytes, Order.FollowsBytes}
use Rattle.wit_encode.specs.Packages.{HasMembers, HasNoMembers, MeansPackage, SpellsPackageAt}
use Rattle.wit_model.specs.declared.error.Error.TheVariants as errors

-- Package n of r has a meaning, and package k of s has the same and no other.
pub record MeansTheSame (r : Resolve) (n : ℕ) (s : Resolve) (k : ℕ) : Type 0 where
  pub meaning : PackageMeaning
  pub meant : Meant r n meaning
  pub same : (m : PackageMeaning) → Meant r n m ↔ Meant s k m

-- The second `Resolve` is valid, without documentation and with no stability known; its package k means what package n of the first does, and
-- nothing stands there beyond that.
pub record IsReadBack (r : Resolve) (n : ℕ) (s : Resolve) (k : ℕ) : Type 0 where
  pub valid : IsValid s
  pub bare : IsBare s
  pub package_ : Package
  pub stands : package_at s k ≡ Some package_
  pub alone : HoldsPackageAlone s k package_
  pub means : MeansTheSame r n s k

-- The second `Resolve` is what is decoded of the bytes of package n as it is encoded, in the order in which they show it; k is its package.
pub record IsReadOf (r : Resolve) (n : ℕ) (s : Resolve) (k : ℕ) : Type 0 where
  pub bytes : List ℕ
  pub spelled : SpellsPackageAt r false n bytes
  pub decoded : IsDecoded bytes s k
  pub order : FollowsBytes bytes s

-- What is decoded of bytes that mean exactly what a package does is that package, read back.
abbrev pub DecodingGivesThatMeaning : Type 0
DecodingGivesThatMeaning = (r : Resolve) (n : ℕ) (p : Package) (bytes : List ℕ) → package_at r n ≡ Some p → MeansPackage r n bytes
    → (s : Resolve) (k : ℕ) → IsDecoded bytes s k → IsReadBack r n s k

-- Such bytes are refused for want of memory alone.
abbrev pub MemoryAloneIsRefused : Type 0
MemoryAloneIsRefused = (r : Resolve) (n : ℕ) (p : Package) (bytes : List ℕ) → package_at r n ≡ Some p → MeansPackage r n bytes
    → (e : Error) → RefusesBytes bytes e → e ≡ errors.Memory

-- What a package is refused for where it is encoded and decoded: want of memory, what doesn't fit in 32 bits, or that it has neither interface nor world,
-- and so no bytes that mean it.
abbrev pub RefusesReadBack : Package → Error → Type 0
RefusesReadBack p errors.Memory = Unit {0}
RefusesReadBack p errors.Size = Unit {0}
RefusesReadBack p (errors.NoReading cause offset) = HasNoMembers p
RefusesReadBack p _ = ⊥

-- Where bytes are decoded to a package, and that one is encoded again, both mean the same.
abbrev pub EncodingKeepsMeaning : Type 0
EncodingKeepsMeaning = (bytes again : List ℕ) (s : Resolve) (k : ℕ) → IsDecoded bytes s k → MeansPackage s k again
    → (m : PackageMeaning) → Reads bytes m ↔ Reads again m

-- A package that was decoded has an interface or a world.
abbrev pub DecodedHaveMembers : Type 0
DecodedHaveMembers = (bytes : List ℕ) (s : Resolve) (k : ℕ) (p : Package) → IsDecoded bytes s k → package_at s k ≡ Some p → HasMembers p
