-- What is decoded of bytes as one world (WIT.md, "Worlds"; Component Model WIT.md, "Package Format").
use Rattle.std.specs.Prelude.{◌≡◌, ◌≤◌, ◌↔◌, ℕ, List, length, Option, Some, option_map}
use Rattle.wit_model.specs.declared.{error.Error.Error, model.Resolve.Resolve, model.World.World}
use Rattle.wit_model.specs.{Lookup.world_at, Meaning.WorldPackage, Meant.MeantWorld, Valid.IsValid}
use Rattle.comp_meaning.specs.Reads.{ReadsWorld}
use Rattle.plan_meaning.specs.{Built.IsBare, NothingElse.HoldsWorldAlone}
use Rattle.comp_read.specs.Order.{ListByNumber}
use Rattle.wit_model.specs.declared.error.Error.TheVariants as errors

-- the number of the package of a world
abbrev pub package_of : World → Option ℕ
package_of w = option_map (λ id. id.0) w.package

-- The `Resolve` is valid, without documentation and with no stability known; its world of number 0, in the package of this number, means just what was
-- found, and nothing stands there beyond that. Each package lists its interfaces in the order of their numbers.
pub record HoldsWorldFound (found : Option WorldPackage) (r : Resolve) (n : ℕ) : Type 0 where
  pub valid : IsValid r
  pub bare : IsBare r
  pub world : World
  pub stands : world_at r 0 ≡ Some world
  pub home : package_of world ≡ Some n
  pub alone : HoldsWorldAlone r n world
  pub listed : ListByNumber r
  pub meaning : WorldPackage
  pub is : found ≡ Some meaning
  pub meant : (m : WorldPackage) → MeantWorld r 0 m ↔ (found ≡ Some m)

-- The bytes mean one world, and the `Resolve` is valid, without documentation and with no stability known. Its world of this number, which
-- is 0, means just what the bytes do, and nothing stands in the `Resolve` beyond that. Each package lists its interfaces in the order of
-- their numbers, and there are no more types than bytes.
pub record IsDecodedWorld (bytes : List ℕ) (r : Resolve) (n : ℕ) : Type 0 where
  pub first : n ≡ 0
  pub valid : IsValid r
  pub bare : IsBare r
  pub world : World
  pub stands : world_at r n ≡ Some world
  pub package_ : ℕ
  pub home : package_of world ≡ Some package_
  pub alone : HoldsWorldAlone r package_ world
  pub listed : ListByNumber r
  pub meaning : WorldPackage
  pub read : ReadsWorld bytes meaning
  pub meant : (m : WorldPackage) → MeantWorld r n m ↔ ReadsWorld bytes m
  pub few : length r.types.items ≤ length bytes

-- The bytes mean no world by itself.
abbrev pub MeansNoWorld : List ℕ → Type 0
MeansNoWorld bytes = (m : WorldPackage) → ReadsWorld bytes m → ⊥

-- Bytes that mean no world by itself are refused with an offset among them, and all others with `Memory` alone.
abbrev pub RefusesWorldBytes : List ℕ → Error → Type 0
RefusesWorldBytes bytes (errors.NoReading cause offset) = (offset ≤ length bytes) × MeansNoWorld bytes
RefusesWorldBytes bytes errors.Memory = Unit {0}
RefusesWorldBytes bytes _ = ⊥
