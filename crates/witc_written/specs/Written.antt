-- What bytes are written of what bytes (Component Model WIT.md, "Package Format").
use Rattle.std.specs.Prelude.{◌≡◌, ◌<◌, ◌↔◌, ℕ, Bool, true, false, List, []}
use Rattle.wit_model.specs.declared.{error.Error.Error, error.Error.TheVariants.Size, model.PackageId.PackageId, model.Resolve.Resolve}
use Rattle.wit_component.specs.{Bindings.IsBindgen, Bindings.binding_of, Decoded.IsDecoded, Decoded.RefusesBytes, Reached.IsReached, Reached.OutgrowsLists}
use Rattle.wit_component.specs.{Bound.IsBound, Bound.RefusesBindings, Meaning.PackageMeaning, Order.FollowsBytes, Reads.Reads, Weight.package_weight}
use Rattle.wit_component.specs.{BoundTo.BeginsWithRoot, Packages.HasNoClashesAt, Packages.MeansPackageAt, Packages.RefusesPackageAt, Packages.SpellsPackageAt}
use Rattle.wit_bind.specs.declared.bindgen.Bindgen.{Bindgen}

-- What encoding a package of a `Resolve` is refused for, for size only where it weighs too much.
abbrev pub RefusesWritten : Resolve → ℕ → Bool → Error → Type 0
RefusesWritten r n canonical e = RefusesPackageAt r n canonical e × (e ≡ Size → 4294967295 < package_weight r n)

-- The bytes mean a package, and those mean the same: they are that package, in the order in which the bytes show it, as it is encoded, with canonical names or
-- without. Where names are canonical, no
-- two of one component type are equal.
pub record EncodesPackage (bytes : List ℕ) (canonical : Bool) (out : List ℕ) : Type 0 where
  pub resolve : Resolve
  pub id : PackageId
  pub decoded : IsDecoded bytes resolve id.0
  pub order : FollowsBytes bytes resolve
  pub same : (m : PackageMeaning) → Reads bytes m ↔ Reads out m
  pub spelled : SpellsPackageAt resolve canonical id.0 out
  pub differ : canonical ≡ true → HasNoClashesAt resolve id.0

-- The bytes mean no package, or one that is refused where it is encoded.
pub data RefusesEncoded (bytes : List ℕ) (canonical : Bool) : Error → Type 0 where
  unread : (e : Error) → RefusesBytes bytes e → RefusesEncoded bytes canonical e
  unwritten : (r : Resolve) (n : ℕ) (e : Error) → IsDecoded bytes r n → FollowsBytes bytes r → RefusesWritten r n canonical e → RefusesEncoded bytes canonical e

-- The bytes are a module, and those mean what it binds, as the package `root:root`.
pub record EncodesModule (bytes out : List ℕ) : Type 0 where
  pub bound : Bindgen
  pub binds : IsBound bytes (binding_of bound)
  pub valid : IsBindgen bound
  pub root : BeginsWithRoot bound.resolve
  pub reached : IsReached bytes bound []
  pub means : MeansPackageAt bound.resolve 0 out
  pub spelled : SpellsPackageAt bound.resolve false 0 out

-- The module, or its bindings, are refused, for size only where a list would get too long; or what it binds is refused where it is encoded.
pub data RefusesEncodedModule (bytes : List ℕ) : Error → Type 0 where
  unbound : (e : Error) → RefusesBindings bytes e → (e ≡ Size → OutgrowsLists bytes) → RefusesEncodedModule bytes e
  unwritten : (b : Bindgen) (e : Error) → IsBound bytes (binding_of b) → IsReached bytes b [] → RefusesWritten b.resolve 0 false e
      → RefusesEncodedModule bytes e
