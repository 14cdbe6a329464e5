-- Packages encoded anew.
use Rattle.std.proofs.Common.{rules as std_rules, ◌≡◌, ℕ, Bool, false, true, List, [], ap, Result, Ok, Err, IfOk}
use Rattle.std.specs.Prelude.{◌<◌, IfErr, OnOk, Vec}
use Rattle.std.specs.declared.alloc.Global.{Global}
use Rattle.wit_model.specs.declared.{error.Error.Error, error.Error.TheVariants.Size, model.PackageId.PackageId, model.Resolve.Resolve}
use Rattle.wit_component.specs.{Decoded.IsDecoded, Order.FollowsBytes, Reached.IsReached, Bound.IsBound}
use Rattle.wit_component.specs.{Packages.HasNoClashesAt, Packages.MeansPackageAt, Packages.RefusesPackageAt, Packages.SpellsPackageAt, BoundTo.BeginsWithRoot}
use Rattle.wit_component.specs.{ReadBack.DecodedHaveMembers, ReadBack.EncodingKeepsMeaning, Weight.package_weight, Bindings.IsBindgen, Bindings.binding_of}
use Rattle.wit_bind.specs.declared.bindgen.Bindgen.{Bindgen}
use Rattle.witc_written.specs.Written.{EncodesModule, EncodesPackage, RefusesEncoded, RefusesEncodedModule}

-- what the clauses of `encode` say of a package that was decoded
pub encodes : EncodingKeepsMeaning → DecodedHaveMembers → (bytes : List ℕ) (r : Resolve) (id : PackageId) (canonical : Bool) → IsDecoded bytes r id.0 → FollowsBytes bytes r
    → (x : Result (Vec ℕ Global) Error) → IfOk x (λ out. MeansPackageAt r id.0 out.items) → IfOk x (λ out. SpellsPackageAt r canonical id.0 out.items)
    → (canonical ≡ true → OnOk x (HasNoClashesAt r id.0)) → IfOk x (λ out. EncodesPackage bytes canonical out.items)
encodes keeps members bytes r id canonical decoded order (Ok out) means spells differ = search std_rules
encodes keeps members bytes r id canonical decoded order (Err e) means spells differ = tt

-- and what they say of its refusal
pub refuses : (bytes : List ℕ) (r : Resolve) (n : ℕ) (canonical : Bool) → IsDecoded bytes r n → FollowsBytes bytes r → (x : Result (Vec ℕ Global) Error)
    → IfErr x (RefusesPackageAt r n canonical) → (x ≡ Err Size → 4294967295 < package_weight r n) → IfErr x (RefusesEncoded bytes canonical)
refuses bytes r n canonical decoded order (Ok out) refused size = tt
refuses bytes r n canonical decoded order (Err e) refused size = RefusesEncoded.unwritten r n e decoded order (refused, λ is. size (ap Err is))

-- the same of what a module binds
module _ (bytes : List ℕ) (b : Bindgen) (binds : IsBound bytes (binding_of b)) (reached : IsReached bytes b []) where
  pub module-encodes : IsBindgen b → BeginsWithRoot b.resolve → (x : Result (Vec ℕ Global) Error) → IfOk x (λ out. MeansPackageAt b.resolve 0 out.items)
      → IfOk x (λ out. SpellsPackageAt b.resolve false 0 out.items) → IfOk x (λ out. EncodesModule bytes out.items)
  module-encodes valid root (Ok out) means spells = record { bound = b; binds = binds; valid = valid; root = root; reached = reached; means = means; spelled = spells }
  module-encodes valid root (Err e) means spells = tt

  pub module-refuses : (x : Result (Vec ℕ Global) Error) → IfErr x (RefusesPackageAt b.resolve 0 false) → (x ≡ Err Size → 4294967295 < package_weight b.resolve 0)
      → IfErr x (RefusesEncodedModule bytes)
  module-refuses (Ok out) refused size = tt
  module-refuses (Err e) refused size = RefusesEncodedModule.unwritten b e binds reached (refused, λ is. size (ap Err is))
