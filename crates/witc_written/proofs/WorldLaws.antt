-- Worlds by themselves, their packages, and what these are refused for.
use Rattle.std.proofs.Common.{◌≡◌, ℕ, false, List, sym, subst, ap, Some, Result, Ok, Err, IfOk}
use Rattle.std.specs.Prelude.{◌<◌, IfErr, Vec}
use Rattle.std.specs.declared.alloc.Global.{Global}
use Rattle.wit_model.specs.declared.{error.Error.Error, model.World.World}
use Rattle.wit_model.specs.declared.{error.Error.TheVariants.Memory, error.Error.TheVariants.Size, model.PackageId.PackageId, model.Resolve.Resolve}
use Rattle.wit_model.specs.Lookup.{world_at}
use Rattle.wit_component.specs.DecodedWorlds.{IsDecodedWorld, RefusesWorldBytes}
use Rattle.wit_component.specs.{Order.FollowsBytes, Packages.MeansPackageAt, Packages.RefusesPackageAt, Packages.SpellsPackageAt, Weight.package_weight}
use Rattle.witc_written.specs.Worlds.{EncodesWorld, HasWorld, RefusesEncodedWorld, unwritten}

-- The world that bytes mean, and its package.
pub has-world : (bytes : List ℕ) (r : Resolve) (n : ℕ) (home : PackageId) → IsDecodedWorld bytes r n → FollowsBytes bytes r → ((w : World) → world_at r n ≡ Some w → w.package ≡ Some home)
    → HasWorld bytes r home
has-world bytes r n home d order is = record {
  decoded = subst (λ (k : ℕ). IsDecodedWorld bytes r k) d.first d;
  order = order;
  world = d.world;
  stands = subst (λ (k : ℕ). world_at r k ≡ Some d.world) d.first d.stands;
  home_is = is d.world d.stands;
}

pub no-memory : (bytes : List ℕ) (e : Error) → e ≡ Memory → RefusesWorldBytes bytes e
no-memory bytes e is = subst (RefusesWorldBytes bytes) (sym is) tt

-- what the clauses of `encode` say of the package of a world
module _ (bytes : List ℕ) (r : Resolve) (home : PackageId) (has : HasWorld bytes r home) where
  pub world-encodes : (x : Result (Vec ℕ Global) Error) → IfOk x (λ out. MeansPackageAt r home.0 out.items) → IfOk x (λ out. SpellsPackageAt r false home.0 out.items)
      → IfOk x (λ out. EncodesWorld bytes out.items)
  world-encodes (Ok out) means spells = record { resolve = r; home = home; has = has; means = means; spelled = spells }
  world-encodes (Err e) means spells = tt

  pub world-refuses : (x : Result (Vec ℕ Global) Error) → IfErr x (RefusesPackageAt r home.0 false) → (x ≡ Err Size → 4294967295 < package_weight r home.0) → IfErr x (RefusesEncodedWorld bytes)
  world-refuses (Ok out) refused size = tt
  world-refuses (Err e) refused size = unwritten r home e has (refused, λ is. size (ap Err is))
