-- Worlds by themselves, as text and as packages (WIT.md, "Worlds"; Component Model WIT.md, "Package Format").
use Rattle.std.specs.Prelude.{◌≡◌, ℕ, nat_eq, Bool, false, not, List, Some, filter, map, length}
use Rattle.std.specs.List.{range_with_len}
use Rattle.wit_model.specs.declared.{error.Error.Error, model.PackageId.PackageId, model.Resolve.Resolve, model.World.World}
use Rattle.wit_component.specs.{DecodedWorlds.IsDecodedWorld, DecodedWorlds.RefusesWorldBytes, Packages.MeansPackageAt, Packages.SpellsPackageAt}
use Rattle.wit_component.specs.Order.{FollowsBytes}
use Rattle.wit_model.specs.Lookup.{world_at}
use Rattle.witc_texts.specs.Printed.{IsTextOf}
use Rattle.witc_written.specs.Written.{RefusesWritten}

-- all packages but one, in order
abbrev pub other_packages_than : Resolve → ℕ → List PackageId
other_packages_than r home = filter (λ id. not (nat_eq id.0 home)) (map (λ n. record { 0 = n }) (range_with_len 0 (length r.packages.items)))

-- The bytes mean one world, which is decoded so, in the order in which they show it, and this is the number of its package. It is not always the first.
pub record HasWorld (bytes : List ℕ) (r : Resolve) (home : PackageId) : Type 0 where
  pub decoded : IsDecodedWorld bytes r 0
  pub order : FollowsBytes bytes r
  pub world : World
  pub stands : world_at r 0 ≡ Some world
  pub home_is : world.package ≡ Some home

-- The bytes mean one world, and the text is of its package, with all others nested in it, in order.
pub record PrintsWorld (bytes text : List ℕ) : Type 0 where
  pub resolve : Resolve
  pub home : PackageId
  pub has : HasWorld bytes resolve home
  pub is_text : IsTextOf resolve home (other_packages_than resolve home.0) text

-- The bytes mean one world, and those mean its package.
pub record EncodesWorld (bytes out : List ℕ) : Type 0 where
  pub resolve : Resolve
  pub home : PackageId
  pub has : HasWorld bytes resolve home
  pub means : MeansPackageAt resolve home.0 out
  pub spelled : SpellsPackageAt resolve false home.0 out

-- The bytes mean no one world, or one whose package is refused where it is encoded.
pub data RefusesEncodedWorld (bytes : List ℕ) : Error → Type 0 where
  unread : (e : Error) → RefusesWorldBytes bytes e → RefusesEncodedWorld bytes e
  unwritten : (r : Resolve) (home : PackageId) (e : Error) → HasWorld bytes r home → RefusesWritten r home.0 false e → RefusesEncodedWorld bytes e
