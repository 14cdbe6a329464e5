-- Worlds of a package by their names, compared.
use Rattle.std.specs.Prelude.{◌≡◌, ℕ, List, Some, None}
use Rattle.wit_model.specs.declared.{error.Error.Error, error.Error.TheVariants.Memory, model.Resolve.Resolve, model.World.World}
use Rattle.wit_component.specs.{Compatible.Accepts, Compatible.IsRefused, Decoded.IsDecoded, Decoded.RefusesBytes, Order.FollowsBytes}
use Rattle.witc_texts.specs.Named.{world_named}
use Rattle.witc_texts.specs.declared.comparison.Compared.{Compared}
use Rattle.witc_texts.specs.declared.comparison.Compared.TheVariants as compared

-- What comes of two names. The first is looked for first.
pub data ComparesTo (r : Resolve) (n : ℕ) (prev new : List ℕ) : Compared → Type 0 where
  compatible : (p q : World) → world_named r n prev ≡ Some p → world_named r n new ≡ Some q → Accepts r p q → ComparesTo r n prev new compared.Compatible
  no_prev : world_named r n prev ≡ None → ComparesTo r n prev new compared.NoPrev
  no_new : (p : World) → world_named r n prev ≡ Some p → world_named r n new ≡ None → ComparesTo r n prev new compared.NoNew

-- Why nothing comes of them: memory ran out, or both are there, and the first thing that stands in the way of the second world.
pub data RefusesNames (r : Resolve) (n : ℕ) (prev new : List ℕ) : Error → Type 0 where
  memory : RefusesNames r n prev new Memory
  refused : (p q : World) (e : Error) → world_named r n prev ≡ Some p → world_named r n new ≡ Some q → IsRefused r p q e → RefusesNames r n prev new e

-- The bytes mean a package, and this comes of the names in it.
pub record ComparesBytes (bytes prev new : List ℕ) (c : Compared) : Type 0 where
  pub resolve : Resolve
  pub number : ℕ
  pub decoded : IsDecoded bytes resolve number
  pub compares : ComparesTo resolve number prev new c

-- The bytes are refused, or they mean a package, in the order in which they show it, whose worlds of these names are.
pub data RefusesCompared (bytes prev new : List ℕ) : Error → Type 0 where
  undecoded : (e : Error) → RefusesBytes bytes e → RefusesCompared bytes prev new e
  names : (r : Resolve) (n : ℕ) (e : Error) → IsDecoded bytes r n → FollowsBytes bytes r → RefusesNames r n prev new e → RefusesCompared bytes prev new e
