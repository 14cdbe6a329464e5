-- What a union adds to an own `Resolve`: what is carried by path, and behind it what the own bound world gains.
use Rattle.std.specs.Prelude.{ℕ, List, [], length}
use Rattle.wit_model.specs.declared.model.{Resolve.Resolve, TypeDef.TypeDef, World.World, WorldKey.WorldKey}
use Rattle.bind_add.specs.declared.added.Added.{Added}
use Rattle.bind_match.specs.declared.matches.Matches.{Matches}
use Rattle.bind_carry.specs.{Bound.IsBoundOver, BoundGains.AreKeysUnder, Fates.AreCopied, First.first_fates, Over.IsCarriedOver, Which.IsNumbered}
use Rattle.bind_carry.specs.declared.plan.Carried.{Carried}

-- All that is added, in two steps, and the keys of the other's exports.
pub record IsUnionOf (own other : Resolve) (world other_world : ℕ) (m : Matches) (w v : World) (added : Added) (keys : List WorldKey) : Type 0 where
  pub carried : Carried
  pub numbered : IsNumbered own other m carried
  pub types : List ℕ
  pub defs : List TypeDef
  pub types_copied : AreCopied (length own.types.items) types other.types.items (first_fates own other m.interfaces.items carried) [] defs
  pub before : Added
  pub first : IsCarriedOver other carried types defs before
  pub second : IsBoundOver own other world other_world w v carried (first_fates own other m.interfaces.items carried) types before added
  pub keys_are : AreKeysUnder carried.interfaces.items v.exports.entries keys
