-- What a union adds, where the interfaces and types that are carried aren't in their places yet.
use Rattle.std.specs.Prelude.{◌≡◌, ℕ, length}
use Rattle.wit_model.specs.declared.model.{Resolve.Resolve, World.World}
use Rattle.bind_add.specs.declared.added.Added.{Added}
use Rattle.bind_match.specs.declared.matches.Matches.{Matches}
use Rattle.bind_carry.specs.{Bound.IsBoundOver, BoundGains.AreKeysUnder, Fates.numbers_by, First.first_fates, Over.IsPlacedOver, TooLong.copies_of, OfBound.OfWorlds, Which.IsNumbered}
use Rattle.bind_carry.specs.declared.plan.Planned.{Planned}

-- All else is as a union adds it, behind so many places for interfaces and types.
pub record IsPlanned (own other : Resolve) (world other_world : ℕ) (m : Matches) (w v : World) (p : Planned) : Type 0 where
  pub numbered : IsNumbered own other m p.carried
  pub fates_are : p.fates.items ≡ first_fates own other m.interfaces.items p.carried
  pub types_are : p.types.items ≡ numbers_by (length own.types.items) (first_fates own other m.interfaces.items p.carried)
  pub before : Added
  pub first : IsPlacedOver other p.carried p.types.items (copies_of (first_fates own other m.interfaces.items p.carried)) before
  pub second : IsBoundOver own other world other_world w v p.carried (first_fates own other m.interfaces.items p.carried) p.types.items before p.added
  pub keys_are : AreKeysUnder p.carried.interfaces.items v.exports.entries p.keys.keys

-- So it is for the worlds of these numbers.
abbrev pub IsPlannedWith : Resolve → Resolve → ℕ → ℕ → Matches → Planned → Type 0
IsPlannedWith own other world other_world m p = OfWorlds own other world other_world (λ w v. IsPlanned own other world other_world m w v p)
