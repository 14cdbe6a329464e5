-- Words for what is said of the two bound worlds, the own one and the one whose items it gains.
use Rattle.std.specs.Prelude.{◌≡◌, ◌+◌, ◌<◌, ◌≤◌, ℕ, Bool, List, length, Some}
use Rattle.wit_model.specs.Lookup.{world_at}
use Rattle.wit_model.specs.declared.model.{Resolve.Resolve, TypeDef.TypeDef, World.World, WorldItem.WorldItem, WorldKey.WorldKey}
use Rattle.bind_add.specs.declared.added.Added.{Added}
use Rattle.bind_copy.specs.Copies.{AreNewCopied}
use Rattle.bind_match.specs.declared.matches.Matches.{Matches}
use Rattle.bind_carry.specs.{Bound.IsBoundOver, BoundGains.bound_fates, Fates.AreCopied, TooLong.copies_of, TooLong.AreTooManyGained, TooLong.IsTooLong, Few.AreFew, Union.IsUnionOf}
use Rattle.bind_carry.specs.declared.{bound.Bound.Bound, bound.First.First, fate.Fate.Fate}

-- it is so of the worlds of these numbers
abbrev pub OfWorlds : Resolve → Resolve → ℕ → ℕ → (World → World → Type 0) → Type 0
OfWorlds own other world other_world IsSo = (w v : World) → world_at own world ≡ Some w → world_at other other_world ≡ Some v → IsSo w v

-- and of these two bound worlds
abbrev pub OfBound : Bound → (World → World → Type 0) → Type 0
OfBound b IsSo = OfWorlds b.own.now b.other.now b.world.0 b.other_world.0 IsSo

-- ---- types

-- what becomes of types in what the bound world gains, by what became of them before
abbrev pub fates_in_bound : Bound → First → List Bool → List ℕ → World → World → List Fate
fates_in_bound b first copied interfaces w v = bound_fates b.other.now b.world.0 b.other_world.0 w v copied interfaces first.fates.now first.types.now

abbrev pub AreTypesBound : Bound → First → List Bool → List ℕ → List ℕ → List TypeDef → List TypeDef → Type 0
AreTypesBound b first copied interfaces numbers old new =
    OfBound b (λ w v. AreCopied (length b.own.now.types.items) numbers b.other.now.types.items (fates_in_bound b first copied interfaces w v) old new)

-- their list would get too long behind so many that were added before
abbrev pub AreTooManyTypes : Bound → First → List Bool → List ℕ → ℕ → Type 0
AreTooManyTypes b first copied interfaces before = OfBound b
    (λ w v. 4294967295 < (length b.own.now.types.items + before) + copies_of (fates_in_bound b first copied interfaces w v))

-- ---- items

abbrev pub AreImportsBound : Bound → List ℕ → List ℕ → List (WorldKey × WorldItem) → Type 0
AreImportsBound b interfaces types new = OfBound b (λ w v. AreNewCopied interfaces types w.imports.entries v.imports.entries new)

abbrev pub AreExportsBound : Bound → List ℕ → List ℕ → List (WorldKey × WorldItem) → Type 0
AreExportsBound b interfaces types new = OfBound b (λ w v. AreNewCopied interfaces types w.exports.entries v.exports.entries new)

-- ---- all that the bound world gains

abbrev pub IsAllBound : Bound → First → Added → Added → Type 0
IsAllBound b first old new = OfBound b (λ w v. IsBoundOver b.own.now b.other.now b.world.0 b.other_world.0 w v first.carried.now first.fates.now
    first.types.now old new)

-- the lists are as short as they may be, if those of packages and worlds were before
abbrev pub StaysFew : Resolve → Added → Added → Type 0
StaysFew own old new = length own.packages.items + length old.packages.items ≤ 4294967295 → length own.worlds.items + length old.worlds.items ≤ 4294967295
    → AreFew own new

abbrev pub IsTooMuchBound : Bound → First → Added → Type 0
IsTooMuchBound b first old =
    OfBound b (λ w v. AreTooManyGained b.own.now b.other.now b.world.0 b.other_world.0 w v first.carried.now first.fates.now first.types.now
    (length old.interfaces.items) (length old.types.items))

-- ---- the whole union

abbrev pub IsUnionWith : Resolve → Resolve → ℕ → ℕ → Matches → Added → List WorldKey → Type 0
IsUnionWith own other world other_world m added keys = OfWorlds own other world other_world (λ w v. IsUnionOf own other world other_world m w v added keys)

abbrev pub IsTooLongWith : Resolve → Resolve → ℕ → ℕ → Matches → Type 0
IsTooLongWith own other world other_world m = OfWorlds own other world other_world (IsTooLong own other world other_world m)
