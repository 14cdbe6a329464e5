-- No map of what was merged has a key twice.
use Rattle.std.specs.Prelude.{◌≡◌, ℕ, List, Some}
use Rattle.wit_model.specs.declared.model.{Resolve.Resolve, World.World, WorldKey.WorldKey}
use Rattle.wit_model.specs.{Lookup.world_at, Valid.key_eq, Valid.HasDistinctKeys, Valid.IsValid}
use Rattle.bind_add.specs.Growth.{IsAdded}
use Rattle.bind_add.specs.declared.added.Added.{Added}
use Rattle.bind_match.specs.declared.matches.Matches.{Matches}
use Rattle.bind_carry.specs.{MatchedSame.AreMatchedAt, MatchedSame.NoneOfPath, Union.IsUnionOf, Which.AreMatchedAll}

-- So it is once what a union adds is added, where what is matched has one path and one sense.
abbrev pub UnionsHaveDistinctKeys : Type 0
UnionsHaveDistinctKeys = (own other merged : Resolve) (world other_world : ℕ) (m : Matches) (w v : World) (added : Added) (keys : List WorldKey)
    (u : IsUnionOf own other world other_world m w v added keys) →
    IsValid own → IsValid other → IsAdded key_eq world added own merged → world_at own world ≡ Some w → world_at other other_world ≡ Some v
    → AreMatchedAll other m →
    AreMatchedAt own other m.interfaces.items u.carried.packages.items → NoneOfPath own other m.interfaces.items → HasDistinctKeys merged
