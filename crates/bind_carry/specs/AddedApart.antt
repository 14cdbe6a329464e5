-- What a union adds stands under keys that weren't there.
use Rattle.std.specs.Prelude.{◌≡◌, ℕ, List, map, Some}
use Rattle.wit_model.specs.declared.model.{Resolve.Resolve, World.World, WorldKey.WorldKey}
use Rattle.wit_model.specs.{Lookup.world_at, Valid.IsValid}
use Rattle.bind_add.specs.declared.added.Added.{Added}
use Rattle.bind_match.specs.Matching.{own_interface_of, own_package_of, own_world_of}
use Rattle.bind_match.specs.declared.matches.Matches.{Matches}
use Rattle.bind_carry.specs.{Apart.IsApart, MatchedSame.AreMatchedAt, MatchedSame.NoneOfPath, Union.IsUnionOf}

-- the table of matches has of each package, interface and world of the other the own one of its name, or path
pub record AreMatchedByName (own other : Resolve) (m : Matches) : Type 0 where
  pub packages : m.packages.items ≡ map (own_package_of own.packages.items) other.packages.items
  pub interfaces : m.interfaces.items ≡ map (own_interface_of own m.packages.items) other.interfaces.items
  pub worlds : m.worlds.items ≡ map (own_world_of own m.packages.items) other.worlds.items

-- Names in own packages, imports and exports are new, where what is matched has one name, or one path and one sense.
abbrev pub UnionsAreApart : Type 0
UnionsAreApart = (own other : Resolve) (world other_world : ℕ) (m : Matches) (w v : World) (added : Added) (keys : List WorldKey)
    (u : IsUnionOf own other world other_world m w v added keys) →
    IsValid own → IsValid other → world_at own world ≡ Some w → world_at other other_world ≡ Some v → AreMatchedByName own other m →
    AreMatchedAt own other m.interfaces.items u.carried.packages.items → NoneOfPath own other m.interfaces.items → IsApart added own world
