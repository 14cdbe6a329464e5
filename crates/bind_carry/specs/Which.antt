-- Which interfaces and worlds of another `Resolve` are copied, and the numbers that all have from now on.
use Rattle.std.specs.Prelude.{◌≡◌, Bool, not, ◌&&◌, List, [], ◌∷◌, length, map, is_none, Option}
use Rattle.wit_model.specs.declared.model.{Interface.Interface, InterfaceId.InterfaceId, Resolve.Resolve, World.World, WorldId.WorldId}
use Rattle.bind_match.specs.Matching.{is_root_world}
use Rattle.bind_match.specs.declared.matches.Matches.{Matches}
use Rattle.bind_carry.specs.{Listed.IsWhole, Marked.mark_worlds, Numbers.interface_number, Numbers.numbers_of, Numbers.package_number, Numbers.world_number}
use Rattle.bind_carry.specs.declared.plan.Carried.{Carried}

-- the worlds whose path no own one has, but for `root:root/root`
abbrev pub new_worlds : Resolve → List (Option WorldId) → List World → List Bool
new_worlds r [] ws = []
new_worlds r (m ∷ ms) [] = []
new_worlds r (m ∷ ms) (w ∷ ws) = (is_none m && not (is_root_world r w)) ∷ new_worlds r ms ws

-- the interfaces with a name whose path no own one has
abbrev pub new_interfaces : List (Option InterfaceId) → List Interface → List Bool
new_interfaces [] is = []
new_interfaces (m ∷ ms) [] = []
new_interfaces (m ∷ ms) (i ∷ is) = (is_none m && not (is_none i.name)) ∷ new_interfaces ms is

-- the table of matches has a place for each package, interface and world of the other
pub record AreMatchedAll (other : Resolve) (m : Matches) : Type 0 where
  pub packages : length m.packages.items ≡ length other.packages.items
  pub interfaces : length m.interfaces.items ≡ length other.interfaces.items
  pub worlds : length m.worlds.items ≡ length other.worlds.items

-- What is carried, by what is matched.
pub record IsNumbered (own other : Resolve) (m : Matches) (c : Carried) : Type 0 where
  pub whole : IsWhole c
  pub new_packages : c.new_packages.items ≡ map is_none m.packages.items
  pub packages : c.packages.items ≡ numbers_of (length own.packages.items) c.new_packages.items (map package_number m.packages.items)
  pub copied_worlds : c.copied_worlds.items ≡ new_worlds other m.worlds.items other.worlds.items
  pub worlds : c.worlds.items ≡ numbers_of (length own.worlds.items) c.copied_worlds.items (map world_number m.worlds.items)
  pub copied_interfaces : c.copied_interfaces.items ≡ mark_worlds other (new_interfaces m.interfaces.items other.interfaces.items) c.copied_worlds.items
      other.worlds.items
  pub interfaces : c.interfaces.items ≡ numbers_of (length own.interfaces.items) c.copied_interfaces.items (map interface_number m.interfaces.items)
  pub interface_count : length c.copied_interfaces.items ≡ length other.interfaces.items
  pub world_count : length c.copied_worlds.items ≡ length other.worlds.items
