-- What a union adds, once it is added, is merged.
use Rattle.std.specs.Prelude.{◌≡◌, ℕ, false, List, map, Some}
use Rattle.wit_model.specs.declared.model.{Interface.Interface, Resolve.Resolve, World.World, WorldKey.WorldKey}
use Rattle.wit_model.specs.{Text.Text, Lookup.interface_at, Lookup.path_of_interface, Lookup.path_of_world, Lookup.world_at, Valid.key_eq, Valid.IsValid}
use Rattle.bind_add.specs.Growth.{IsAdded}
use Rattle.bind_add.specs.declared.added.Added.{Added}
use Rattle.bind_match.specs.Matching.{is_root_world, own_interface_of, own_package_of, own_world_of}
use Rattle.bind_match.specs.declared.matches.Matches.{Matches}
use Rattle.bind_union.specs.Merged.{IsMerged}
use Rattle.bind_carry.specs.{Few.AreFew, First.first_fates, Renumbered.first_of, Union.IsUnionOf, MatchedSame.AreMatchedAt, MatchedSame.NoneOfPath, SecondPass.is_left_out, SecondPass.second_pass_of, SecondPass.DoNotClash}

-- no interface of the other stands at the path of an own world
abbrev pub NoOwnWorldAtPath : Resolve → Resolve → Type 0
NoOwnWorldAtPath own other = (n : ℕ) (i : Interface) (k : ℕ) (x : World) (path : Text) → interface_at other n ≡ Some i → path_of_interface other i ≡ Some path
    → world_at own k ≡ Some x → path_of_world own x ≡ Some path → ⊥

-- no own interface stands at the path of a world of the other, its world `root:root/root` aside
abbrev pub NoOwnInterfaceAtPath : Resolve → Resolve → Type 0
NoOwnInterfaceAtPath own other =
    (n : ℕ) (i : Interface) (k : ℕ) (x : World) (path : Text) → interface_at own n ≡ Some i → path_of_interface own i ≡ Some path → world_at other k ≡ Some x
    → is_root_world other x ≡ false → path_of_world other x ≡ Some path → ⊥

-- What a union adds, once it is added, is the other merged into the own one, all but its world `root:root/root`. This is so where what is
-- matched has one name, or one path and one sense, and the bound worlds don't clash. It also needs that no path is of an interface and of a
-- world, and that no list gets too long.
abbrev pub UnionsAreMerged : Type 0
UnionsAreMerged = (own other merged : Resolve) (world other_world : ℕ) (m : Matches) (w v : World) (added : Added) (keys : List WorldKey)
    (u : IsUnionOf own other world other_world m w v added keys) → IsValid own → IsValid other →
    IsAdded key_eq world added own merged → AreFew own added → world_at own world ≡ Some w → world_at other other_world ≡ Some v →
    m.packages.items ≡ map (own_package_of own.packages.items) other.packages.items →
    m.interfaces.items ≡ map (own_interface_of own m.packages.items) other.interfaces.items →
    m.worlds.items ≡ map (own_world_of own m.packages.items) other.worlds.items →
    AreMatchedAt own other m.interfaces.items u.carried.packages.items → NoneOfPath own other m.interfaces.items →
    DoNotClash own other w v → NoOwnWorldAtPath own other → NoOwnInterfaceAtPath own other →
    IsMerged own other merged world other_world (first_of m.interfaces.items u.carried (first_fates own other m.interfaces.items u.carried) u.types)
    (second_pass_of own other m u.carried world other_world w v u.second.copied u.second.interfaces u.types u.second.types) (is_left_out other)
