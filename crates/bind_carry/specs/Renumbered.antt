-- The new numbers of what is carried by path, and of what the bound world gains.
use Rattle.std.specs.Prelude.{ℕ, Bool, false, ◌&&◌, ◌||◌, ◌==◌, List, [], ◌∷◌, Option, None, is_some, option_and_then, slice_get, unwrap_or, if◌then◌else◌}
use Rattle.std.specs.{Map.lookup, Option.option_map_or}
use Rattle.wit_model.specs.declared.model.{InterfaceId.InterfaceId, Resolve.Resolve, WorldItem.WorldItem, WorldKey.WorldKey}
use Rattle.wit_model.specs.{Rules.is_id, Uses.item_interface, Valid.key_eq}
use Rattle.bind_union.specs.Carried.{Renumbering}
use Rattle.bind_copy.specs.Copies.{number_under}
use Rattle.bind_carry.specs.{Fates.copies, Fates.is_carried, First.flag_under, First.is_named_at, Listed.given_interface}
use Rattle.bind_carry.specs.declared.{fate.Fate.Fate, plan.Carried.Carried}

-- whether the type of this number is copied
abbrev pub is_copied : List Fate → ℕ → Bool
is_copied fates n = option_map_or copies (slice_get fates n) false

-- whether an own interface has the path of this one
abbrev pub is_matched : List (Option InterfaceId) → ℕ → Bool
is_matched matched n = is_some (given_interface (slice_get matched n))

-- What is carried by path: interfaces that are copied or have an own one of their path, worlds that are copied, and types by their fates.
abbrev pub first_of : List (Option InterfaceId) → Carried → List Fate → List ℕ → Renumbering
first_of matched c fates types = record {
  packages = number_under c.packages.items;
  interfaces = number_under c.interfaces.items;
  worlds = number_under c.worlds.items;
  types = number_under types;
  carries_interface = λ n. flag_under c.copied_interfaces.items n || is_matched matched n;
  carries_world = flag_under c.copied_worlds.items;
  carries_type = is_carried fates;
  copies_interface = flag_under c.copied_interfaces.items;
  copies_type = is_copied fates;
}

-- the own interface under the label under which some import of the other world is this one
abbrev pub met_under : List (WorldKey × WorldItem) → List (WorldKey × WorldItem) → ℕ → Option ℕ
met_under here [] n = None
met_under here (e ∷ es) n = if is_id n (item_interface e.1) then option_and_then item_interface (lookup (key_eq e.0) here) else met_under here es n

-- the number of an interface in what the bound world gains: an inline one that isn't copied is the own one of its key
abbrev pub second_interface : Resolve → List (WorldKey × WorldItem) → List (WorldKey × WorldItem) → List Bool → List ℕ → ℕ → ℕ
second_interface other here es copied interfaces n = if flag_under copied n || is_named_at other n then number_under interfaces n else unwrap_or
    (met_under here es n) (number_under interfaces n)

-- What the bound world gains: interfaces with a name are carried as by path, inline ones of its new items are copied, and no world but the bound one is
-- carried.
abbrev pub second_of : Resolve → List (Option InterfaceId) → Carried → ℕ → ℕ → List (WorldKey × WorldItem) → List (WorldKey × WorldItem) → List Bool → List ℕ
    → List Fate → List ℕ → Renumbering
second_of other matched c world other_world here es copied interfaces fates types = record {
  packages = number_under c.packages.items;
  interfaces = second_interface other here es copied interfaces;
  worlds = λ n. world;
  types = number_under types;
  carries_interface = λ n. flag_under copied n || (is_named_at other n && (flag_under c.copied_interfaces.items n || is_matched matched n));
  carries_world = λ n. n == other_world;
  carries_type = is_carried fates;
  copies_interface = flag_under copied;
  copies_type = is_copied fates;
}
