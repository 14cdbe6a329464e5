-- The binding of a world of a `Resolve`, which stands there under a number (WIT.md, "Packages"; the crate's README, "Merging Worlds").
use Rattle.std.specs.Prelude.{◌<◌, ℕ, List, [], map, filter_map, length, option_map, option_and_then, unwrap_or}
use Rattle.std.specs.{FinMap.from_entries, FinSet.from_list}
use Rattle.wit_model.specs.declared.model.Resolve.{Resolve}
use Rattle.wit_model.specs.{Text.Text, Meant.interface_meaning, Meant.world_meaning, Meant.world_meaning_at, Valid.IsValid}
use Rattle.wit_model.specs.{Lookup.world_at, Lookup.identity_of, Lookup.path_of_interface, Lookup.path_of_world, Meaning.InterfaceMeaning, Meaning.WorldMeaning}
use Rattle.bind_meaning.specs.{Encodings.Encodings, Binding.Binding, Binding.IsBinding, Binding.package_text}

-- the names of the packages
abbrev pub package_texts : Resolve → List Text
package_texts r = map (λ p. package_text (identity_of p.name)) r.packages.items

-- the named interfaces by path, in order
abbrev pub interfaces_by_path : Resolve → List (Text × InterfaceMeaning)
interfaces_by_path r = filter_map (λ i. option_map (λ path. (path, interface_meaning r i)) (path_of_interface r i)) r.interfaces.items

-- the worlds by path, in order
abbrev pub worlds_by_path : Resolve → List (Text × WorldMeaning)
worlds_by_path r = filter_map (λ w. option_map (λ path. (path, world_meaning r w)) (path_of_world r w)) r.worlds.items

-- the path of the world of this number
abbrev pub world_path_at : Resolve → ℕ → Text
world_path_at r n = unwrap_or (option_and_then (path_of_world r) (world_at r n)) []

-- the world of this number, bound, with the encodings of its imported and of its exported functions
abbrev pub binding_at : Resolve → ℕ → Encodings → Encodings → Binding
binding_at r n imported exported = record {
  packages = from_list (package_texts r);
  interfaces = from_entries (interfaces_by_path r);
  worlds = from_entries (worlds_by_path r);
  path = world_path_at r n;
  bound = world_meaning_at r n;
  imported_encodings = imported;
  exported_encodings = exported;
}

-- ---- law

-- In a valid `Resolve` no two interfaces or worlds have one path, and no two keys of a world one text. So each of its worlds, bound, is a binding.
abbrev pub WorldsAreBindings : Type 0
WorldsAreBindings = (r : Resolve) → IsValid r → (n : ℕ) → n < length r.worlds.items → (imported exported : Encodings)
    → IsBinding (binding_at r n imported exported)
