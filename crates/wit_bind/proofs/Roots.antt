-- The `Resolve` of the empty root world is valid, and means it.
use Rattle.std.proofs.Common.{rules as std_rules, ◌≡◌, ◌∙◌, sym, ap, arith, ℕ, ◌<◌, length, List, [], ◌∷◌, Some}
use Rattle.std.proofs.lemmas.Option.{same_Some as some-same}
use Rattle.std.specs.Prelude.{◌↔◌, option_and_then, option_map, slice_get}
use Rattle.wit_model.specs.declared.model.{Package.Package, Resolve.Resolve, World.World}
use Rattle.wit_model.specs.{Lookup.world_at, Meaning.WorldPackage, Meant.MeantWorld, Meant.package_of_world, Meant.world_package}
use Rattle.wit_model.specs.Valid.{IsValid, numbers_in_range, package_names, places, labels, order_of_types, owners, shapes, named_kinds, handles, depths, function_names, world_items, order_of_items, names_in_packages}
use Rattle.wit_bind.specs.Roots.{IsRootResolve, root_meaning}

-- the one entry of a list
only : {A : Type 0} (xs : List A) (x y : A) (n : ℕ) → xs ≡ x ∷ [] → slice_get xs n ≡ Some y → y ≡ x
only xs x y z is at = search std_rules

module _ (r : Resolve) (h : IsRootResolve r) where
  abbrev p : Package
  p = h.package_

  abbrev w : World
  w = h.world

  pub root-valid : IsValid r
  unfolding numbers_in_range package_names places labels order_of_types owners shapes named_kinds handles depths function_names world_items order_of_items names_in_packages
  root-valid = record {
    distinct_keys = search std_rules;
    rules = record {
      numbers_in_range = simp (h.packages, h.worlds, h.no_interfaces, h.no_types, h.is_package.no_interfaces, h.is_package.lists, h.is_world.no_imports, h.is_world.no_exports, h.is_world.home);
      package_names = simp (h.packages, h.worlds, h.no_interfaces, h.no_types, h.is_package.namespace, h.is_package.name, h.is_package.unversioned);
      places = simp (h.packages, h.worlds, h.no_interfaces, h.no_types, h.is_package.no_interfaces, h.is_package.lists, h.is_package.labelled, h.is_world.named_, h.is_world.home);
      labels = simp (h.packages, h.worlds, h.no_interfaces, h.no_types, h.is_world.named_, h.is_world.no_imports, h.is_world.no_exports, h.is_world.unknown);
      order_of_types = simp (h.packages, h.worlds, h.no_interfaces, h.no_types, h.is_world.no_imports);
      owners = simp (h.packages, h.worlds, h.no_interfaces, h.no_types, h.is_world.no_imports, h.is_world.no_exports);
      shapes = simp (h.packages, h.worlds, h.no_interfaces, h.no_types);
      named_kinds = simp (h.packages, h.worlds, h.no_interfaces, h.no_types);
      handles = simp (h.packages, h.worlds, h.no_interfaces, h.no_types, h.is_world.no_imports, h.is_world.no_exports);
      depths = simp (h.packages, h.worlds, h.no_interfaces, h.no_types, h.is_world.no_imports, h.is_world.no_exports);
      function_names = simp (h.packages, h.worlds, h.no_interfaces, h.no_types, h.is_world.no_imports, h.is_world.no_exports);
      world_items = simp (h.packages, h.worlds, h.no_interfaces, h.no_types, h.is_world.no_imports, h.is_world.no_exports);
      order_of_items = simp (h.packages, h.worlds, h.no_interfaces, h.no_types, h.is_world.no_imports, h.is_world.no_exports);
      names_in_packages = simp (h.packages, h.worlds, h.no_interfaces, h.no_types, h.is_package.no_interfaces, h.is_package.lists, h.is_package.labelled, h.is_world.named_);
    };
  }

  meant : option_and_then (λ (u : World). option_map (λ (q : Package). world_package r q u) (package_of_world r u)) (world_at r 0) ≡ Some root_meaning
  meant = simp (h.packages, h.worlds, h.is_world.home, h.is_package.namespace, h.is_package.name, h.is_package.unversioned, h.is_world.named_, h.is_world.no_imports, h.is_world.no_exports)

  pub root-in-range : 0 < length r.worlds.items
  root-in-range = let one : length r.worlds.items ≡ 1 = ap length h.worlds in omega (arith, one)

  pub root-means : (m : WorldPackage) → MeantWorld r 0 m ↔ (root_meaning ≡ m)
  unfolding MeantWorld
  root-means m = (λ e. some-same root_meaning m (sym meant ∙ e), λ e. meant ∙ ap Some e)
