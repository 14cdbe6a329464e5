-- What is new by name or path is copied.
use Rattle.std.proofs.Common.{rules as std_rules, ◌≡◌, refl, sym, ap, subst, Contains, option_to_list, ◌∙◌, ℕ, Bool, true, false, not, ◌&&◌, List, map, Option, Some, None, is_none, is_some, option_map, slice_get, unwrap_or}
use Rattle.std.proofs.lemmas.{Option.slice_get-map, Map.Keys.any_passes_from_place as any_at}
use Rattle.std.specs.{Prelude.filter_map, Prelude.option_and_then, List.list_any, Option.option_map_or}
use Rattle.wit_model.specs.declared.model.{Interface.Interface, Package.Package, PackageId.PackageId, Resolve.Resolve, World.World, WorldId.WorldId}
use Rattle.wit_model.specs.Lookup.{identity_of, interface_at, package_at, path_of_interface, path_of_world, world_at}
use Rattle.wit_model.specs.{Meant.interface_meaning, Meant.world_meaning, Text.Text, Text.text_eq, Text.text_of, Valid.IsValid}
use Rattle.wit_model.proofs.{Elements.contains-filter_map, OnePath.package-name, VersionLaws.same_name, VersionLaws.same_text}
use Rattle.bind_clash.specs.Faults.{IsMatched}
use Rattle.bind_clash.proofs.PathsMatched.{root-has, world-in-has, world-path-of}
use Rattle.bind_match.specs.declared.matches.Matches.{Matches}
use Rattle.bind_match.specs.Matching.{is_root_world, own_package_of, own_world_of}
use Rattle.bind_meaning.specs.{Binding.package_text, ByNumbers.interfaces_by_path, ByNumbers.package_texts, ByNumbers.worlds_by_path, Roots.root_path}
use Rattle.bind_meaning.proofs.Listed.{given as unpacked}
use Rattle.bind_carry.specs.{First.flag_under, MatchedSame.AreMatchedAt, Renumbered.is_matched, TooLong.CarriedThings, Which.AreMatchedAll, Which.IsNumbered}
use Rattle.bind_carry.specs.Marked.{AreChosen}
use Rattle.bind_carry.proofs.{FirstNumbers.chosen_so, FirstOfUnion.found_own, Ranges.is_in_range, NamesGained.new_world_flag as world_flag}
use Rattle.wit_bind.specs.Comes.{is_new_interface, is_new_package, is_new_world, is_one_of}
use Rattle.base_lemmas.proofs.{Elements.any-at, Elements.contains-map, Elements.contains-one, Elements.get-contains, Bools.left_of as first_true, Bools.right_of as second_true, Lists.mapped_get as mapped_at}

-- ---- what stands under a path

module _ {X M : Type 0} (path : X → Option Text) (meaning : X → M) (t : Text) where
  abbrev paths : List X → List Text
  paths xs = map (λ (e : Text × M). e.0) (filter_map (λ x. option_map (λ p. (p, meaning x)) (path x)) xs)

  pub path_there : (xs : List X) (n : ℕ) (x : X) → slice_get xs n ≡ Some x → path x ≡ Some t → list_any (text_eq t) (paths xs) ≡ true
  path_there xs n x at e = any-at (text_eq t) (paths xs) t (contains-map (λ (z : Text × M). z.0) _ (t, meaning x)
      (contains-filter_map (λ y. option_map (λ p. (p, meaning y)) (path y)) xs x (t, meaning x) (get-contains xs n x at)
      (subst (λ (o : Option Text). Contains {X = Text × M} (option_to_list (option_map (λ p. (p, meaning x)) o)) (t, meaning x)) (sym e) (contains-one (t, meaning x))))) (same_text t t refl)

-- what is so isn't not so
contrary : {A : Type 0} (b : Bool) → not b ≡ true → b ≡ true → A
contrary x h e = search std_rules

module _ (own other : Resolve) (v : IsValid own) (u : IsValid other) (m : Matches) (matched : IsMatched own other m) (all : AreMatchedAll other m) (c : CarriedThings)
    (numbered : IsNumbered own other m c) (same : AreMatchedAt own other m.interfaces.items c.packages.items) where
  -- ---- packages

  pub new_package_copied : (n : ℕ) (p : Package) → package_at other n ≡ Some p → is_new_package own p ≡ true → flag_under c.new_packages.items n ≡ true
  new_package_copied n p at fresh = flag ∙ go (f p) refl
    where
      f : Package → Option PackageId
      f = own_package_of own.packages.items

      flag : flag_under c.new_packages.items n ≡ is_none (f p)
      flag = ap (λ l. flag_under l n) numbered.new_packages ∙ (ap (λ l. flag_under (map is_none l) n) matched.packages
          ∙ ap (λ o. unwrap_or o false) (mapped_at is_none (map f other.packages.items) n (f p) (mapped_at f other.packages.items n p at)))

      go : (o : Option PackageId) → f p ≡ o → is_none o ≡ true
      go None e = refl
      go (Some id) e =
          let found = found_own own.packages.items p id e in
          let theirs = package-name other u n p at in
          let ours = package-name own v id.0 found.there found.at_there in
          let names : identity_of p.name ≡ identity_of found.there.name = (same_name p.name found.there.name theirs.version ours.version).0 found.same in
          contrary (is_one_of (package_texts own) (package_text (identity_of p.name))) fresh
          (any_at (text_eq (package_text (identity_of p.name))) (package_texts own) id.0 (package_text (identity_of found.there.name))
          (slice_get-map (λ (q : Package). package_text (identity_of q.name)) own.packages.items id.0 ∙ ap (option_map (λ (q : Package). package_text (identity_of q.name))) found.at_there)
          (same_text (package_text (identity_of p.name)) (package_text (identity_of found.there.name)) (ap package_text names)))

  -- ---- interfaces

  chosen : AreChosen other m.interfaces.items c.copied_worlds.items c.copied_interfaces.items
  chosen = chosen_so own other m c (is_in_range other u) all numbered

  pub new_interface_copied : (n : ℕ) (i : Interface) (path : Text) → interface_at other n ≡ Some i → path_of_interface other i ≡ Some path → is_new_interface own other i ≡ true
      → flag_under c.copied_interfaces.items n ≡ true
  new_interface_copied n i path at is fresh = go (is_matched m.interfaces.items n) refl
    where
      not_there : not (is_one_of (map (λ e. e.0) (interfaces_by_path own)) path) ≡ true
      not_there = sym (ap (λ o. option_map_or (λ t. not (is_one_of (map (λ e. e.0) (interfaces_by_path own)) t)) o true) is) ∙ fresh

      go : (b : Bool) → is_matched m.interfaces.items n ≡ b → flag_under c.copied_interfaces.items n ≡ true
      go false e = let name = unpacked _ i.name path is in chosen.named n i at (ap is_some name.1) ∙ ap not e
      go true e =
          let x = same n e in
          let its : path_of_interface own x.image ≡ Some path = sym (ap (option_and_then (path_of_interface own)) x.at_image) ∙ (x.path ∙ (ap (option_and_then (path_of_interface other)) at ∙ is)) in
          contrary (is_one_of (map (λ e. e.0) (interfaces_by_path own)) path) not_there
          (path_there (path_of_interface own) (interface_meaning own) path own.interfaces.items x.id.0 x.image x.at_image its)

  -- ---- worlds

  pub new_world_copied : (n : ℕ) (w : World) (path : Text) → world_at other n ≡ Some w → path_of_world other w ≡ Some path → is_new_world own other w ≡ true → flag_under c.copied_worlds.items n ≡ true
  new_world_copied n w path at is fresh = flag ∙ λ i. no_own (g w) refl i && no_root (is_root_world other w) refl i
    where
      g : World → Option WorldId
      g = own_world_of own m.packages.items

      flag : flag_under c.copied_worlds.items n ≡ (is_none (g w) && not (is_root_world other w))
      flag = ap (λ l. flag_under l n) numbered.copied_worlds
          ∙ world_flag other m.worlds.items other.worlds.items n (g w) w (ap (λ l. slice_get l n) matched.worlds ∙ mapped_at g other.worlds.items n w at) at

      here : Bool
      here = is_one_of (map (λ e. e.0) (worlds_by_path own)) path

      so : (not (text_eq path root_path) && not here) ≡ true
      so = sym (ap (λ o. option_map_or (λ t. not (text_eq t root_path) && not (is_one_of (map (λ e. e.0) (worlds_by_path own)) t)) o true) is) ∙ fresh

      no_root : (b : Bool) → is_root_world other w ≡ b → not b ≡ true
      no_root false e = refl
      no_root true e = contrary (text_eq path root_path) (first_true (not (text_eq path root_path)) (not here) so)
          (same_text path root_path (root-has other u w path (world-path-of other u n w at path is) e))

      no_own : (o : Option WorldId) → g w ≡ o → is_none o ≡ true
      no_own None e = refl
      no_own (Some id) e =
          let x = unpacked (path_of_world own) (world_at own id.0) path
          (world-in-has own other v u m.packages.items matched.packages w.«package» (text_of w.name) path (world-path-of other u n w at path is) id e) in
          contrary here (second_true (not (text_eq path root_path)) (not here) so) (path_there (path_of_world own) (world_meaning own) path own.worlds.items id.0 x.0 x.1 x.2)
