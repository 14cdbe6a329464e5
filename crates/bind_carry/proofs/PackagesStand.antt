-- Each package of the other stands in one of what is merged: in a new one with all its names, or in the own one of its name, behind the names that were there.
use Rattle.bind_meaning.proofs.Listed.{by_option}
use Rattle.base_lemmas.proofs.Lists.{front_at, mapped_get as mapped_at}
use Rattle.bind_add.specs.{Growth.HasGained, declared.added.Names.Names}
use Rattle.bind_carry.proofs.{CopiesPlaced.copied_behind, CopiesPlaced.nothing_there, CopiesPlaced.uncopied_under, FirstNumbers.chosen_so, FirstOfUnion.IsFound, FirstOfUnion.found_number, FirstOfUnion.found_own, FirstOfUnion.new_package, KeptPlaced.IsKeptAt, NamesCopied.interfaces_join, NamesCopied.name_entry, NamesCopied.worlds_join, NamesGained.gain_of, NamesGained.interface_looked, NamesGained.listed_interface, NamesGained.listed_world, NamesGained.some_from, NamesGained.world_looked, Ranges.is_in_range, UnionDistinct.interfaces_behind}
use Rattle.bind_carry.proofs.UnionDistinct.{worlds_behind}
use Rattle.bind_carry.specs.{AddedApart.AreMatchedByName, First.first_fates, First.flag_under, FirstPass.IsFirstPass, Marked.AreChosen, MergedUnion.NoOwnInterfaceAtPath, MergedUnion.NoOwnWorldAtPath, Numbers.package_number, Packaged.IsGained, Renumbered.first_of, SecondPass.is_left_out, declared.plan.Carried.Carried}
use Rattle.bind_carry.specs.Packaged.{IsInterfaceName, IsPackageCarried, IsWorldName, grown_packages, is_copied_interface, is_copied_world}
use Rattle.bind_copy.specs.Copies.{number_under}
use Rattle.bind_match.specs.Matching.{interface_in, is_root_world, own_interface_of, own_package_of, own_world_of, package_from, world_in}
use Rattle.bind_match.specs.declared.matches.Matches.{Matches}
use Rattle.bind_union.proofs.{Listed.under_text, Lists.no_true, PackageNames.interfaces_by_name, PackageNames.worlds_by_name}
use Rattle.bind_union.specs.{Carried.Renumbering, Merged.IsJoinedPackage, Merged.PackageStands, Merged.brought, Merged.grown, Merged.interface_names}
use Rattle.bind_union.specs.Merged.{is_name, world_names}
use Rattle.indexmap.specs.IndexMap.{IsUnique}
use Rattle.std.proofs.Common.{Bool, List, None, Option, Some, [], ap, false, is_none, length, map, option_and_then, option_map, refl, slice_get, subst, sym, true, unwrap_or, ℕ, ◌++◌, ◌∙◌, ◌≡◌, ◌≤◌}
use Rattle.std.proofs.lemmas.{Bool.false_from_ne_true, List.length-map, List.map-append}
use Rattle.std.specs.{HashMap.get_by_text, List.AllZip, List.Contains, List.filter, Option.option_map_or, Prelude.String, String.string_eq}
use Rattle.std.specs.declared.alloc.Global.{Global}
use Rattle.wit_model.proofs.{OnePath.package-name, VersionLaws.same_name}
use Rattle.wit_model.specs.{Lookup.identity_of, Lookup.package_at, Names.path_in, Rules.same_package_name, Text.Text, Text.text_of, Valid.IsValid}
use Rattle.wit_model.specs.declared.model.{InterfaceId.InterfaceId, Package.Package, PackageId.PackageId, PackageName.PackageName, Resolve.Resolve, World.World}
use Rattle.wit_model.specs.declared.model.WorldId.{WorldId}

-- ---- packages by name

-- where no package of a name is found, none has it
none_from : (name : PackageName) (n : ℕ) (ps : List Package) → package_from name n ps ≡ None → (k : ℕ) (q : Package) → slice_get ps k ≡ Some q → same_package_name name q.name ≡ false
none_from name n ps h k q at =
    false_from_ne_true (same_package_name name q.name) (λ e. let x = some_from name n ps k q at e in nothing_there x.0 (sym h ∙ x.1))

module _ (own other merged : Resolve) (valid_own : IsValid own) (valid_other : IsValid other) (m : Matches) (c : Carried) (numbers : List ℕ) (pass : IsFirstPass own other merged m c numbers)
    (names : AllZip (IsGained c) (grown_packages c.new_packages.items c.packages.items other.packages.items) pass.gains)
    (interfaces_by : m.interfaces.items ≡ map (own_interface_of own m.packages.items) other.interfaces.items) (worlds_by : m.worlds.items ≡ map (own_world_of own m.packages.items) other.worlds.items)
    (no_world : NoOwnWorldAtPath own other) (no_interface : NoOwnInterfaceAtPath own other) where
  abbrev f : Renumbering
  f = first_of m.interfaces.items c (first_fates own other m.interfaces.items c) numbers

  long : length c.new_packages.items ≡ length (map package_number m.packages.items)
  long = ap length pass.numbered.new_packages ∙ (length-map m.packages.items is_none ∙ sym (length-map m.packages.items package_number))

  module _ (n : ℕ) (p : Package) (at : package_at other n ≡ Some p) where
    unique : IsUnique string_eq p.interfaces × IsUnique string_eq p.worlds
    unique = valid_other.distinct_keys.packages n p at

    -- the own package of its name, if there is one
    matched : (o : Option PackageId) → own_package_of own.packages.items p ≡ o → slice_get m.packages.items n ≡ Some o
    matched o e = ap (λ l. slice_get l n) pass.by_name ∙ (mapped_at (own_package_of own.packages.items) other.packages.items n p at ∙ ap Some e)

    flag : (o : Option PackageId) → own_package_of own.packages.items p ≡ o → slice_get c.new_packages.items n ≡ Some (is_none o)
    flag o e = ap (λ l. slice_get l n) pass.numbered.new_packages ∙ mapped_at is_none m.packages.items n o (matched o e)

    -- ---- a new one

    module _ (none : own_package_of own.packages.items p ≡ None) where
      set : flag_under c.new_packages.items n ≡ true
      set = ap (λ (o : Option Bool). unwrap_or o false) (flag None none)

      place : IsKeptAt (IsPackageCarried c) p merged.packages.items (number_under c.packages.items n)
      place = new_package own other merged c m.packages.items pass.by_name pass.numbered.new_packages pass.numbered.packages pass.gains pass.grown pass.new_packages pass.gained pass.packages
          pass.packages_here n p at set

      high : length own.packages.items ≤ number_under c.packages.items n
      high = subst (λ (l : List ℕ). length own.packages.items ≤ number_under l n) (sym pass.numbered.packages)
          (copied_behind (length own.packages.items) c.new_packages.items (map package_number m.packages.items) n long set)

      unnamed : (k : ℕ) (q : Package) → package_at own k ≡ Some q → same_package_name q.name p.name ≡ false
      unnamed k q at_q = false_from_ne_true (same_package_name q.name p.name) (λ e.
          let x = package-name own valid_own k q at_q in
          let y = package-name other valid_other n p at in
          no_true (sym (none_from p.name 0 own.packages.items none k q at_q) ∙ (same_name p.name q.name y.version x.version).1 (sym ((same_name q.name p.name x.version y.version).0 e))))

      whole : IsJoinedPackage merged f (is_left_out other) n p [] []
      whole = record {
        image = place.image;
        at_image = place.at_image;
        new_interfaces = interface_names place.image;
        interfaces = refl;
        joined_interfaces = interfaces_join own other merged valid_other m c numbers pass interfaces_by worlds_by n p at []
            (λ home t here. ap (option_map (λ (id : InterfaceId). id.0)) (interface_looked own m.packages.items n None (matched None none) home t here)) place.image.interfaces.entries
            (place.is.interfaces unique.0);
        new_worlds = world_names place.image;
        worlds = refl;
        joined_worlds = worlds_join own other merged valid_other m c numbers pass interfaces_by worlds_by n p at []
            (λ home t here. ap (option_map (λ (id : WorldId). id.0)) (world_looked own m.packages.items n None (matched None none) home t here)) place.image.worlds.entries (place.is.worlds unique.1);
      }

      new_stands : PackageStands own merged f (is_left_out other) n p
      new_stands = brought high whole unnamed

    -- ---- an own one

    module _ (id : PackageId) (some : own_package_of own.packages.items p ≡ Some id) where
      found : IsFound p.name own.packages.items id.0
      found = found_own own.packages.items p id some

      number : number_under c.packages.items n ≡ id.0
      number = ap (λ l. number_under l n) pass.numbered.packages ∙ (uncopied_under (length own.packages.items) c.new_packages.items (map package_number m.packages.items) n long
          (ap (λ (o : Option Bool). unwrap_or o false) (flag (Some id) some)) ∙ found_number m.packages.items n id (matched (Some id) some))

      gain : (i : ℕ) × (g : Names) × (slice_get pass.gains i ≡ Some g) × IsGained c (number_under c.packages.items n, p) g
      gain = gain_of c c.new_packages.items c.packages.items other.packages.items pass.gains names pass.numbered.whole.packages n p (flag (Some id) some) at

      interfaces_here : (home : PackageId) (t : Text) → home.0 ≡ n
          → option_map (λ (k : InterfaceId). k.0) (interface_in own m.packages.items (Some home) t) ≡ under_text t (interface_names found.there)
      interfaces_here home t here = ap (option_map (λ (k : InterfaceId). k.0)) (interface_looked own m.packages.items n (Some id) (matched (Some id) some) home t here
          ∙ ap (option_and_then (λ (q : Package). get_by_text q.interfaces t)) found.at_there)
          ∙ interfaces_by_name found.there t

      worlds_here : (home : PackageId) (t : Text) → home.0 ≡ n → option_map (λ (k : WorldId). k.0) (world_in own m.packages.items (Some home) t) ≡ under_text t (world_names found.there)
      worlds_here home t here = ap (option_map (λ (k : WorldId). k.0)) (world_looked own m.packages.items n (Some id) (matched (Some id) some) home t here
          ∙ ap (option_and_then (λ (q : Package). get_by_text q.worlds t)) found.at_there) ∙ worlds_by_name found.there t

      new_interfaces : AllZip (IsInterfaceName c.interfaces.items) (filter (is_copied_interface c.copied_interfaces.items) p.interfaces.entries) gain.1.interfaces.entries
      new_interfaces = gain.3.interfaces unique.0

      new_worlds : AllZip (IsWorldName c.worlds.items) (filter (is_copied_world c.copied_worlds.items) p.worlds.entries) gain.1.worlds.entries
      new_worlds = gain.3.worlds unique.1

      by_name : AreMatchedByName own other m
      by_name = record { packages = pass.by_name; interfaces = interfaces_by; worlds = worlds_by }

      chosen : AreChosen other m.interfaces.items c.copied_worlds.items c.copied_interfaces.items
      chosen = chosen_so own other m c (is_in_range other valid_other) pass.all pass.numbered

      there : package_at own gain.1.«package».0 ≡ Some found.there
      there = ap (slice_get own.packages.items) (gain.3.number ∙ number) ∙ found.at_there

      gained : (q : Package) × (slice_get pass.grown gain.1.«package».0 ≡ Some q) × HasGained gain.1 found.there q
      gained = pass.gained.gained gain.0 gain.1 found.there gain.2 there

      names_after : {X : Type 0} (f : String Global × X → Text × ℕ) (all own_ones more : List (String Global × X)) → all ≡ own_ones ++ more → map f all ≡ map f own_ones ++ map f more
      names_after f all own_ones more e = ap (map f) e ∙ map-append f own_ones more

      joined : IsJoinedPackage merged f (is_left_out other) n p (interface_names found.there) (world_names found.there)
      joined = record {
        image = gained.0;
        at_image = ap (λ l. slice_get l (number_under c.packages.items n)) pass.packages_here ∙ front_at pass.grown pass.new_packages (number_under c.packages.items n) gained.0
            (ap (slice_get pass.grown) (sym gain.3.number) ∙ gained.1);
        new_interfaces = map (λ (e : String Global × InterfaceId). (text_of e.0, e.1.0)) gain.1.interfaces.entries;
        interfaces = names_after (λ (e : String Global × InterfaceId). (text_of e.0, e.1.0)) gained.0.interfaces.entries found.there.interfaces.entries gain.1.interfaces.entries
            (gained.2.interfaces ∙ interfaces_behind own other valid_other m c by_name pass.numbered chosen pass.gains names gain.0 gain.1 found.there gain.2 there);
        joined_interfaces = interfaces_join own other merged valid_other m c numbers pass interfaces_by worlds_by n p at (interface_names found.there) interfaces_here gain.1.interfaces.entries
            new_interfaces;
        new_worlds = map (λ (e : String Global × WorldId). (text_of e.0, e.1.0)) gain.1.worlds.entries;
        worlds = names_after (λ (e : String Global × WorldId). (text_of e.0, e.1.0)) gained.0.worlds.entries found.there.worlds.entries gain.1.worlds.entries
            (gained.2.worlds ∙ worlds_behind own other valid_other m c by_name pass.numbered chosen pass.gains names gain.0 gain.1 found.there gain.2 there);
        joined_worlds = worlds_join own other merged valid_other m c numbers pass interfaces_by worlds_by n p at (world_names found.there) worlds_here gain.1.worlds.entries new_worlds;
      }

      -- the two packages have one identity, so a name has one path in both
      one_path : (t : Text) → path_in (identity_of found.there.name) t ≡ path_in (identity_of p.name) t
      one_path t = ap (λ x. path_in x t) (sym ((same_name p.name found.there.name (package-name other valid_other n p at).version
          (package-name own valid_own id.0 found.there found.at_there).version).0 found.same))

      interface_apart : (t : Text) → is_name t (interface_names p) ≡ true → is_name t (world_names found.there) ≡ false
      interface_apart t h = false_from_ne_true (is_name t (world_names found.there)) (λ e.
          let a = name_entry t (interface_names p) h in
          let b = name_entry t (world_names found.there) e in
          let x = listed_interface other valid_other n p at t a.0 a.1 in
          let y = listed_world own valid_own id.0 found.there found.at_there t b.0 b.1 in
          no_world a.0 x.interface_ b.0 y.world (path_in (identity_of p.name) t) x.found x.path y.found (y.path ∙ ap Some (one_path t)))

      world_apart : (t : Text) (k : ℕ) → Contains (world_names p) (t, k) → is_left_out other k ≡ false → is_name t (interface_names found.there) ≡ false
      world_apart t k held kept = false_from_ne_true (is_name t (interface_names found.there)) (λ e.
          let a = name_entry t (interface_names found.there) e in
          let x = listed_interface own valid_own id.0 found.there found.at_there t a.0 a.1 in
          let y = listed_world other valid_other n p at t k held in
          let root = sym (ap (λ (o : Option World). option_map_or (is_root_world other) o false) y.found) ∙ kept in
          no_interface a.0 x.interface_ k y.world (path_in (identity_of p.name) t) x.found (x.path ∙ ap Some (one_path t)) y.found root y.path)

      own_stands : PackageStands own merged f (is_left_out other) n p
      own_stands = grown found.there (ap (package_at own) number ∙ found.at_there) joined interface_apart world_apart

    -- Each package of the other stands in one of what is merged.
    pub package_stands : PackageStands own merged f (is_left_out other) n p
    package_stands = by_option (own_package_of own.packages.items p) (λ e. new_stands e) (λ id e. own_stands id e)
