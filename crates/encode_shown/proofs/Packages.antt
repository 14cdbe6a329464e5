-- The members that show a package of a valid `Resolve` mean the package.
use Rattle.std.proofs.Common.{rules as std_rules, ◌≡◌, refl, sym, subst, ap, ◌∙◌, ℕ, Bool, true, false, not, ◌&&◌, List, [], ◌∷◌, ◌++◌, append-nil, map, filter, Some, String, unwrap_or, arith}
use Rattle.std.proofs.lemmas.{Grind.flat_map-append, List.Elements.Contains-append_cases, Bool.and_from as both, Bool.not-true as not-false}
use Rattle.std.proofs.Math.Logic.{⊎_elim}
use Rattle.std.specs.declared.alloc.Global.{Global}
use Rattle.std.specs.{Prelude.is_some, Prelude.flat_map, FinMap.from_entries, List.AllZip, List.Contains, List.list_all}
use Rattle.wit_model.specs.{Text.Text, Text.TextMap, Text.text_of, Text.text_eq, Lookup.package_at, Lookup.interface_path, Lookup.identity_of}
use Rattle.wit_model.specs.{Names.PackageIdentity, Names.path_in, Uses.reached_by_package, Uses.is_shown_in, Meaning.InterfaceMeaning, Meaning.WorldMeaning}
use Rattle.wit_model.specs.{Meant.interface_meaning_at, Meant.world_meaning_at, Meant.foreign_of, Meant.foreign_meaning, Meant.is_foreign, Valid.IsValid}
use Rattle.wit_model.specs.declared.model.{Resolve.Resolve, Package.Package, InterfaceId.InterfaceId, WorldId.WorldId}
use Rattle.wit_model.proofs.{OnePath.path-once, TextLemmas.text_alike as text-alike}
use Rattle.comp_meaning.specs.{Follow.provided, Follow.is_filled, Same.same_identity}
use Rattle.comp_meaning.specs.Reads.{Sight, Member, sights, is_of, stands_at_top, is_interface_part, seen_meaning, interfaces_of, worlds_of_member, package_with, package_of_members}
use Rattle.encode_shown.specs.Views.{ShowsPackage, ShowsInterfaceMember, ShowsWorldMember}
use Rattle.comp_meaning.proofs.{AgreementLaws.implied, SameLaws.identities_decide}
use Rattle.encode_shown.proofs.{Interfaces.interface-means, WorldMeans.world-means, SameEntries.same-entries, Zips.zip-all, Zips.zip-left}
use Rattle.encode_shown.proofs.{Owning.foreign-path, Owning.own-listed, Sights.IsSight, Sights.all-sights-agree, Sights.all-sights-obey, Sights.sight-means}
use Rattle.encode_shown.proofs.PackageSights.{seen-reached, reached-seen, whole-shown, interface-member}
use Rattle.base_lemmas.proofs.{Options.there as some-of, Bools.left_of as left_true}
use Rattle.base_lemmas.proofs.Elements.{any-at, all_pass as all-from, contains-map, filter_keeps as contains-filter, filter_kept as filter-contains, map_from as contains-mapped}
use Rattle.wit_model.specs.Meant as meant

-- lists, element by element
zip-flat : {A B C : Type 0} (R : A → B → Type 0) (f : A → C) (g : B → List C) → ((a : A) (b : B) → R a b → g b ≡ f a ∷ []) → (xs : List A) (ys : List B) → AllZip R xs ys → flat_map g ys ≡ map f xs
zip-flat R f g h [] [] z = refl
zip-flat R f g h (a ∷ xs) (b ∷ ys) z = λ j. h a b z.0 j ++ zip-flat R f g h xs ys z.1 j
zip-flat R f g h _ _ z = absurd z

zip-empty : {A B C : Type 0} (R : A → B → Type 0) (g : B → List C) → ((a : A) (b : B) → R a b → g b ≡ []) → (xs : List A) (ys : List B) → AllZip R xs ys → flat_map g ys ≡ []
zip-empty R g h [] [] z = refl
zip-empty R g h (a ∷ xs) (b ∷ ys) z = λ j. h a b z.0 j ++ zip-empty R g h xs ys z.1 j
zip-empty R g h _ _ z = absurd z

module _ (r : Resolve) (v : IsValid r) (n : ℕ) (p : Package) (at : package_at r n ≡ Some p) (members : List Member) (shows : ShowsPackage r p members) where
  abbrev named : PackageIdentity
  named = identity_of p.name

  abbrev seen : List Sight
  seen = flat_map sights members

  -- ---- one package

  member-package : (m : Member) → Contains members m → m.package_ ≡ named
  member-package m c = ⊎_elim (λ c. ap (λ (x : Member). x.package_) (zip-left (ShowsInterfaceMember r named) p.interfaces.entries shows.interface_members m shows.interfaces c).2.is)
      (λ c. ap (λ (x : Member). x.package_) (zip-left (ShowsWorldMember r named) p.worlds.entries shows.world_members m shows.worlds c).2.is)
      (Contains-append_cases shows.interface_members shows.world_members m (subst (λ (ms : List Member). Contains ms m) shows.are c))

  one-package : list_all (λ m. same_identity named m.package_) members ≡ true
  one-package = all-from (λ m. same_identity named m.package_) members (λ m c. ap (same_identity named) (member-package m c) ∙ (identities_decide named named).1 refl)

  -- ---- sights

  numbered : (ns : List ℕ) × AllZip (IsSight r) ns seen
  numbered = zip-all (IsSight r) seen (λ s c. let k = seen-reached r v n p at members shows s c in (k.0, k.1.is))

  sight-at-top : (s : Sight) → Contains seen s → stands_at_top named members s ≡ true
  sight-at-top s c = implied (is_of named s.path) _ (λ e.
      let k = seen-reached r v n p at members shows s c in
      let own = own-listed r v n p at k.0 s.path k.1.is.has_path e in
      let found = interface-member r v n p at members shows own.0 own.1 in
      any-at (λ m. is_interface_part m.part && text_eq s.path (path_in named m.label)) members found.0 found.1
      (ap (λ (m : Member). is_interface_part m.part && text_eq s.path (path_in named m.label)) found.2.is ∙ (ap (text_eq s.path) (sym own.3) ∙ text-alike s.path)))

  -- ---- interfaces and worlds

  abbrev interface_named : String Global × InterfaceId → Text × InterfaceMeaning
  interface_named e = (text_of e.0, interface_meaning_at r e.1.0)

  abbrev world_named : String Global × WorldId → Text × WorldMeaning
  world_named e = (text_of e.0, world_meaning_at r e.1.0)

  interface-meant : (e : String Global × InterfaceId) (m : Member) → ShowsInterfaceMember r named e m → interfaces_of m ≡ interface_named e ∷ []
  interface-meant e m shown = ap interfaces_of shown.is ∙ (λ j. (text_of e.0, interface-means r v e.1.0 shown.exported shown.reached.shows j) ∷ [])

  no-interface : (e : String Global × WorldId) (m : Member) → ShowsWorldMember r named e m → interfaces_of m ≡ []
  no-interface e m shown = ap interfaces_of shown.is

  no-world : (e : String Global × InterfaceId) (m : Member) → ShowsInterfaceMember r named e m → worlds_of_member m ≡ []
  no-world e m shown = ap worlds_of_member shown.is

  world-meant : (e : String Global × WorldId) (m : Member) → ShowsWorldMember r named e m → worlds_of_member m ≡ world_named e ∷ []
  world-meant e m shown = search (std_rules, world-means)

  interfaces-meant : flat_map interfaces_of members ≡ map interface_named p.interfaces.entries
  interfaces-meant = grind (arith, flat_map-append, zip-flat, interface-meant, zip-empty, no-interface, append-nil)

  worlds-meant : flat_map worlds_of_member members ≡ map world_named p.worlds.entries
  worlds-meant = grind (arith, flat_map-append, zip-empty, no-world, zip-flat, world-meant)

  -- ---- interfaces of other packages

  abbrev is_other : Sight → Bool
  is_other s = not (is_of named s.path)

  abbrev seen_entries : List (Text × InterfaceMeaning)
  seen_entries = map (seen_meaning seen) (filter is_other seen)

  abbrev foreign_entry : ℕ → Text × InterfaceMeaning
  foreign_entry m = (unwrap_or (interface_path r m) [], foreign_meaning r p m)

  abbrev foreign_entries : List (Text × InterfaceMeaning)
  foreign_entries = map foreign_entry (foreign_of r n p)

  -- a sight of an interface of another package means what the package says of it
  foreign-meant : (s : Sight) (m : ℕ) → IsSight r m s → is_of named s.path ≡ false → seen_meaning seen s ≡ foreign_entry m
  foreign-meant s m is other = sight-means r v numbered.0 seen numbered.1 m s is (is_shown_in r p m) (whole-shown r v n p at members shows m s.path is.has_path other)
      ∙ (λ j. (unwrap_or (sym is.has_path j) [], foreign_meaning r p m))

  forth : (q : Text) (x : InterfaceMeaning) → Contains seen_entries (q, x) → Contains foreign_entries (q, x)
  forth q x c =
      let from = contains-mapped (seen_meaning seen) (filter is_other seen) (q, x) c in
      let sight = filter-contains is_other seen from.0 from.1 in
      let number = seen-reached r v n p at members shows from.0 sight.0 in
      let foreign : is_foreign r n number.0 ≡ true = foreign-path r v n p at number.0 from.0.path number.1.is.has_path ∙ sight.1 in
      let there = contains-map foreign_entry (foreign_of r n p) number.0 (contains-filter (is_foreign r n) (reached_by_package r p) number.0 number.1.reached foreign) in
      subst (λ (e : Text × InterfaceMeaning). Contains foreign_entries e) (sym (foreign-meant from.0 number.0 number.1.is (not-false (is_of named from.0.path) sight.1)) ∙ from.2) there

  -- the interface of an entry, which has the entry's path
  entry-of : (q : Text) (x : InterfaceMeaning) → Contains foreign_entries (q, x) → (m : ℕ) × Contains (reached_by_package r p) m × (is_foreign r n m ≡ true) × (interface_path r m ≡ Some q)
      × (foreign_entry m ≡ (q, x))
  entry-of q x c =
      let from = contains-mapped foreign_entry (foreign_of r n p) (q, x) c in
      let reach = filter-contains (is_foreign r n) (reached_by_package r p) from.0 from.1 in
      let path = some-of (interface_path r from.0) (left_true (is_some (interface_path r from.0)) _ reach.1) in
      (from.0, reach.0, reach.1, path.1 ∙ ap Some (sym (ap (λ o. unwrap_or o []) path.1) ∙ ap (λ (e : Text × InterfaceMeaning). e.0) from.2), from.2)

  back : (q : Text) (x : InterfaceMeaning) → Contains foreign_entries (q, x) → Contains seen_entries (q, x)
  back q x c =
      let from = entry-of q x c in
      let sight = reached-seen r v n p at members shows from.0 q from.3 from.1 in
      let other : is_other sight.sight ≡ true = sym (foreign-path r v n p at from.0 sight.sight.path sight.is.has_path) ∙ from.2 in
      subst (λ (e : Text × InterfaceMeaning). Contains seen_entries e) (foreign-meant sight.sight from.0 sight.is (not-false (is_of named sight.sight.path) other) ∙ from.4)
      (contains-map (seen_meaning seen) (filter is_other seen) sight.sight (contains-filter is_other seen sight.sight sight.there other))

  -- a path has one meaning
  one-meaning : (q : Text) (x y : InterfaceMeaning) → Contains foreign_entries (q, x) → Contains foreign_entries (q, y) → x ≡ y
  one-meaning q x y c d =
      let a = entry-of q x c in
      let b = entry-of q y d in
      sym (ap (λ (e : Text × InterfaceMeaning). e.1) a.4) ∙ ap (foreign_meaning r p) (path-once r v a.0 b.0 q a.3 b.3) ∙ ap (λ (e : Text × InterfaceMeaning). e.1) b.4

  abbrev foreign_map : List (Text × InterfaceMeaning) → TextMap InterfaceMeaning
  foreign_map es = from_entries es

  -- ---- the package

  pub package-means : package_with named members ≡ Some (meant.package_meaning r n p)
  package-means =
      ap (λ b. provided b (record { identity = named; interfaces = flat_map interfaces_of members; worlds = flat_map worlds_of_member members; foreign = from_entries seen_entries }))
      (both _ _ one-package (both _ _ (all-from (stands_at_top named members) seen sight-at-top)
      (both _ _ (all-sights-agree r v numbered.0 seen numbered.1) (all-sights-obey r v numbered.0 seen numbered.1))))
      ∙ (λ j. Some (record { identity = named; interfaces = interfaces-meant j; worlds = worlds-meant j; foreign = (same-entries seen_entries foreign_entries forth back one-meaning) j }))

-- so do they as the members of a component that has one
pub members-mean : (r : Resolve) → IsValid r → (n : ℕ) (p : Package) → package_at r n ≡ Some p → (members : List Member) → ShowsPackage r p members → is_filled members ≡ true
    → package_of_members members ≡ Some (meant.package_meaning r n p)
members-mean r v n p at [] shows h = absurd cc
members-mean r v n p at (m ∷ ms) shows h = ap (λ q. package_with q (m ∷ ms)) (member-package r v n p at (m ∷ ms) shows m (0, omega arith, refl)) ∙ package-means r v n p at (m ∷ ms) shows
