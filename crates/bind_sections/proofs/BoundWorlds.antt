-- What is bound of the data of a section is the binding of the world that it means.
use Rattle.std.proofs.Common.{rules as std_rules, ◌≡◌, ◌∙◌, sym, ap, subst, ℕ, true, List, [], map, filter_map, option_map, option_and_then, unwrap_or, Option, Some, Contains, refl, arith, ◌==◌, ◌&&◌, ◌||◌, zero, suc, Bool, false, ◌∷◌, flat_map, None, String, not, Ok, length}
use Rattle.std.proofs.lemmas.{Map.Views.list_any-from_Contains, Map.Views.Contains-from_any, Option.same_Some as some-same, Option.same_Some as same-some}
use Rattle.std.proofs.lemmas.Bool.{not-true as isnt}
use Rattle.std.specs.{Prelude.is_some, Prelude.option_to_list, Cmp.Lexicographic.nat_list_cmp_total, List.list_all}
use Rattle.std.specs.FinMap.{get, keys, from_entries, get-from_entries, contains_key-keys, empty, find, same_map, get-empty, nat_cmp-IsAntisymmetric, slice_cmp-IsAntisymmetric}
use Rattle.std.specs.{Option.option_map_or, Cmp.eq_by_cmp_equiv, FinSet.from_list}
use Rattle.wit_model.specs.declared.model.{Interface.Interface, World.World, InterfaceId.InterfaceId, PackageName.PackageName, StringEncoding.StringEncoding}
use Rattle.wit_model.specs.declared.model.{Resolve.Resolve, Package.Package, PackageId.PackageId, Function.Function, WorldItem.WorldItem, WorldKey.WorldKey}
use Rattle.wit_model.specs.{Text.Text, Text.TextMap, Text.text_cmp, Text.text_eq, Text.text_of, Uses.has, Uses.item_interface, Uses.items_of, Uses.shown_by}
use Rattle.wit_model.specs.Meant.{by_path, interface_meaning, interface_meaning_at, no_interface, world_meaning, entries_meaning, entry_meaning, function_meaning, interface_item, world_package}
use Rattle.wit_model.specs.Lookup.{interface_at, interface_path, path_of_interface, identity_of, package_at, path_of_world, path_in_package, canonical_identity_of, optional_version_text, key_text, world_at}
use Rattle.wit_model.specs.Meaning.{InterfaceMeaning, Entry, FunctionMeaning, inline, interface, WorldPackage}
use Rattle.wit_model.specs.Valid.{IsValid, is_place, names_in_packages, numbers_in_range, places, labels, world_items}
use Rattle.wit_model.specs.{Names.path_in, Names.PackageIdentity, Names.canonical_version, Names.cut, Names.is_label, Names.is_version, Paths.full_name}
use Rattle.wit_model.specs.Rules.{has_items, in_list, interface_belongs, is_id, package_number, passes, text_is, is_interface_key, entries_labels, export_stands, import_stands, is_stability, item_labels, key_label}
use Rattle.wit_model.proofs.Elements.{contains-filter_map, contains-get, has-contains, contains-flat, none-in}
use Rattle.wit_model.proofs.{AnyOrder.found-there as find-contains, NameLaws.spelled_path_reads, NameLaws.label_lacks, ValidLemmas.world_passes as world-passes}
use Rattle.wit_model.proofs.OnePath.{path-once, HasPath, found-in, has-path, package-name, package-passes, path-label, named-path}
use Rattle.wit_model.proofs.{Maps.there_some as contains-find, VersionLaws.valid_parts}
use Rattle.bind_meaning.proofs.Maps.{by_tie}
use Rattle.bind_meaning.proofs.Listed.{from-given, from-map, given, mapped, same-entries, from-flat, same-texts}
use Rattle.bind_meaning.specs.{ByNumbers.interfaces_by_path, ByNumbers.package_texts, ByNumbers.worlds_by_path, Encodings.Encodings, Encodings.all_encoded}
use Rattle.bind_meaning.specs.{Binding.package_text, Keys.canonical_identity, Keys.canonical_part, Keys.scope_under, Keys.text_under}
use Rattle.bind_meaning.specs.ByMeaning.{package_of_path, entry_keys, functions_by_name, keys_of_entry, binding_of_world, world_path}
use Rattle.base_lemmas.proofs.Elements.{contains-map, contains-one, filter_keeps as contains-filter, filter_kept as from-filter, get-contains, all-contained, contains-later, first-contained, last_of as one-contained}
use Rattle.base_lemmas.proofs.{Options.there as some-of, Bools.left_of as first_true, Bools.right_of as second_true, Numbers.equal}
use Rattle.std.specs.declared.alloc.Global.{Global}
use Rattle.indexmap.specs.IndexMap.{values}
use Rattle.plan_meaning.specs.NothingElse.{PackagesAreUsed, HoldsWorldAlone}
use Rattle.bind_carry.proofs.NamesGained.{home_is as id-is}
use Rattle.semver.specs.declared.{Version.Version}
use Rattle.semver.specs.{Identifiers.parts_of}
use Rattle.semver.proofs.Grammar.{version_parts-complete}
use Rattle.bind_keys.specs.Functions.{Items, IsFunctionKey, MapsFunctions, of_interface, of_item, exports_of, imports_of}
use Rattle.bind_keys.specs.{Keys.function_key, Keys.scope_of}
use Rattle.wit_bind.specs.{Bindings.binding_of}
use Rattle.wit_bind.proofs.ValidKeys.{canonical-by-name}
use Rattle.wit_bind.proofs.BoundWorlds.{HasMeaning, has-meaning, meaning-there, path-there, world-path}
use Rattle.wit_bind.specs.declared.bindgen.Bindgen.{Bindgen}
use Rattle.wit_metadata.proofs.SaidLaws.{read-back}
use Rattle.bind_sections.specs.BoundLaws.{SectionsBindTheirWorlds}
use Rattle.bind_sections.proofs.BoundLaws.{ok-same}
use Rattle.wit_model.specs.declared.model.WorldItem.TheVariants as item
use Rattle.wit_model.specs.declared.model.WorldKey.TheVariants as key

-- ---- The packages, interfaces and worlds of a `Resolve` that holds one world and nothing else, by path.

-- ---- interfaces

module _ (r : Resolve) (v : IsValid r) (w : World)
    (alone : (k : ℕ) (i : Interface) → interface_at r k ≡ Some i → has (filter_map item_interface (items_of w)) k ≡ true) where
  abbrev pub path_entry : ℕ → Text × InterfaceMeaning
  path_entry n = (unwrap_or (interface_path r n) [], interface_meaning_at r n)

  -- the interfaces that the world shows, by path
  abbrev pub shown_entries : List (Text × InterfaceMeaning)
  shown_entries = map path_entry (shown_by r w)

  abbrev named_entry : Interface → Option (Text × InterfaceMeaning)
  named_entry i = option_map (λ path. (path, interface_meaning r i)) (path_of_interface r i)

  -- an interface under its number, with its path
  path-at : (n : ℕ) (i : Interface) (path : Text) → interface_at r n ≡ Some i → path_of_interface r i ≡ Some path → interface_path r n ≡ Some path
  path-at n i path at named = ap (option_and_then (path_of_interface r)) at ∙ named

  pub meaning-at : (n : ℕ) (i : Interface) → interface_at r n ≡ Some i → interface_meaning_at r n ≡ interface_meaning r i
  meaning-at n i at = ap (λ (o : Option Interface). option_map_or (interface_meaning r) o no_interface) at

  -- each named interface is shown
  pub is-shown : (n : ℕ) (path : Text) → interface_path r n ≡ Some path → Contains (shown_by r w) n
  is-shown n path is = grind (arith, given, contains-filter, has-contains)

  pub shown-entry : (n : ℕ) (path : Text) → interface_path r n ≡ Some path → Contains shown_entries (path, interface_meaning_at r n)
  shown-entry n path is = search (std_rules, contains-map path_entry (shown_by r w) n (is-shown n path is), is-shown n path is)

  -- what stands under a path
  pub record IsEntryOf (e : Text × InterfaceMeaning) : Type 0 where
    pub number : ℕ
    pub under : interface_path r number ≡ Some e.0
    pub is : interface_meaning_at r number ≡ e.1

  pub entry-of : (e : Text × InterfaceMeaning) → Contains shown_entries e → IsEntryOf e
  entry-of e c =
      let n = from-map path_entry (shown_by r w) e c in
      let kept = from-filter (λ m. is_some (interface_path r m)) (filter_map item_interface (items_of w)) n.0 n.1.0 in
      let path = some-of (interface_path r n.0) kept.1 in record {
        number = n.0;
        under = path.1 ∙ ap Some (sym (ap (λ (o : Option Text). unwrap_or o []) path.1) ∙ ap (λ (x : Text × InterfaceMeaning). x.0) n.1.1);
        is = ap (λ (x : Text × InterfaceMeaning). x.1) n.1.1;
      }

  to-shown : (e : Text × InterfaceMeaning) → Contains (interfaces_by_path r) e → Contains shown_entries e
  to-shown e c =
      let i = from-given named_entry r.interfaces.items e c in
      let n = contains-get r.interfaces.items i.0 i.1.0 in
      let path = mapped (λ (path : Text). (path, interface_meaning r i.0)) (path_of_interface r i.0) e i.1.1 in
      let at = path-at n.0 i.0 path.0 n.1 path.1 in
      subst (Contains shown_entries) ((λ j. (path.0, meaning-at n.0 i.0 n.1 j)) ∙ path.2) (shown-entry n.0 path.0 at)

  from-shown : (e : Text × InterfaceMeaning) → Contains shown_entries e → Contains (interfaces_by_path r) e
  from-shown e c =
      let x = entry-of e c in
      let i = given (path_of_interface r) (interface_at r x.number) e.0 x.under in
      let is : named_entry i.0 ≡ Some e = ap (option_map (λ path. (path, interface_meaning r i.0))) i.2 ∙ ap Some (λ j. (e.0, (sym (meaning-at x.number i.0 i.1) ∙ x.is) j)) in
      contains-filter_map named_entry r.interfaces.items i.0 e (get-contains r.interfaces.items x.number i.0 i.1)
      (subst (λ (o : Option (Text × InterfaceMeaning)). Contains (option_to_list o) e) (sym is) (contains-one e))

  pub one-value : (q : Text) (x y : InterfaceMeaning) → Contains shown_entries (q, x) → Contains shown_entries (q, y) → x ≡ y
  one-value q x y a b =
      let m = entry-of (q, x) a in
      let n = entry-of (q, y) b in
      sym m.is ∙ (ap (interface_meaning_at r) (path-once r v m.number n.number q m.under n.under) ∙ n.is)

  pub same-interfaces : from_entries {R = text_cmp} (interfaces_by_path r) ≡ by_path r (interface_meaning_at r) (shown_by r w)
  same-interfaces = same-entries (interfaces_by_path r) shown_entries to-shown from-shown one-value

  -- what is shown under a path
  pub shown-at : (n : ℕ) (path : Text) → interface_path r n ≡ Some path → get (by_path r (interface_meaning_at r) (shown_by r w)) path ≡ Some (interface_meaning_at r n)
  shown-at n path is =
      let entry = shown-entry n path is in
      let found = contains-find shown_entries path (interface_meaning_at r n) entry in
      get-from_entries nat_list_cmp_total shown_entries path ∙ (found.1 ∙ ap Some (one-value path found.0 (interface_meaning_at r n) (find-contains shown_entries path found.0 found.1) entry))

  -- ---- their paths

  abbrev pub shown_map : TextMap InterfaceMeaning
  shown_map = by_path r (interface_meaning_at r) (shown_by r w)

  pub path-shown : (n : ℕ) (path : Text) → interface_path r n ≡ Some path → Contains (keys shown_map) path
  path-shown n path is = Contains-from_any by_tie path (keys shown_map) (sym (contains_key-keys shown_map path) ∙ ap is_some (shown-at n path is))

  pub path-of : (path : Text) → Contains (keys shown_map) path → (n : ℕ) × (interface_path r n ≡ Some path)
  path-of path c =
      let there : is_some (get shown_map path) ≡ true = contains_key-keys shown_map path ∙ list_any-from_Contains (eq_by_cmp_equiv nat_list_cmp_total) path (keys shown_map) c in
      let x = some-of (get shown_map path) there in
      let e = entry-of (path, x.0) (find-contains shown_entries path x.0 (sym (get-from_entries nat_list_cmp_total shown_entries path) ∙ x.1)) in
      (e.number, e.under)

-- ---- The packages and the worlds of a `Resolve` that holds one world and nothing else.

-- a number that an option has

named-by : (t : Text) (o : Option (String Global)) → text_is o t ≡ true → (name : String Global) × (o ≡ Some name)
named-by t None e = let no : ⊥ = cc in absurd no
named-by t (Some name) e = (name, refl)

filled : {A : Type 0} (xs : List A) → has_items xs ≡ true → (x : A) × Contains xs x
filled [] e = let no : ⊥ = cc in absurd no
filled (x ∷ xs) e = (x, first-contained x xs)

module _ (r : Resolve) (v : IsValid r) where
  -- the package in which a path is
  pub package-of : (n : ℕ) (path : Text) (h : HasPath r n path) → package_of_path path ≡ package_text (identity_of h.package_.name) ∷ []
  package-of n path h = ap package_of_path h.spelled ∙ ap (λ o. option_map_or (λ p. package_text p.0 ∷ []) o [])
      (spelled_path_reads (identity_of h.package_.name) (text_of h.name) (package-name r v h.home.0 h.package_ h.stands).identity (path-label r v n path h))

  -- an interface that a package lists has a path in it
  pub record IsListedIn (p : Package) : Type 0 where
    pub number : ℕ
    pub path : Text
    pub under : interface_path r number ≡ Some path
    pub has_path : HasPath r number path
    pub is : has_path.package_ ≡ p

  pub listed-in : (j : ℕ) (p : Package) → package_at r j ≡ Some p → (e : String Global × InterfaceId) → Contains p.interfaces.entries e → IsListedIn p
  unfolding places numbers_in_range names_in_packages
  listed-in j p at e c =
      let range = first_true (list_all (λ id. in_list r.interfaces.items id.0) (values p.interfaces)) _
      (second_true (is_place j) _ (package-passes numbers_in_range r v.rules.numbers_in_range j p at)) in
      let there = found-in r.interfaces.items e.1.0 (all-contained (λ (id : InterfaceId). in_list r.interfaces.items id.0) (values p.interfaces) e.1 range
      (contains-map (λ (x : String Global × InterfaceId). x.1) p.interfaces.entries e c)) in
      let names = all-contained (λ x. passes (λ i. text_is i.name (text_of x.0)) (interface_at r x.1.0)) p.interfaces.entries e
      (first_true (list_all (λ x. passes (λ i. text_is i.name (text_of x.0)) (interface_at r x.1.0)) p.interfaces.entries) _ (package-passes names_in_packages r v.rules.names_in_packages j p at)) c in
      let belongs = all-contained (interface_belongs r j) p.interfaces.entries e
      (first_true (list_all (interface_belongs r j) p.interfaces.entries) _ (package-passes places r v.rules.places j p at)) c in
      let name = named-by (text_of e.0) there.0.name (ap (passes (λ (i : Interface). text_is i.name (text_of e.0))) (sym there.1) ∙ names) in
      let inside : (is_id j (package_number there.0.package) && text_eq (text_of name.0) (text_of e.0)) ≡ true
      = ap (passes (λ (t : String Global). is_id j (package_number there.0.package) && text_eq (text_of t) (text_of e.0))) (sym name.1)
      ∙ (ap (passes (λ (i : Interface). passes (λ (t : String Global). is_id j (package_number i.package) && text_eq (text_of t) (text_of e.0)) i.name)) (sym there.1) ∙ belongs) in
      let home = id-is j there.0.package (first_true (is_id j (package_number there.0.package)) _ inside) in
      let stands : package_at r home.0.0 ≡ Some p = ap (package_at r) home.2 ∙ at in
      let under : interface_path r e.1.0 ≡ Some (path_in (identity_of p.name) (text_of name.0))
      = ap (λ o. option_and_then (path_of_interface r) o) there.1
      ∙ (ap (λ o. option_and_then (λ (t : String Global). option_and_then (λ (q : PackageId). path_in_package r q.0 (text_of t)) there.0.package) o) name.1
      ∙ (ap (λ o. option_and_then (λ (q : PackageId). path_in_package r q.0 (text_of name.0)) o) home.1
      ∙ ap (λ (o : Option Package). option_map (λ q. path_in (identity_of q.name) (text_of name.0)) o) stands)) in record {
        number = e.1.0;
        path = path_in (identity_of p.name) (text_of name.0);
        under = under;
        has_path = record { def = there.0; there = there.1; name = name.0; named_ = name.1; home = home.0; in_package = home.1; package_ = p; stands = stands; spelled = refl };
        is = refl;
      }

  -- ---- packages

  module _ (w : World) (alone : (k : ℕ) (i : Interface) → interface_at r k ≡ Some i → has (filter_map item_interface (items_of w)) k ≡ true)
      (n : ℕ) (p : Package) (at : package_at r n ≡ Some p) (used : PackagesAreUsed r n) where
    abbrev shown_packages : List Text
    shown_packages = package_text (identity_of p.name) ∷ flat_map package_of_path (keys (shown_map r v w alone))

    abbrev name_of : Package → Text
    name_of q = package_text (identity_of q.name)

    of-listed : (q : Package) → IsListedIn q → Contains shown_packages (name_of q)
    of-listed q h = contains-later (package_text (identity_of p.name)) (flat_map package_of_path (keys (shown_map r v w alone))) (name_of q)
        (contains-flat package_of_path (keys (shown_map r v w alone)) h.path (name_of q) (path-shown r v w alone h.number h.path h.under)
        (subst (λ ts. Contains ts (name_of q)) (sym (package-of h.number h.path h.has_path ∙ ap (λ (x : Package). name_of x ∷ []) h.is)) (contains-one (name_of q))))

    of-package : (j : ℕ) (q : Package) → package_at r j ≡ Some q → Contains shown_packages (name_of q)
    of-package j q there = by (j == n) refl (used j q there)
      where
        by : (b : Bool) → (j == n) ≡ b → (b || has_items q.interfaces.entries) ≡ true → Contains shown_packages (name_of q)
        by true same h =
            let one : p ≡ q = some-same p q (sym at ∙ (ap (package_at r) (sym (equal j n same)) ∙ there)) in
            subst (λ (x : Package). Contains shown_packages (name_of x)) one (first-contained (name_of p) (flat_map package_of_path (keys (shown_map r v w alone))))
        by false same h = let e = filled q.interfaces.entries h in of-listed q (listed-in j q there e.0 e.1)

    to-packages : (t : Text) → Contains (package_texts r) t → Contains shown_packages t
    to-packages t c =
        let q = from-map name_of r.packages.items t c in
        let j = contains-get r.packages.items q.0 q.1.0 in
        subst (Contains shown_packages) q.1.1 (of-package j.0 q.0 j.1)

    from-packages : (t : Text) → Contains shown_packages t → Contains (package_texts r) t
    from-packages t (zero, l, same) = subst (Contains (package_texts r)) same (contains-map name_of r.packages.items p (get-contains r.packages.items n p at))
    from-packages t (suc i, l, same) =
        let x = from-flat package_of_path (keys (shown_map r v w alone)) t (i, omega (arith, l), same) in
        let m = path-of r v w alone x.0 x.1.0 in
        let h = has-path r m.0 x.0 m.1 in
        let is : name_of h.package_ ≡ t = one-contained (name_of h.package_) t (subst (λ ts. Contains ts t) (package-of m.0 x.0 h) x.1.1) in
        subst (Contains (package_texts r)) is (contains-map name_of r.packages.items h.package_ (get-contains r.packages.items h.home.0 h.package_ h.stands))

    pub same-packages : from_list {R = text_cmp} (package_texts r) ≡ from_list shown_packages
    same-packages = same-texts (package_texts r) shown_packages to-packages from-packages

-- ---- the world

pub one-world : (r : Resolve) (w : World) (path : Text) → r.worlds.items ≡ w ∷ [] → path_of_world r w ≡ Some path → worlds_by_path r ≡ (path, world_meaning r w) ∷ []
one-world r w path one is = search std_rules

-- ---- The keys of the functions of a world, by what it means.

-- ---- labels have no version

uncut : (c : ℕ) (t : Text) → list_all (λ b. not (b == c)) t ≡ true → cut c t ≡ None
unfolding cut
uncut c [] h = refl
uncut c (x ∷ xs) h = rw (isnt (x == c) (first_true (not (x == c)) _ h), uncut c xs (second_true (not (x == c)) _ h)) refl

pub label-stays : (t : Text) → is_label t ≡ true → scope_under t ≡ t
label-stays t h = search (std_rules, uncut, label_lacks)

-- the canonical part of a version, by its text
canonical-version : (o : Option Version) → passes is_version o ≡ true → option_map canonical_part (optional_version_text o) ≡ option_map (λ v. canonical_version (parts_of v)) o
canonical-version None h = refl
canonical-version (Some v) h = search (std_rules, version_parts-complete, valid_parts)

-- ---- names of functions

module _ (r : Resolve) where
  abbrev named_function : String Global × Function → Text × FunctionMeaning
  named_function e = (text_of e.0, function_meaning r e.1)

  pub name-there : (owner : Interface) (name : String Global) (f : Function) → Contains owner.functions.entries (name, f) → Contains (keys (interface_meaning r owner).functions) (text_of name)
  name-there owner name f c =
      let found = contains-find (map named_function owner.functions.entries) (text_of name) (function_meaning r f) (contains-map named_function owner.functions.entries (name, f) c) in
      Contains-from_any by_tie (text_of name) (keys (interface_meaning r owner).functions)
      (sym (contains_key-keys (interface_meaning r owner).functions (text_of name)) ∙ ap is_some
      (get-from_entries nat_list_cmp_total (map named_function owner.functions.entries) (text_of name) ∙ found.1))

  pub name-of : (owner : Interface) (t : Text) → Contains (keys (interface_meaning r owner).functions) t → (e : String Global × Function) × Contains owner.functions.entries e × (text_of e.0 ≡ t)
  name-of owner t c =
      let there : is_some (get (interface_meaning r owner).functions t) ≡ true =
      contains_key-keys (interface_meaning r owner).functions t ∙ list_any-from_Contains (eq_by_cmp_equiv nat_list_cmp_total) t (keys (interface_meaning r owner).functions) c in
      let x = some-of (get (interface_meaning r owner).functions t) there in
      let found = find-contains (map named_function owner.functions.entries) t x.0 (sym (get-from_entries nat_list_cmp_total (map named_function owner.functions.entries) t) ∙ x.1) in
      let e = from-map named_function owner.functions.entries (t, x.0) found in
      (e.0, e.1.0, ap (λ (p : Text × FunctionMeaning). p.0) e.1.1)

none-named : (t : Text) → Contains (keys {X = FunctionMeaning} {R = text_cmp} empty) t → ⊥
none-named t c =
    let there : is_some (get {X = FunctionMeaning} {R = text_cmp} empty t) ≡ true =
    contains_key-keys empty t ∙ list_any-from_Contains (eq_by_cmp_equiv nat_list_cmp_total) t (keys {X = FunctionMeaning} {R = text_cmp} empty) c in
    let wrong : false ≡ true = sym (ap is_some (get-empty {X = FunctionMeaning} text_cmp t)) ∙ there in
    let no : ⊥ = cc in no

-- ---- what stands in front of a function

module _ (r : Resolve) (v : IsValid r) where
  pub full-name-of : (n : ℕ) (path : Text) (h : HasPath r n path) → full_name r n ≡ Some (h.package_.name, h.name)
  full-name-of n path h = search std_rules

  pub scope-of-path : (id : InterfaceId) (path : Text) → interface_path r id.0 ≡ Some path → scope_of r (key.Interface id) ≡ Some (scope_under (key_text r (key.Interface id)))
  scope-of-path id path is =
      let h = has-path r id.0 path is in
      let p = package-name r v h.home.0 h.package_ h.stands in
      let canonical : canonical_identity (identity_of h.package_.name) ≡ canonical_identity_of h.package_.name
      = λ i. record { namespace = text_of h.package_.name.namespace; name = text_of h.package_.name.name; version = canonical-version h.package_.name.version p.version i } in
      canonical-by-name r id.0 ∙ (ap (option_map (λ (e : PackageName × String Global). path_in (canonical_identity_of e.0) (text_of e.1))) (full-name-of id.0 path h)
      ∙ ap Some (sym (ap (λ (o : Option Text). scope_under (unwrap_or o [])) is
      ∙ (ap scope_under h.spelled ∙ (ap (λ (o : Option (PackageIdentity × Text)). option_map_or (λ (q : PackageIdentity × Text). path_in (canonical_identity q.0) q.1) o
      (path_in (identity_of h.package_.name) (text_of h.name))) (spelled_path_reads (identity_of h.package_.name) (text_of h.name) p.identity (path-label r v id.0 path h))
      ∙ ap (λ q. path_in q (text_of h.name)) canonical)))))

  -- An interface stands under a label, or under its own number and with a name. Anything else stands under a name.
  abbrev pub Stands : WorldKey → WorldItem → Type 0
  Stands (key.Name name) (item.Interface id stability docs external_id) = is_label (text_of name) ≡ true
  Stands (key.Name name) (item.Function f) = Unit {0}
  Stands (key.Name name) (item.Type_ id) = Unit {0}
  Stands (key.Interface id) shown = is_interface_key r id.0 shown ≡ true

  pub scope-key : (scope : WorldKey) (shown : WorldItem) (n : ℕ) (owner : Interface) → item_interface shown ≡ Some n → Stands scope shown → interface_at r n ≡ Some owner → (t : Text)
      → function_key r scope t ≡ Some (text_under (scope_under (key_text r scope)) t)
  scope-key (key.Name name) (item.Interface id stability docs external_id) n owner of stands at t = ap (λ s. Some (text_under s t)) (sym (label-stays (text_of name) stands))
  scope-key (key.Name name) (item.Function f) n owner of stands at t = let no : ⊥ = cc in absurd no
  scope-key (key.Name name) (item.Type_ id) n owner of stands at t = let no : ⊥ = cc in absurd no
  scope-key (key.Interface id) shown n owner of stands at t =
      let here : n ≡ id.0 = equal n id.0 (ap (is_id id.0) (sym of) ∙ first_true (is_id id.0 (item_interface shown)) _ stands) in
      let there : interface_at r id.0 ≡ Some owner = ap (interface_at r) (sym here) ∙ at in
      let named : is_some owner.name ≡ true = ap (passes (λ (other : Interface). is_some other.name)) (sym there) ∙ second_true (is_id id.0 (item_interface shown)) _ stands in
      let path = some-of (interface_path r id.0) (named-path r v id.0 (ap (λ (o : Option Interface). option_map_or (λ other. is_some other.name) o false) there ∙ named)) in
      ap (option_map (λ text. text_under text t)) (scope-of-path id path.0 path.1)

  -- ---- the keys of items

  module _ (w : World) (alone : (k : ℕ) (i : Interface) → interface_at r k ≡ Some i → has (filter_map item_interface (items_of w)) k ≡ true)
      (items : Items) (stands : (scope : WorldKey) (shown : WorldItem) → Contains items (scope, shown) → Stands scope shown) where
    abbrev shown_here : TextMap InterfaceMeaning
    shown_here = shown_map r v w alone

    abbrev meant_entry : WorldKey × WorldItem → Text × Entry InterfaceMeaning
    meant_entry e = (key_text r e.0, entry_meaning r e.1)

    abbrev pub keys_meant : List Text
    keys_meant = entry_keys shown_here (entries_meaning r items)

    -- the keys of the functions of an interface, named or not
    keys-of-shown : (front : Text) (n : ℕ) (external_id : Option Text)
        → keys_of_entry shown_here (front, record { item = interface_item r n; external_id = external_id }) ≡ map (text_under (scope_under front)) (keys (interface_meaning_at r n).functions)
    keys-of-shown front n external_id = by (interface_path r n) refl
      where
        by : (o : Option Text) → interface_path r n ≡ o
            → keys_of_entry shown_here (front, record { item = option_map_or interface o (inline (interface_meaning_at r n)); external_id = external_id }) ≡ map (text_under (scope_under front))
            (keys (interface_meaning_at r n).functions)
        by None is = refl
        by (Some path) is = ap (λ o. map (text_under (scope_under front)) (functions_by_name o)) (shown-at r v w alone n path is)

    of-member : (scope : WorldKey) (shown : WorldItem) (n : ℕ) (owner : Interface) (name : String Global) (f : Function) (k : Text) → Contains items (scope, shown) → item_interface shown ≡ Some n
        → interface_at r n ≡ Some owner → Contains owner.functions.entries (name, f) → function_key r scope (text_of name) ≡ Some k → Contains (keys_of_entry shown_here (meant_entry (scope, shown))) k
    of-member scope (item.Interface id stability docs external_id) n owner name f k c of at in_owner is =
        let number : id.0 ≡ n = same-some id.0 n of in
        let there : interface_at r id.0 ≡ Some owner = ap (interface_at r) number ∙ at in
        let listed : Contains (keys (interface_meaning_at r id.0).functions) (text_of name)
        = subst (λ (x : InterfaceMeaning). Contains (keys x.functions) (text_of name)) (sym (meaning-at r v w alone id.0 owner there)) (name-there r owner name f in_owner) in
        let same : text_under (scope_under (key_text r scope)) (text_of name) ≡ k
        = same-some _ k (sym (scope-key scope (item.Interface id stability docs external_id) n owner of (stands scope (item.Interface id stability docs external_id) c) at (text_of name)) ∙ is) in
        subst (λ ks. Contains ks k) (sym (keys-of-shown (key_text r scope) id.0 (entry_meaning r (item.Interface id stability docs external_id)).external_id))
        (subst (Contains (map (text_under (scope_under (key_text r scope))) (keys (interface_meaning_at r id.0).functions))) same
        (contains-map (text_under (scope_under (key_text r scope))) (keys (interface_meaning_at r id.0).functions) (text_of name) listed))
    of-member scope (item.Function g) n owner name f k c of at in_owner is = let no : ⊥ = cc in absurd no
    of-member scope (item.Type_ id) n owner name f k c of at in_owner is = let no : ⊥ = cc in absurd no

    pub to-meant : (k : Text) → IsFunctionKey r items k → Contains keys_meant k
    to-meant k (of_item i) = contains-flat (keys_of_entry shown_here) (entries_meaning r items) (meant_entry (key.Name i.name, item.Function i.function)) k
        (contains-map meant_entry items (key.Name i.name, item.Function i.function) i.stands)
        (subst (Contains (text_under (text_of i.name) (text_of i.name) ∷ [])) (sym i.is) (contains-one (text_under (text_of i.name) (text_of i.name))))
    to-meant k (of_interface i) = contains-flat (keys_of_entry shown_here) (entries_meaning r items) (meant_entry (i.scope, i.shown)) k (contains-map meant_entry items (i.scope, i.shown) i.stands)
        (of-member i.scope i.shown i.number i.owner i.name i.function k i.stands i.of i.at i.has i.is)

    -- and back
    of-owner : (scope : WorldKey) (shown : WorldItem) (n : ℕ) → item_interface shown ≡ Some n → Contains items (scope, shown) → (t k : Text) → text_under (scope_under (key_text r scope)) t ≡ k
        → (o : Option Interface) → interface_at r n ≡ o → Contains (keys (option_map_or (interface_meaning r) o no_interface).functions) t → IsFunctionKey r items k
    of-owner scope shown n of c t k is None at named = absurd (none-named t named)
    of-owner scope shown n of c t k is (Some owner) at named =
        let e = name-of r owner t named in
        of_interface (record {
          scope = scope;
          shown = shown;
          stands = c;
          number = n;
          of = of;
          owner = owner;
          at = at;
          name = e.0.0;
          function = e.0.1;
          has = e.1;
          is = ap (function_key r scope) e.2 ∙ (scope-key scope shown n owner of (stands scope shown c) at t ∙ ap Some is);
        })

    of-entry : (scope : WorldKey) (shown : WorldItem) (k : Text) → Contains items (scope, shown) → Stands scope shown → Contains (keys_of_entry shown_here (meant_entry (scope, shown))) k
        → IsFunctionKey r items k
    of-entry scope (item.Interface id stability docs external_id) k c stood listed =
        let t = from-map (text_under (scope_under (key_text r scope))) (keys (interface_meaning_at r id.0).functions) k
        (subst (λ ks. Contains ks k) (keys-of-shown (key_text r scope) id.0 (entry_meaning r (item.Interface id stability docs external_id)).external_id) listed) in
        of-owner scope (item.Interface id stability docs external_id) id.0 refl c t.0 k t.1.1 (interface_at r id.0) refl t.1.0
    of-entry (key.Name name) (item.Function f) k c stood listed = of_item
        (record { name = name; function = f; stands = c; is = sym (one-contained (text_under (text_of name) (text_of name)) k listed) })
    of-entry (key.Interface id) (item.Function f) k c stood listed = let no : ⊥ = cc in absurd no
    of-entry scope (item.Type_ id) k c stood listed = none-in k listed

    pub from-meant : (k : Text) → Contains keys_meant k → IsFunctionKey r items k
    from-meant k c =
        let e = from-flat (keys_of_entry shown_here) (entries_meaning r items) k c in
        let x = from-map meant_entry items e.0 e.1.0 in
        of-entry x.0.0 x.0.1 k x.1.0 (stands x.0.0 x.0.1 x.1.0) (subst (λ y. Contains (keys_of_entry shown_here y) k) (sym x.1.1) e.1.1)

    -- ---- the map of their encodings

    abbrev encoded : StringEncoding → List (Text × StringEncoding)
    encoded encoding = map (λ k. (k, encoding)) keys_meant

    pub same-encodings : (encoding : StringEncoding) (m : Encodings) → MapsFunctions r items encoding m → m ≡ all_encoded keys_meant encoding
    same-encodings encoding m maps = same_map nat_list_cmp_total (slice_cmp-IsAntisymmetric nat_cmp-IsAntisymmetric) m (all_encoded keys_meant encoding)
        (λ k. alike k (get m k) (find text_cmp k (encoded encoding)) refl refl ∙ sym (get-from_entries nat_list_cmp_total (encoded encoding) k))
      where
        in-list : (k : Text) (y : StringEncoding) → find text_cmp k (encoded encoding) ≡ Some y → Contains keys_meant k × (encoding ≡ y)
        in-list k y found =
            let x = from-map (λ (t : Text). (t, encoding)) keys_meant (k, y) (find-contains (encoded encoding) k y found) in
            (subst (Contains keys_meant) (ap (λ (p : Text × StringEncoding). p.0) x.1.1) x.1.0, ap (λ (p : Text × StringEncoding). p.1) x.1.1)

        alike : (k : Text) (o p : Option StringEncoding) → get m k ≡ o → find text_cmp k (encoded encoding) ≡ p → get m k ≡ find text_cmp k (encoded encoding)
        alike k None None e f = e ∙ sym f
        alike k (Some x) (Some y) e f = e ∙ (ap Some ((maps.only k x e).1 ∙ (in-list k y f).1) ∙ sym f)
        alike k (Some x) None e f =
            let y = contains-find (encoded encoding) k encoding (contains-map (λ (t : Text). (t, encoding)) keys_meant k (to-meant k (maps.only k x e).0)) in
            let no : None ≡ Some y.0 = sym f ∙ y.1 in let wrong : ⊥ = cc in absurd wrong
        alike k None (Some y) e f =
            let no : None ≡ Some encoding = sym e ∙ maps.each k (from-meant k (in-list k y f).0) in let wrong : ⊥ = cc in absurd wrong

-- ---- what stands where

module _ (r : Resolve) (v : IsValid r) (n : ℕ) (w : World) (at : world_at r n ≡ Some w) where
  labelled : (entries_labels w.imports.entries && entries_labels w.exports.entries) ≡ true
  unfolding labels
  labelled = second_true (is_stability w.stability) _ (second_true (is_label (text_of w.name)) _ (world-passes labels r v.rules.labels n w at))

  placed : (list_all (λ e. import_stands r n e.0 e.1) w.imports.entries && list_all (λ e. export_stands r e.0 e.1) w.exports.entries) ≡ true
  unfolding world_items
  placed = world-passes world_items r v.rules.world_items n w at

  by-import : (scope : WorldKey) (shown : WorldItem) → key_label scope shown ≡ true → import_stands r n scope shown ≡ true → Stands r v scope shown
  by-import x shown k s = search std_rules

  by-export : (scope : WorldKey) (shown : WorldItem) → key_label scope shown ≡ true → export_stands r scope shown ≡ true → Stands r v scope shown
  by-export x shown k s = search std_rules

  pub import-stands : (scope : WorldKey) (shown : WorldItem) → Contains w.imports.entries (scope, shown) → Stands r v scope shown
  import-stands scope shown c = by-import scope shown
      (first_true (key_label scope shown) _ (all-contained (λ e. key_label e.0 e.1 && item_labels e.1) w.imports.entries (scope, shown) (first_true (entries_labels w.imports.entries) _ labelled) c))
      (all-contained (λ e. import_stands r n e.0 e.1) w.imports.entries (scope, shown) (first_true (list_all (λ e. import_stands r n e.0 e.1) w.imports.entries) _ placed) c)

  pub export-stands : (scope : WorldKey) (shown : WorldItem) → Contains w.exports.entries (scope, shown) → Stands r v scope shown
  export-stands scope shown c = by-export scope shown
      (first_true (key_label scope shown) _ (all-contained (λ e. key_label e.0 e.1 && item_labels e.1) w.exports.entries (scope, shown) (second_true (entries_labels w.imports.entries) _ labelled) c))
      (all-contained (λ e. export_stands r e.0 e.1) w.exports.entries (scope, shown) (second_true (list_all (λ e. import_stands r n e.0 e.1) w.imports.entries) _ placed) c)

-- ---- the binding

-- A world of a `Resolve` that holds it and nothing else, with an encoding for each of its functions.
module _ (b : Bindgen) (v : IsValid b.resolve) (w : World) (stands : world_at b.resolve b.world.0 ≡ Some w) (home : PackageId) (in_package : w.package ≡ Some home) (p : Package)
    (at_home : package_at b.resolve home.0 ≡ Some p) (alone : HoldsWorldAlone b.resolve home.0 w) (encoding : StringEncoding)
    (imports : MapsFunctions b.resolve (imports_of b.resolve b.world.0) encoding b.metadata.import_encodings)
    (exports : MapsFunctions b.resolve (exports_of b.resolve b.world.0) encoding b.metadata.export_encodings) where
  abbrev meant : WorldPackage
  meant = world_package b.resolve p w

  abbrev has_meant : HasMeaning b.resolve b.world.0 meant
  has_meant = record { world = w; stands = stands; home = home; in_package = in_package; package_ = p; at_home = at_home; means = refl }

  imported : MapsFunctions b.resolve w.imports.entries encoding b.metadata.import_encodings
  imported = subst (λ es. MapsFunctions b.resolve es encoding b.metadata.import_encodings) (ap (λ (o : Option World). option_map_or (λ x. x.imports.entries) o []) stands) imports

  exported : MapsFunctions b.resolve w.exports.entries encoding b.metadata.export_encodings
  exported = subst (λ es. MapsFunctions b.resolve es encoding b.metadata.export_encodings) (ap (λ (o : Option World). option_map_or (λ x. x.exports.entries) o []) stands) exports

  pub same-binding : binding_of b ≡ binding_of_world meant encoding
  same-binding = λ i. record {
    packages = same-packages b.resolve v w alone.interfaces home.0 p at_home alone.packages i;
    interfaces = same-interfaces b.resolve v w alone.interfaces i;
    worlds = from_entries (one-world b.resolve w (world_path meant) alone.one (world-path b.resolve b.world.0 meant has_meant) i);
    path = path-there b.resolve b.world.0 meant has_meant i;
    bound = meaning-there b.resolve b.world.0 meant has_meant i;
    imported_encodings = same-encodings b.resolve v w alone.interfaces w.imports.entries (import-stands b.resolve v b.world.0 w stands) encoding b.metadata.import_encodings imported i;
    exported_encodings = same-encodings b.resolve v w alone.interfaces w.exports.entries (export-stands b.resolve v b.world.0 w stands) encoding b.metadata.export_encodings exported i;
  }

pub sections_bind_their_worlds : SectionsBindTheirWorlds
sections_bind_their_worlds d b m e bound means =
    let h = has-meaning b.resolve b.world.0 m ((bound.decoded.meant m).1 means.reads) in
    let one : bound.decoded.world ≡ h.world = some-same bound.decoded.world h.world (sym bound.decoded.stands ∙ h.stands) in
    let home : bound.decoded.package_ ≡ h.home.0
    = some-same bound.decoded.package_ h.home.0 (sym bound.decoded.home ∙ (ap (λ (x : World). option_map (λ (id : PackageId). id.0) x.package) one ∙ ap (option_map (λ (id : PackageId). id.0))
    h.in_package)) in
    let alone : HoldsWorldAlone b.resolve h.home.0 h.world = subst (λ n. HoldsWorldAlone b.resolve n h.world) home (subst (HoldsWorldAlone b.resolve bound.decoded.package_) one bound.decoded.alone) in
    let said : bound.encoding ≡ e = ok-same bound.encoding e (read-back e d (Ok bound.encoding) means.says bound.says) in
    let same : binding_of b ≡ binding_of_world (world_package b.resolve h.package_ h.world) bound.encoding
    = same-binding b bound.decoded.valid h.world h.stands h.home h.in_package h.package_ h.at_home alone bound.encoding bound.imports bound.exports in
    let long : length b.resolve.worlds.items ≡ 1 = ap length alone.one in
    let first : b.world.0 ≡ 0 = bound.decoded.first in (
      record { valid = bound.decoded.valid; in_range = omega (arith, long, first) },
      subst (λ x. binding_of b ≡ binding_of_world x e) h.means (subst (λ x. binding_of b ≡ binding_of_world (world_package b.resolve h.package_ h.world) x) said same),
    )
