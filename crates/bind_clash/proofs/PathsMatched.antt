-- What is matched by names stands under the path of the other's, and what stands under that path is matched.
use Rattle.std.proofs.Common.{rules as std_rules, ◌≡◌, refl, sym, ap, ◌∙◌, arith, ℕ, zero, suc, ◌+◌, Bool, true, false, ◌&&◌, cond, List, [], ◌∷◌, map, slice_get, Option, Some, None, option_map, option_and_then, String, is_none}
use Rattle.std.proofs.lemmas.{Option.slice_get-map, Option.same_Some as same-some, Slice.Eq.bytes_eq-Decides, Bool.and_from as both}
use Rattle.std.specs.{HashMap.get_by_text}
use Rattle.std.specs.declared.alloc.Global.{Global}
use Rattle.wit_model.specs.declared.model.{Interface.Interface, InterfaceId.InterfaceId, Package.Package, PackageId.PackageId, PackageName.PackageName}
use Rattle.wit_model.specs.declared.model.{Resolve.Resolve, World.World, WorldId.WorldId}
use Rattle.wit_model.specs.{Text.Text, Text.text_eq, Text.text_of, Names.PackageIdentity, Names.is_identity, Names.is_label, Names.path_in, Valid.IsValid}
use Rattle.wit_model.specs.Lookup.{identity_of, interface_at, interface_path, optional_version_text, package_at, path_of_interface, path_of_world, world_at}
use Rattle.wit_model.specs.Rules.{interface_is_listed, is_id, package_number, same_package_name, text_is, world_is_listed}
use Rattle.wit_model.proofs.{NameLaws.one_path, VersionLaws.same_name, RulesLemmas.is_id_some as some_id, TextLemmas.text_same as text-same}
use Rattle.wit_model.proofs.{OnePath.has-path, OnePath.package-name, OnePath.package-once, OnePath.path-label, OnePath.path-listed, LookupLemmas.versionless}
use Rattle.bind_meaning.specs.Roots.{root, root_meaning, root_path}
use Rattle.bind_meaning.proofs.{Listed.given as unpacked, WorldPaths.has-world-path, WorldPaths.path_at, WorldPaths.world-label, WorldPaths.world-listed}
use Rattle.bind_union.specs.Merged.{interface_names, world_names}
use Rattle.bind_union.proofs.{Carrying.path_by, Carrying.path_parts, Namesakes.under_contains, PackageNames.interfaces_by_name, PackageNames.worlds_by_name}
use Rattle.bind_union.proofs.KeptPackages.{found_option, interfaces_stand, is_interface_of, is_world_of, worlds_stand}
use Rattle.bind_union.proofs.{United.some_name, UnitedWorlds.world_path}
use Rattle.bind_match.specs.Matching.{given, home_in, interface_in, is_root_name, is_root_world, own_interface_of, own_package_of, package_from, world_in}
use Rattle.base_lemmas.proofs.{Bools.left_of as first_true, Bools.right_of as second_true, Elements.all-contained, Options.none_is as no-version}

pub untrue : {A : Type 0} → false ≡ true → A
untrue e = let no : ⊥ = cc in absurd no

-- ---- packages by name

abbrev numbered : ℕ → PackageId
numbered n = record { 0 = n }

-- the first package of the name, and its place
record IsFirstNamed (name : PackageName) (n : ℕ) (ps : List Package) (g : PackageId) : Type 0 where
  place : ℕ
  number : g.0 ≡ n + place
  package_ : Package
  stands : slice_get ps place ≡ Some package_
  named : same_package_name name package_.name ≡ true

first-named : (name : PackageName) (n : ℕ) (ps : List Package) (g : PackageId) → package_from name n ps ≡ Some g → IsFirstNamed name n ps g
first-named name n [] g e = let no : ⊥ = cc in absurd no
first-named name n (p ∷ ps) g e = by (same_package_name name p.name) refl e (λ f. first-named name (n + 1) ps g f)
  where
    by : (b : Bool) → same_package_name name p.name ≡ b → cond b (Some (numbered n)) (package_from name (n + 1) ps) ≡ Some g → (package_from name (n + 1) ps ≡ Some g → IsFirstNamed name (n + 1) ps g)
        → IsFirstNamed name n (p ∷ ps) g
    by true s f later =
        let here : n ≡ n + 0 = omega arith in
        record { place = 0; number = ap (λ (x : PackageId). x.0) (sym (same-some (numbered n) g f)) ∙ here; package_ = p; stands = refl; named = s }
    by false s f later =
        let z = later f in
        let k = z.place in
        let there : (n + 1) + k ≡ n + suc k = omega arith in
        record { place = suc z.place; number = z.number ∙ there; package_ = z.package_; stands = z.stands; named = z.named }

-- where a package of the name stands, one is found
some-named : (name : PackageName) (n : ℕ) (ps : List Package) (k : ℕ) (p : Package) → slice_get ps k ≡ Some p → same_package_name name p.name ≡ true → (g : PackageId)
    × (package_from name n ps ≡ Some g)
some-named name n [] k p e s = let no : ⊥ = cc in absurd no
some-named name n (q ∷ ps) k p e s = by (same_package_name name q.name) refl k e (λ j f. some-named name (n + 1) ps j p f s)
  where
    by : (b : Bool) → same_package_name name q.name ≡ b → (k : ℕ) → slice_get (q ∷ ps) k ≡ Some p → ((j : ℕ) → slice_get ps j ≡ Some p → (g : PackageId) × (package_from name (n + 1) ps ≡ Some g))
        → (g : PackageId) × (cond b (Some (numbered n)) (package_from name (n + 1) ps) ≡ Some g)
    by true t k f later = (numbered n, refl)
    by false t zero f later = untrue (sym t ∙ (ap (λ (x : Package). same_package_name name x.name) (same-some q p f) ∙ s))
    by false t (suc j) f later = later j f

-- ---- the path of a name in a package

pub record IsPathOf (r : Resolve) (home : Option PackageId) (name t : Text) : Type 0 where
  pub id : PackageId
  pub home_is : home ≡ Some id
  pub package_ : Package
  pub stands : package_at r id.0 ≡ Some package_
  pub spelled : t ≡ path_in (identity_of package_.name) name
  pub label : is_label name ≡ true

module _ (r : Resolve) (v : IsValid r) where
  interface-path-of : (n : ℕ) (i : Interface) → interface_at r n ≡ Some i → (t : Text) → path_of_interface r i ≡ Some t → (s : String Global)
      × ((i.name ≡ Some s) × IsPathOf r i.«package» (text_of s) t)
  interface-path-of n i at t e =
      let h = has-path r n t (ap (option_and_then (path_of_interface r)) at ∙ e) in
      let one : i ≡ h.def = same-some i h.def (sym at ∙ h.there) in (
        h.name,
        (
          ap (λ (x : Interface). x.name) one ∙ h.named_,
          record {
            id = h.home;
            home_is = ap (λ (x : Interface). x.«package») one ∙ h.in_package;
            package_ = h.package_;
            stands = h.stands;
            spelled = h.spelled;
            label = path-label r v n t h;
          },
        ),
      )

  pub world-path-of : (n : ℕ) (w : World) → world_at r n ≡ Some w → (t : Text) → path_of_world r w ≡ Some t → IsPathOf r w.«package» (text_of w.name) t
  world-path-of n w at t e =
      let h = has-world-path r n t (ap (option_and_then (path_of_world r)) at ∙ e) in
      let one : w ≡ h.def = same-some w h.def (sym at ∙ h.there) in record {
        id = h.home;
        home_is = ap (λ (x : World). x.«package») one ∙ h.in_package;
        package_ = h.package_;
        stands = h.stands;
        spelled = h.spelled ∙ ap (λ (x : World). path_in (identity_of h.package_.name) (text_of x.name)) (sym one);
        label = ap (λ (x : World). is_label (text_of x.name)) one ∙ world-label r v n t h;
      }

-- what is listed under a number
listed-interface : (j : ℕ) (o : Option InterfaceId) → is_id j (option_map (λ id. id.0) o) ≡ true → (id : InterfaceId) × ((o ≡ Some id) × (id.0 ≡ j))
listed-interface j x h = search std_rules

listed-world : (j : ℕ) (o : Option WorldId) → is_id j (option_map (λ id. id.0) o) ≡ true → (id : WorldId) × ((o ≡ Some id) × (id.0 ≡ j))
listed-world j x h = search std_rules

-- ---- the own package of that name, and what stands in it

module _ (own other : Resolve) (v : IsValid own) (u : IsValid other) (packages : List (Option PackageId)) (are : packages ≡ map (own_package_of own.packages.items) other.packages.items) where
  module _ (home : Option PackageId) (name t : Text) (is : IsPathOf other home name t) where
    home-own : home_in packages home ≡ own_package_of own.packages.items is.package_
    home-own =
        let f = own_package_of own.packages.items in
        ap (option_and_then (λ (id : PackageId). given (slice_get packages id.0))) is.home_is
        ∙ (ap (λ (xs : List (Option PackageId)). given (slice_get xs is.id.0)) are
        ∙ (ap given (slice_get-map f other.packages.items is.id.0) ∙ ap (λ (o : Option Package). given (option_map f o)) is.stands))

    record IsOwnHome (g : PackageId) : Type 0 where
      package_ : Package
      stands : package_at own g.0 ≡ Some package_
      identity : identity_of package_.name ≡ identity_of is.package_.name

    own-home : (g : PackageId) → home_in packages home ≡ Some g → IsOwnHome g
    own-home g e =
        let z = first-named is.package_.name 0 own.packages.items g (sym home-own ∙ e) in
        let k = z.place in
        let none_before : 0 + k ≡ k = omega arith in
        let stands : package_at own g.0 ≡ Some z.package_ = ap (package_at own) (z.number ∙ none_before) ∙ z.stands in
        record {
          package_ = z.package_;
          stands = stands;
          identity = sym ((same_name is.package_.name z.package_.name (package-name other u is.id.0 is.package_ is.stands).version (package-name own v g.0 z.package_ stands).version).0 z.named);
        }

    home-there : (j : ℕ) (p : Package) → package_at own j ≡ Some p → identity_of p.name ≡ identity_of is.package_.name → (g : PackageId) × ((home_in packages home ≡ Some g) × (g.0 ≡ j))
    home-there j p at same =
        let theirs = package-name other u is.id.0 is.package_ is.stands in
        let ours = package-name own v j p at in
        let z = some-named is.package_.name 0 own.packages.items j p at ((same_name is.package_.name p.name theirs.version ours.version).1 (sym same)) in
        let found : home_in packages home ≡ Some z.0 = home-own ∙ z.1 in
        let h = own-home z.0 found in
        let again = package-name own v z.0.0 h.package_ h.stands in
        (z.0, (found, package-once own v j z.0.0 p h.package_ at h.stands ((same_name p.name h.package_.name ours.version again.version).1 (same ∙ sym h.identity))))

    -- the path of the name in the own package
    own-path : (g : PackageId) (p : Package) → home_in packages home ≡ Some g → package_at own g.0 ≡ Some p → path_by own (Some name) (Some g.0) ≡ Some t
    own-path g p e at =
        let h = own-home g e in
        let one : p ≡ h.package_ = same-some p h.package_ (sym at ∙ h.stands) in
        ap (option_map (λ (x : Package). path_in (identity_of x.name) name)) at
        ∙ ap Some (ap (λ (x : PackageIdentity). path_in x name) (ap (λ (x : Package). identity_of x.name) one ∙ h.identity) ∙ sym is.spelled)

    -- ---- interfaces

    pub interface-in-has : (id : InterfaceId) → interface_in own packages home name ≡ Some id → interface_path own id.0 ≡ Some t
    interface-in-has id e =
        let a = unpacked (λ (g : PackageId). option_and_then (λ (p : Package). get_by_text p.interfaces name) (package_at own g.0)) (home_in packages home) id e in
        let b = unpacked (λ (p : Package). get_by_text p.interfaces name) (package_at own a.0.0) id a.2 in
        let held = under_contains name (interface_names b.0) id.0 (sym (interfaces_by_name b.0 name) ∙ ap (option_map (λ (x : InterfaceId). x.0)) b.2) in
        let i = found_option _ (interface_at own id.0) (all-contained (is_interface_of own a.0.0) (interface_names b.0) (name, id.0) (interfaces_stand own v.rules a.0.0 b.0 b.1) held) in
        ap (option_and_then (path_of_interface own)) i.1 ∙ (path_parts own i.0
        ∙ ((λ z. path_by own (some_name i.0.name name (first_true _ _ i.2) z) (some_id a.0.0 (package_number i.0.«package») (second_true (text_is i.0.name name) _ i.2) z)) ∙ own-path a.0 b.0 a.1 b.1))

    pub interface-in-there : (j : ℕ) → interface_path own j ≡ Some t → (id : InterfaceId) × ((interface_in own packages home name ≡ Some id) × (id.0 ≡ j))
    interface-in-there j e =
        let h = has-path own j t e in
        let parts = one_path (identity_of h.package_.name) (identity_of is.package_.name) (text_of h.name) name (package-name own v h.home.0 h.package_ h.stands).identity (path-label own v j t h)
        (package-name other u is.id.0 is.package_ is.stands).identity is.label (sym h.spelled ∙ is.spelled) in
        let g = home-there h.home.0 h.package_ h.stands parts.0 in
        let found = listed-interface j (get_by_text h.package_.interfaces name) (ap (λ (s : Text). interface_is_listed j s h.package_) (sym parts.1) ∙ path-listed own v j t h) in (
          found.0,
          (
            ap (option_and_then (λ (x : PackageId). option_and_then (λ (p : Package). get_by_text p.interfaces name) (package_at own x.0))) g.1.0
                ∙ (ap (option_and_then (λ (p : Package). get_by_text p.interfaces name)) (ap (package_at own) g.1.1 ∙ h.stands) ∙ found.1.0),
            found.1.1,
          ),
        )

    -- ---- worlds

    pub world-in-has : (id : WorldId) → world_in own packages home name ≡ Some id → path_at own id.0 ≡ Some t
    world-in-has id e =
        let a = unpacked (λ (g : PackageId). option_and_then (λ (p : Package). get_by_text p.worlds name) (package_at own g.0)) (home_in packages home) id e in
        let b = unpacked (λ (p : Package). get_by_text p.worlds name) (package_at own a.0.0) id a.2 in
        let held = under_contains name (world_names b.0) id.0 (sym (worlds_by_name b.0 name) ∙ ap (option_map (λ (x : WorldId). x.0)) b.2) in
        let w = found_option _ (world_at own id.0) (all-contained (is_world_of own a.0.0) (world_names b.0) (name, id.0) (worlds_stand own v.rules a.0.0 b.0 b.1) held) in
        let same : text_of w.0.name ≡ name = text-same (text_of w.0.name) name (first_true _ _ w.2) in
        ap (option_and_then (path_of_world own)) w.1 ∙ (world_path own w.0 ∙ ((λ z. path_by own (Some (same z))
        (some_id a.0.0 (package_number w.0.«package») (second_true (text_eq (text_of w.0.name) name) _ w.2) z)) ∙ own-path a.0 b.0 a.1 b.1))

    pub world-in-there : (j : ℕ) → path_at own j ≡ Some t → (id : WorldId) × ((world_in own packages home name ≡ Some id) × (id.0 ≡ j))
    world-in-there j e =
        let h = has-world-path own j t e in
        let parts = one_path (identity_of h.package_.name) (identity_of is.package_.name) (text_of h.def.name) name (package-name own v h.home.0 h.package_ h.stands).identity (world-label own v j t h)
        (package-name other u is.id.0 is.package_ is.stands).identity is.label (sym h.spelled ∙ is.spelled) in
        let g = home-there h.home.0 h.package_ h.stands parts.0 in
        let found = listed-world j (get_by_text h.package_.worlds name) (ap (λ (s : Text). world_is_listed j s h.package_) (sym parts.1) ∙ world-listed own v j t h) in (
          found.0,
          (
            ap (option_and_then (λ (x : PackageId). option_and_then (λ (p : Package). get_by_text p.worlds name) (package_at own x.0))) g.1.0
                ∙ (ap (option_and_then (λ (p : Package). get_by_text p.worlds name)) (ap (package_at own) g.1.1 ∙ h.stands) ∙ found.1.0),
            found.1.1,
          ),
        )

  -- ---- the other's interfaces, with a path

  module _ (n : ℕ) (i : Interface) (at : interface_at other n ≡ Some i) (t : Text) (e : path_of_interface other i ≡ Some t) where
    pub own-interface-has : (id : InterfaceId) → own_interface_of own packages i ≡ Some id → interface_path own id.0 ≡ Some t
    own-interface-has id f =
        let p = interface-path-of other u n i at t e in
        interface-in-has i.«package» (text_of p.0) t p.1.1 id (sym (ap (option_and_then (λ (s : String Global). interface_in own packages i.«package» (text_of s))) p.1.0) ∙ f)

    pub own-interface-there : (j : ℕ) → interface_path own j ≡ Some t → (id : InterfaceId) × ((own_interface_of own packages i ≡ Some id) × (id.0 ≡ j))
    own-interface-there j f =
        let p = interface-path-of other u n i at t e in
        let g = interface-in-there i.«package» (text_of p.0) t p.1.1 j f in
        (g.0, (ap (option_and_then (λ (s : String Global). interface_in own packages i.«package» (text_of s))) p.1.0 ∙ g.1.0, g.1.1))

    abbrev world_of_name : Option WorldId
    world_of_name = option_and_then (λ (s : String Global). world_in own packages i.«package» (text_of s)) i.name

    pub crossed-world-has : (id : WorldId) → world_of_name ≡ Some id → path_at own id.0 ≡ Some t
    crossed-world-has id f =
        let p = interface-path-of other u n i at t e in
        world-in-has i.«package» (text_of p.0) t p.1.1 id (sym (ap (option_and_then (λ (s : String Global). world_in own packages i.«package» (text_of s))) p.1.0) ∙ f)

    pub crossed-world-there : (j : ℕ) → path_at own j ≡ Some t → (id : WorldId) × ((world_of_name ≡ Some id) × (id.0 ≡ j))
    crossed-world-there j f =
        let p = interface-path-of other u n i at t e in
        let g = world-in-there i.«package» (text_of p.0) t p.1.1 j f in
        (g.0, (ap (option_and_then (λ (s : String Global). world_in own packages i.«package» (text_of s))) p.1.0 ∙ g.1.0, g.1.1))

-- ---- the root world

root-spelled : path_in root_meaning.identity root ≡ root_path
root-spelled = refl

root-identity : is_identity root_meaning.identity ≡ true
root-identity = refl

root-label : is_label root ≡ true
root-label = refl

module _ (r : Resolve) (v : IsValid r) (w : World) (t : Text) (is : IsPathOf r w.«package» (text_of w.name) t) where
  root-test : is_root_world r w ≡ (text_eq (text_of w.name) root && is_root_name is.package_.name)
  root-test = search std_rules

  -- the root world has its path
  pub root-has : is_root_world r w ≡ true → t ≡ root_path
  root-has e =
      let d = is.package_.name in
      let h : (text_eq (text_of w.name) root && is_root_name d) ≡ true = sym root-test ∙ e in
      let name = text-same (text_of w.name) root (first_true _ _ h) in
      let g : (text_eq (text_of d.namespace) root && (text_eq (text_of d.name) root && is_none d.version)) ≡ true = second_true (text_eq (text_of w.name) root) _ h in
      let namespace = text-same (text_of d.namespace) root (first_true _ _ g) in
      let f : (text_eq (text_of d.name) root && is_none d.version) ≡ true = second_true (text_eq (text_of d.namespace) root) _ g in
      let label = text-same (text_of d.name) root (first_true _ _ f) in
      let version = no-version d.version (second_true (text_eq (text_of d.name) root) _ f) in
      is.spelled ∙ ((λ z. path_in (record { namespace = namespace z; name = label z; version = optional_version_text (version z) }) (name z)) ∙ root-spelled)

  -- and no other world has it
  pub has-root : t ≡ root_path → is_root_world r w ≡ true
  has-root e =
      let d = is.package_.name in
      let parts = one_path (identity_of d) root_meaning.identity (text_of w.name) root (package-name r v is.id.0 is.package_ is.stands).identity is.label root-identity root-label
      (sym is.spelled ∙ (e ∙ sym root-spelled)) in
      let namespace : text_of d.namespace ≡ root = ap (λ (p : PackageIdentity). p.namespace) parts.0 in
      let label : text_of d.name ≡ root = ap (λ (p : PackageIdentity). p.name) parts.0 in
      let version : optional_version_text d.version ≡ None = ap (λ (p : PackageIdentity). p.version) parts.0 in
      root-test ∙ both (text_eq (text_of w.name) root) (is_root_name d) ((bytes_eq-Decides (text_of w.name) root).1 parts.1)
      (both (text_eq (text_of d.namespace) root) (text_eq (text_of d.name) root && is_none d.version) ((bytes_eq-Decides (text_of d.namespace) root).1 namespace)
      (both (text_eq (text_of d.name) root) (is_none d.version) ((bytes_eq-Decides (text_of d.name) root).1 label) (versionless d.version version)))
