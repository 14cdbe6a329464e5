-- The names in packages once all is added: own ones, each package's followed by what is new in it, and then those of new packages.
use Rattle.base_lemmas.proofs.{Bools.and_flip, Bools.both_ways as either_way, Bools.left_of as first_true, Bools.right_of as second_true, Elements.any_of_map, Elements.contains-later, Elements.zip_at_right as zip_at, Lists.map_of_map as map_twice, Lists.mapped_get as mapped_at}
use Rattle.base_lemmas.proofs.Options.{none_is as no_version}
use Rattle.bind_add.specs.{Growth.GainsNone, Growth.HasGained, Growth.HaveGained, declared.added.Names.Names}
use Rattle.bind_carry.proofs.{CopiesPlaced.some_same, FirstNumbers.chosen_so, FirstOfUnion.found_own, FirstOfUnion.some_gains, InsertedBehind.filter_whole, NamesGained.IsGrownOf, NamesGained.IsHome, NamesGained.new_world_flag, NamesGained.some_from, NamesGained.world_looked, NamesGained.world_of, Ranges.is_in_range}
use Rattle.bind_carry.proofs.NamesGained.{copied_interface, copied_world, gain_of, grown_of, home_of, interface_looked, interface_of, names_along}
use Rattle.bind_carry.proofs.UnionDistinct.{interfaces_behind, matched_all, worlds_behind}
use Rattle.bind_carry.specs.{AddedApart.AreMatchedByName, AddedNames.NamesAreMerged, First.flag_under, Listed.given_interface, ListedNames.PackageNames, ListedNames.carried_names, ListedNames.grown_names, ListedNames.texts_followed_by, Marked.AreChosen, Packaged.IsGained, Which.IsNumbered, Whole.kept, declared.plan.Carried.Carried}
use Rattle.bind_carry.specs.Packaged.{IsInterfaceName, IsPackageCarried, IsWorldName, grown_packages, is_copied_interface, is_copied_world}
use Rattle.bind_copy.specs.Copies.{names_in, number_under}
use Rattle.bind_match.specs.Matching.{interface_in, is_root_name, is_root_world, own_interface_of, own_package_of, own_world_of, package_from, world_in}
use Rattle.bind_match.specs.declared.matches.Matches.{Matches}
use Rattle.bind_meaning.proofs.{KeyNames.Lacks, KeyNames.goes-on, KeyNames.same_cut, Maps.by_tie as tie_is}
use Rattle.bind_meaning.specs.Binding.{package_text}
use Rattle.bind_union.proofs.{Carrying.same_identity, Lists.no_true}
use Rattle.indexmap.specs.IndexMap.{IsUnique}
use Rattle.std.proofs.Common.{Bool, List, None, Option, Some, [], ap, append-nil, ap₂, arith, cond, false, inl, inr, is_some, length, map, not, option_and_then, refl, rules as std_rules, slice_get, string_eq, subst, suc, sym, true, unwrap_or, zero, ℕ, ◌&&◌, ◌++◌, ◌+◌, ◌∙◌, ◌∷◌, ◌≡◌}
use Rattle.std.proofs.lemmas.{Bool.and_from as both, List.map-append}
use Rattle.std.specs.{Cmp.Lexicographic.texts_ties, FinMap.find, List.AllZip, List.Contains, List.filter, List.list_any, Option.option_map_or, Ordering.eq_by_cmp, Prelude.String, Prelude.codes, Prelude.is_none, declared.alloc.Global.Global}
use Rattle.wit_model.proofs.{Elements.contains-get, LookupLemmas.versionless, NameLaws.identity_name, NameLaws.identity_namespace, NameLaws.label_lacks, OnePath.IsPackageName, OnePath.package-name, OnePath.package-once, TextLemmas.text_same, VersionLaws.same_name}
use Rattle.wit_model.proofs.VersionLaws.{same_text}
use Rattle.wit_model.specs.{Lookup.identity_of, Lookup.optional_version_text, Lookup.package_at, Names.PackageIdentity, Names.at_version, Names.is_identity, Rules.same_package_name, Text.Text, Text.text_cmp, Text.text_eq, Text.text_of, Valid.IsValid}
use Rattle.wit_model.specs.declared.model.{InterfaceId.InterfaceId, Package.Package, PackageId.PackageId, PackageName.PackageName, Resolve.Resolve}
use Rattle.wit_model.specs.declared.model.WorldId.{WorldId}

-- ---- The text that names a package names no other.

-- a text isn't followed by nothing, or by a version, where it holds `@`
end_same : (xs ys : Text) (v u : Option Text) → Lacks 64 xs → Lacks 64 ys → xs ++ at_version v ≡ ys ++ at_version u → (xs ≡ ys) × (v ≡ u)
end_same xs ys None None h k e = (sym (append-nil xs) ∙ (e ∙ append-nil ys), refl)
end_same xs ys (Some v) (Some u) h k e = let r = same_cut 64 xs v ys u h k e in (r.0, ap Some r.1)
end_same xs ys None (Some u) h k e = absurd (goes-on 64 ys u (subst (Lacks 64) (sym (append-nil xs) ∙ e) h))
end_same xs ys (Some v) None h k e = absurd (goes-on 64 xs v (subst (Lacks 64) (sym (append-nil ys) ∙ sym e) k))

-- ---- packages

pub one_package : (a b : PackageIdentity) → is_identity a ≡ true → is_identity b ≡ true → package_text a ≡ package_text b → a ≡ b
one_package a b h k e =
    let x = same_cut 58 a.namespace (a.name ++ at_version a.version) b.namespace (b.name ++ at_version b.version) (label_lacks 58 refl a.namespace (identity_namespace a h))
    (label_lacks 58 refl b.namespace (identity_namespace b k)) e in
    let y = end_same a.name b.name a.version b.version (label_lacks 64 refl a.name (identity_name a h)) (label_lacks 64 refl b.name (identity_name b k)) x.1 in
    λ i. record { namespace = x.0 i; name = y.0 i; version = y.1 i }

-- the text that names a package
abbrev pub text_of_package : Package → Text
text_of_package p = package_text (identity_of p.name)

module _ (p q : Package) (names_p : IsPackageName p) (names_q : IsPackageName q) where
  pub texts_of_same : same_package_name p.name q.name ≡ true → text_of_package p ≡ text_of_package q
  texts_of_same h = ap package_text ((same_name p.name q.name names_p.version names_q.version).0 h)

  pub same_of_texts : text_of_package p ≡ text_of_package q → same_package_name p.name q.name ≡ true
  same_of_texts e = (same_name p.name q.name names_p.version names_q.version).1 (one_package (identity_of p.name) (identity_of q.name) names_p.identity names_q.identity e)

  -- packages have one name where their texts tie
  pub name_tie : same_package_name p.name q.name ≡ eq_by_cmp text_cmp (text_of_package p) (text_of_package q)
  name_tie = either_way (same_package_name p.name q.name) (eq_by_cmp text_cmp (text_of_package p) (text_of_package q))
      (λ h. sym (texts_ties (text_of_package p) (text_of_package q)) ∙ same_text (text_of_package p) (text_of_package q) (texts_of_same h))
      (λ h. same_of_texts (text_same (text_of_package p) (text_of_package q) (texts_ties (text_of_package p) (text_of_package q) ∙ h)))

-- ---- the root package

abbrev root_identity : PackageIdentity
root_identity = record { namespace = codes "root"; name = codes "root"; version = None }

pub root_text : (p : Package) → IsPackageName p → is_root_name p.name ≡ text_eq (text_of_package p) (codes "root:root")
root_text p names = either_way (is_root_name p.name) (text_eq (text_of_package p) (codes "root:root")) forth back
  where
    n : PackageName
    n = p.name

    forth : is_root_name n ≡ true → text_eq (text_of_package p) (codes "root:root") ≡ true
    forth h =
        let namespace = text_same (text_of n.namespace) (codes "root") (first_true (text_eq (text_of n.namespace) (codes "root")) (text_eq (text_of n.name) (codes "root") && is_none n.version) h) in
        let rest = second_true (text_eq (text_of n.namespace) (codes "root")) (text_eq (text_of n.name) (codes "root") && is_none n.version) h in
        let name = text_same (text_of n.name) (codes "root") (first_true (text_eq (text_of n.name) (codes "root")) (is_none n.version) rest) in
        let version = no_version n.version (second_true (text_eq (text_of n.name) (codes "root")) (is_none n.version) rest) in
        same_text (text_of_package p) (codes "root:root") (λ i. package_text (record { namespace = namespace i; name = name i; version = optional_version_text (version i) }))

    back : text_eq (text_of_package p) (codes "root:root") ≡ true → is_root_name n ≡ true
    back h =
        let is : identity_of n ≡ root_identity = one_package (identity_of n) root_identity names.identity refl (text_same (text_of_package p) (codes "root:root") h) in
        both (text_eq (text_of n.namespace) (codes "root")) (text_eq (text_of n.name) (codes "root") && is_none n.version)
        (same_text (text_of n.namespace) (codes "root") (ap (λ (q : PackageIdentity). q.namespace) is))
        (both (text_eq (text_of n.name) (codes "root")) (is_none n.version) (same_text (text_of n.name) (codes "root") (ap (λ (q : PackageIdentity). q.name) is))
        (versionless n.version (ap (λ (q : PackageIdentity). q.version) is)))

-- ---- What becomes of the names in a package: an own one's grow, and a new one has those that are carried.

-- what a package's names become, by what is found for it
abbrev joined : PackageNames → Option PackageNames → PackageNames
joined p None = p
joined p (Some q) = record { interfaces = texts_followed_by p.interfaces q.interfaces; worlds = texts_followed_by p.worlds q.worlds }

grown_is : (others : List (Text × PackageNames)) (p : Text × PackageNames) (o : Option PackageNames) → find text_cmp p.0 others ≡ o → grown_names others p ≡ (p.0, joined p.1 o)
grown_is others p x e = search std_rules

-- ---- lists

pointwise : {X Y Z : Type 0} (f : X → Z) (g : Y → Z) (xs : List X) (ys : List Y) → length xs ≡ length ys → ((n : ℕ) (x : X) (y : Y) → slice_get xs n ≡ Some x → slice_get ys n ≡ Some y → f x ≡ g y)
    → map f xs ≡ map g ys
pointwise f g [] [] long each = refl
pointwise f g (x ∷ xs) (y ∷ ys) long each = ap₂ (λ a b. a ∷ b) (each zero x y refl refl) (pointwise f g xs ys (omega (arith, long)) (λ n a b p q. each (suc n) a b p q))
pointwise f g _ _ long each = absurd (omega (arith, long))

kept_filter : {A : Type 0} (p : A → Bool) (xs : List A) → kept (map p xs) xs ≡ filter p xs
kept_filter p [] = refl
kept_filter p (x ∷ xs) = search (std_rules, kept_filter p xs)

-- ---- names of entries

-- names of entries that pass by their names
names_passed : {X : Type 0} (p : String Global × X → Bool) (q : Text → Bool) (es : List (String Global × X)) → ((e : String Global × X) → Contains es e → p e ≡ q (text_of e.0))
    → names_in (filter p es) ≡ filter q (names_in es)
names_passed p q [] each = refl
names_passed p q (e ∷ es) each = go (p e) (q (text_of e.0)) (each e (0, omega arith, refl)) (names_passed p q es (λ x held. each x (contains-later e es x held)))
  where
    go : (b c : Bool) → b ≡ c → names_in (filter p es) ≡ filter q (names_in es)
        → names_in (cond b (e ∷ filter p es) (filter p es)) ≡ cond c (text_of e.0 ∷ filter q (names_in es)) (filter q (names_in es))
    go true true h rest = ap (λ l. text_of e.0 ∷ l) rest
    go false false h rest = rest
    go true false h rest = no_true (sym h)
    go false true h rest = no_true h

-- by two tests
filter_twice : {X : Type 0} (q r : X → Bool) (xs : List X) → filter (λ x. q x && r x) xs ≡ filter q (filter r xs)
filter_twice q r [] = refl
filter_twice q r (x ∷ xs) = go (q x) refl (r x) (filter_twice q r xs)
  where
    go : (a : Bool) → q x ≡ a → (b : Bool) → filter (λ y. q y && r y) xs ≡ filter q (filter r xs)
        → cond (a && b) (x ∷ filter (λ y. q y && r y) xs) (filter (λ y. q y && r y) xs) ≡ filter q (cond b (x ∷ filter r xs) (filter r xs))
    go true e true rest = ap (λ l. x ∷ l) rest ∙ ap (λ t. cond t (x ∷ filter q (filter r xs)) (filter q (filter r xs))) (sym e)
    go false e true rest = rest ∙ ap (λ t. cond t (x ∷ filter q (filter r xs)) (filter q (filter r xs))) (sym e)
    go true e false rest = rest
    go false e false rest = rest

-- ---- what is found by a text

module _ (f : Package → Text × PackageNames) (t : Text) where
  found_at : (ps : List Package) (k : ℕ) (o : Package) → slice_get ps k ≡ Some o → (f o).0 ≡ t → ((j : ℕ) (q : Package) → slice_get ps j ≡ Some q → (f q).0 ≡ t → q ≡ o)
      → find text_cmp t (map f ps) ≡ Some (f o).1
  found_at [] k o at is once = let wrong : ⊥ = cc in absurd wrong
  found_at (q ∷ qs) k o at is once = go (eq_by_cmp text_cmp t (f q).0) refl k at (λ j there. found_at qs j o there is (λ i x at_x same. once (suc i) x at_x same))
    where
      go : (b : Bool) → eq_by_cmp text_cmp t (f q).0 ≡ b → (k : ℕ) → slice_get (q ∷ qs) k ≡ Some o → ((j : ℕ) → slice_get qs j ≡ Some o → find text_cmp t (map f qs) ≡ Some (f o).1)
          → cond b (Some (f q).1) (find text_cmp t (map f qs)) ≡ Some (f o).1
      go true e k at later = ap (λ (x : Package). Some (f x).1) (once zero q refl (sym (tie_is t (f q).0 e)))
      go false e zero at later = no_true (sym e ∙ (sym (texts_ties t (f q).0) ∙ same_text t (f q).0 (sym (ap (λ (x : Package). (f x).0) (some_same q o at) ∙ is))))
      go false e (suc k) at later = later k at

  found_none : (ps : List Package) → ((j : ℕ) (q : Package) → slice_get ps j ≡ Some q → (f q).0 ≡ t → ⊥) → find text_cmp t (map f ps) ≡ None
  found_none [] none = refl
  found_none (q ∷ qs) none = go (eq_by_cmp text_cmp t (f q).0) refl (found_none qs (λ j x there same. none (suc j) x there same))
    where
      go : (b : Bool) → eq_by_cmp text_cmp t (f q).0 ≡ b → find text_cmp t (map f qs) ≡ None → cond b (Some (f q).1) (find text_cmp t (map f qs)) ≡ None
      go true e later = absurd (none zero q refl (sym (tie_is t (f q).0 e)))
      go false e later = later

  found_by_name : (name : PackageName) (n : ℕ) (ps : List Package) → ((p : Package) → Contains ps p → same_package_name name p.name ≡ eq_by_cmp text_cmp t (f p).0)
      → is_none (package_from name n ps) ≡ is_none (find text_cmp t (map f ps))
  found_by_name name n [] each = refl
  found_by_name name n (p ∷ ps) each = go (same_package_name name p.name) (eq_by_cmp text_cmp t (f p).0) (each p (0, omega arith, refl))
      (found_by_name name (n + 1) ps (λ x held. each x (contains-later p ps x held)))
    where
      go : (b c : Bool) → b ≡ c → is_none (package_from name (n + 1) ps) ≡ is_none (find text_cmp t (map f ps))
          → is_none (cond b (Some (record { 0 = n })) (package_from name (n + 1) ps)) ≡ is_none (cond c (Some (f p).1) (find text_cmp t (map f ps)))
      go true true h rest = refl
      go false false h rest = rest
      go true false h rest = no_true (sym h)
      go false true h rest = no_true h

-- ---- a package and its names

abbrev listed : Package → Text × PackageNames
listed p = (text_of_package p, record { interfaces = names_in p.interfaces.entries; worlds = names_in p.worlds.entries })

abbrev brought : Package → Text × PackageNames
brought p = carried_names (listed p)

same_listed : (p q : Text × PackageNames) → p.0 ≡ q.0 → p.1.interfaces ≡ q.1.interfaces → p.1.worlds ≡ q.1.worlds → p ≡ q
same_listed p q text interfaces worlds = λ i. (text i, record { interfaces = interfaces i; worlds = worlds i })

-- whether a name in a package is the root world's
abbrev is_root_in : Text → Text → Bool
is_root_in p w = text_eq p (codes "root:root") && text_eq w (codes "root")

module _ (own other : Resolve) (valid_own : IsValid own) (valid_other : IsValid other) (m : Matches) (c : Carried) (by_name : AreMatchedByName own other m) (numbered : IsNumbered own other m c) (are : AreChosen other m.interfaces.items c.copied_worlds.items c.copied_interfaces.items) where
  own_named : (n : ℕ) (p : Package) → package_at own n ≡ Some p → IsPackageName p
  own_named n p at = package-name own valid_own n p at

  other_named : (n : ℕ) (p : Package) → package_at other n ≡ Some p → IsPackageName p
  other_named n p at = package-name other valid_other n p at

  matched_package : (k : ℕ) (o : Package) → package_at other k ≡ Some o → slice_get m.packages.items k ≡ Some (own_package_of own.packages.items o)
  matched_package k o at = ap (λ l. slice_get l k) by_name.packages ∙ mapped_at (own_package_of own.packages.items) other.packages.items k o at

  root_is : (k : ℕ) (o : Package) (at : package_at other k ≡ Some o) (e : String Global × WorldId) (held : Contains o.worlds.entries e)
      → is_root_world other (world_of other valid_other k o at e held).world ≡ is_root_in (text_of_package o) (text_of e.0)
  root_is k o at e held =
      let x = world_of other valid_other k o at e held in
      ap (λ (h : Option PackageId). option_map_or (λ id. option_map_or (λ (p : Package). text_eq (text_of x.world.name) (codes "root") && is_root_name p.name) (package_at other id.0) false) h false)
      x.in_package ∙ (ap (λ (q : Option Package). option_map_or (λ p. text_eq (text_of x.world.name) (codes "root") && is_root_name p.name) q false) (ap (package_at other) x.number ∙ at)
      ∙ ((λ i. text_eq (x.text i) (codes "root") && root_text o (other_named k o at) i) ∙ and_flip (text_eq (text_of e.0) (codes "root")) (text_eq (text_of_package o) (codes "root:root"))))

  -- ---- own packages

  own_of : (k n : ℕ) (o p : Package) → package_at other k ≡ Some o → IsHome own other valid_other m c by_name numbered are k n → package_at own n ≡ Some p → same_package_name o.name p.name ≡ true
  own_of k n o p at home at_own =
      let found = found_own own.packages.items o home.0 (some_same _ _ (sym (matched_package k o at) ∙ home.1)) in
      ap (λ (x : Package). same_package_name o.name x.name) (sym (some_same found.there p (sym found.at_there ∙ (ap (package_at own) home.2 ∙ at_own)))) ∙ found.same

  module _ (gs : List Names) (zip : AllZip (IsGained c) (grown_packages c.new_packages.items c.packages.items other.packages.items) gs) where
    abbrev others : List (Text × PackageNames)
    others = map carried_names (map listed other.packages.items)

    others_are : others ≡ map brought other.packages.items
    others_are = map_twice carried_names listed other.packages.items

    -- one that gains
    module _ (n i : ℕ) (g : Names) (p x : Package) (at_g : slice_get gs i ≡ Some g) (number : g.«package».0 ≡ n) (at : package_at own n ≡ Some p) (h : HasGained g p x) where
      gain : (e : ℕ × Package) × (slice_get (grown_packages c.new_packages.items c.packages.items other.packages.items) i ≡ Some e) × IsGained c e g
      gain = zip_at (IsGained c) (grown_packages c.new_packages.items c.packages.items other.packages.items) gs zip i g at_g

      abbrev old : Package
      old = gain.0.1

      from : IsGrownOf c.new_packages.items c.packages.items other.packages.items i gain.0
      from = grown_of c.new_packages.items c.packages.items other.packages.items i gain.0 gain.1

      home : IsHome own other valid_other m c by_name numbered are from.place n
      home = home_of own other valid_other m c by_name numbered are from.place n old from.at_place from.bare (from.number ∙ (sym gain.2.number ∙ number))

      unique : IsUnique string_eq old.interfaces × IsUnique string_eq old.worlds
      unique = valid_other.distinct_keys.packages from.place old from.at_place

      one_text : text_of_package old ≡ text_of_package p
      one_text = texts_of_same old p (other_named from.place old from.at_place) (own_named n p at) (own_of from.place n old p from.at_place home at)

      found : find text_cmp (text_of_package p) others ≡ Some (brought old).1
      found = ap (find text_cmp (text_of_package p)) others_are ∙ found_at brought (text_of_package p) other.packages.items from.place old from.at_place one_text once
        where
          once : (j : ℕ) (q : Package) → package_at other j ≡ Some q → text_of_package q ≡ text_of_package p → q ≡ old
          once j q there e = some_same q old (sym there ∙ (ap (package_at other) (sym (package-once other valid_other j from.place q old there from.at_place
              (same_of_texts q old (other_named j q there) (other_named from.place old from.at_place) (e ∙ sym one_text)))) ∙ from.at_place))

      there : package_at own g.«package».0 ≡ Some p
      there = ap (package_at own) number ∙ at

      interfaces_are : names_in x.interfaces.entries ≡ texts_followed_by (names_in p.interfaces.entries) (names_in old.interfaces.entries)
      interfaces_are =
          let test = is_copied_interface c.copied_interfaces.items in
          ap names_in (h.interfaces ∙ interfaces_behind own other valid_other m c by_name numbered are gs zip i g p at_g there)
          ∙ (map-append (λ (e : String Global × InterfaceId). text_of e.0) p.interfaces.entries g.interfaces.entries
          ∙ ap (λ l. names_in p.interfaces.entries ++ l) (names_along (IsInterfaceName c.interfaces.items) (λ a b r. r.0) (filter test old.interfaces.entries) g.interfaces.entries
          (gain.2.interfaces unique.0) ∙ names_passed test (λ t. not (list_any (text_eq t) (names_in p.interfaces.entries))) old.interfaces.entries
          (λ e held. copied_interface own other valid_other m c by_name numbered are from.place n old p from.at_place home at e held
          ∙ ap not (sym (any_of_map (text_eq (text_of e.0)) (λ (y : String Global × InterfaceId). text_of y.0) p.interfaces.entries)))))

      worlds_are : names_in x.worlds.entries ≡ texts_followed_by (names_in p.worlds.entries) (brought old).1.worlds
      worlds_are = ap names_in (h.worlds ∙ worlds_behind own other valid_other m c by_name numbered are gs zip i g p at_g there)
          ∙ (map-append (λ (e : String Global × WorldId). text_of e.0) p.worlds.entries g.worlds.entries
          ∙ ap (λ l. names_in p.worlds.entries ++ l) (names_along (IsWorldName c.worlds.items) (λ a b r. r.0) (filter test old.worlds.entries) g.worlds.entries (gain.2.worlds unique.1)
          ∙ (names_passed test (λ t. fresh t && not (is_root_in (text_of_package old) t)) old.worlds.entries each
          ∙ filter_twice fresh (λ t. not (is_root_in (text_of_package old) t)) (names_in old.worlds.entries))))
        where
          test : String Global × WorldId → Bool
          test = is_copied_world c.copied_worlds.items

          fresh : Text → Bool
          fresh t = not (list_any (text_eq t) (names_in p.worlds.entries))

          each : (e : String Global × WorldId) → Contains old.worlds.entries e → test e ≡ (fresh (text_of e.0) && not (is_root_in (text_of_package old) (text_of e.0)))
          each e held = copied_world own other valid_other m c by_name numbered are from.place n old p from.at_place home at e held
              ∙ ap₂ (λ s t. not s && not t) (sym (any_of_map (text_eq (text_of e.0)) (λ (y : String Global × WorldId). text_of y.0) p.worlds.entries)) (root_is from.place old from.at_place e held)

      gaining : listed x ≡ grown_names others (listed p)
      gaining = same_listed (listed x) (text_of_package p, joined (listed p).1 (Some (brought old).1)) (ap (λ (y : PackageName). package_text (identity_of y)) h.name) interfaces_are worlds_are
          ∙ sym (grown_is others (listed p) (Some (brought old).1) found)

    -- one that doesn't
    module _ (n : ℕ) (p : Package) (at : package_at own n ≡ Some p) (none : GainsNone gs n) where
      not_there : (j : ℕ) (q : Package) → package_at other j ≡ Some q → text_of_package q ≡ text_of_package p → ⊥
      not_there j q there e =
          let id = some_from q.name 0 own.packages.items n p at (same_of_texts q p (other_named j q there) (own_named n p at) e) in
          let flag = ap (λ l. slice_get l j) numbered.new_packages ∙ mapped_at is_none m.packages.items j (Some id.0) (matched_package j q there ∙ ap Some id.1) in
          let y = gain_of c c.new_packages.items c.packages.items other.packages.items gs zip numbered.whole.packages j q flag there in
          let home = home_of own other valid_other m c by_name numbered are j (number_under c.packages.items j) q there (ap (λ o. unwrap_or o false) flag) refl in
          let found = found_own own.packages.items q home.0 (some_same _ _ (sym (matched_package j q there) ∙ home.1)) in
          let texts = sym (texts_of_same q found.there (other_named j q there) (own_named home.0.0 found.there found.at_there) found.same) ∙ e in
          let once = package-once own valid_own home.0.0 n found.there p found.at_there at (same_of_texts found.there p (own_named home.0.0 found.there found.at_there) (own_named n p at) texts) in
          none y.0 y.1 y.2 (y.3.number ∙ (sym home.2 ∙ sym once))

      staying : listed p ≡ grown_names others (listed p)
      staying = sym (grown_is others (listed p) None (ap (find text_cmp (text_of_package p)) others_are ∙ found_none brought (text_of_package p) other.packages.items not_there))

    own_listed : (ps : List Package) → HaveGained gs own.packages.items ps → (n : ℕ) (x p : Package) → slice_get ps n ≡ Some x → package_at own n ≡ Some p → listed x ≡ grown_names others (listed p)
    own_listed ps h n x p at_x at = elim (some_gains gs n) [
      | inl r ↦ let q = h.gained r.0 r.1 p r.2 (ap (slice_get own.packages.items) r.3 ∙ at) in
          gaining n r.0 r.1 p x r.2 r.3 at (subst (HasGained r.1 p) (some_same q.0 x (sym q.1 ∙ (ap (slice_get ps) r.3 ∙ at_x))) q.2)
      | inr none ↦ ap listed (some_same x p (sym at_x ∙ (h.others n none ∙ at))) ∙ staying n p at none
    ]

    pub own_names : (ps : List Package) → HaveGained gs own.packages.items ps → map listed ps ≡ map (grown_names others) (map listed own.packages.items)
    own_names ps h = pointwise listed (λ p. grown_names others (listed p)) ps own.packages.items h.count (λ n x p at_x at. own_listed ps h n x p at_x at) ∙ sym
        (map_twice (grown_names others) listed own.packages.items)

  -- ---- new packages

  abbrev is_new : Package → Bool
  is_new o = is_none (own_package_of own.packages.items o)

  abbrev own_list : List (Text × PackageNames)
  own_list = map listed own.packages.items

  -- What is known of each package of the other.
  record IsBrought (o : Package) : Type 0 where
    tells : is_new o ≡ is_none (find text_cmp (text_of_package o) own_list)
    names : (x : Package) → is_new o ≡ true → IsPackageCarried c o x → listed x ≡ brought o

  module _ (k : ℕ) (o : Package) (at : package_at other k ≡ Some o) where
    tells_new : is_new o ≡ is_none (find text_cmp (text_of_package o) own_list)
    tells_new = found_by_name listed (text_of_package o) o.name 0 own.packages.items
        (λ p held. let n = contains-get own.packages.items p held in name_tie o p (other_named k o at) (own_named n.0 p n.1))

    module _ (x : Package) (new : is_new o ≡ true) (is : IsPackageCarried c o x) where
      nothing : slice_get m.packages.items k ≡ Some None
      nothing = matched_package k o at ∙ ap Some (none_of (own_package_of own.packages.items o) new)
        where
          none_of : (o : Option PackageId) → is_none o ≡ true → o ≡ None
          none_of None h = refl
          none_of (Some id) h = no_true h

      apart : IsUnique string_eq o.interfaces × IsUnique string_eq o.worlds
      apart = valid_other.distinct_keys.packages k o at

      each_interface : (e : String Global × InterfaceId) → Contains o.interfaces.entries e → flag_under c.copied_interfaces.items e.1.0 ≡ true
      each_interface e held =
          let y = interface_of other valid_other k o at e held in
          let matched = ap (λ l. slice_get l e.1.0) by_name.interfaces ∙ mapped_at (own_interface_of own m.packages.items) other.interfaces.items e.1.0 y.interface_ y.found in
          let none = ap (option_and_then (λ (s : String Global). interface_in own m.packages.items y.interface_.«package» (text_of s))) y.named
          ∙ ((λ i. interface_in own m.packages.items (y.in_package i) (text_of y.label)) ∙ interface_looked own m.packages.items k None nothing y.id (text_of y.label) y.number) in
          are.named e.1.0 y.interface_ y.found (ap is_some y.named) ∙ ap not (ap (λ o. is_some (given_interface o)) matched ∙ ap is_some none)

      each_world : (e : String Global × WorldId) → Contains o.worlds.entries e → flag_under c.copied_worlds.items e.1.0 ≡ not (is_root_in (text_of_package o) (text_of e.0))
      each_world e held =
          let y = world_of other valid_other k o at e held in
          ap (λ l. flag_under l e.1.0) numbered.copied_worlds ∙ (new_world_flag other m.worlds.items other.worlds.items e.1.0 (own_world_of own m.packages.items y.world) y.world
          (ap (λ l. slice_get l e.1.0) by_name.worlds ∙ mapped_at (own_world_of own m.packages.items) other.worlds.items e.1.0 y.world y.found) y.found
          ∙ (ap (λ o. is_none o && not (is_root_world other y.world)) ((λ i. world_in own m.packages.items (y.in_package i) (text_of y.world.name))
          ∙ world_looked own m.packages.items k None nothing y.id (text_of y.world.name) y.number) ∙ ap not (root_is k o at e held)))

      new_names : listed x ≡ brought o
      new_names = same_listed (listed x) (brought o) (ap package_text (same_identity o.name x.name is.name))
          (names_along (IsInterfaceName c.interfaces.items) (λ a b r. r.0) (filter (is_copied_interface c.copied_interfaces.items) o.interfaces.entries) x.interfaces.entries (is.interfaces apart.0)
          ∙ ap names_in (filter_whole (is_copied_interface c.copied_interfaces.items) o.interfaces.entries each_interface))
          (names_along (IsWorldName c.worlds.items) (λ a b r. r.0) (filter (is_copied_world c.copied_worlds.items) o.worlds.entries) x.worlds.entries (is.worlds apart.1)
          ∙ names_passed (is_copied_world c.copied_worlds.items) (λ t. not (is_root_in (text_of_package o) t)) o.worlds.entries each_world)

    is_brought : IsBrought o
    is_brought = record { tells = tells_new; names = new_names }

  abbrev is_unlisted : Text × PackageNames → Bool
  is_unlisted q = is_none (find text_cmp q.0 own_list)

  brought_names : (os news : List Package) → AllZip (IsPackageCarried c) (filter is_new os) news → ((o : Package) → Contains os o → IsBrought o) → map listed news ≡ filter is_unlisted (map brought os)
  brought_names [] [] zip each = refl
  brought_names [] (x ∷ xs) zip each = absurd zip
  brought_names (o ∷ os) news zip each = go (is_new o) refl news zip (λ xs z. brought_names os xs z (λ q held. each q (contains-later o os q held)))
    where
      b : IsBrought o
      b = each o (0, omega arith, refl)

      go : (t : Bool) → is_new o ≡ t → (news : List Package) → AllZip (IsPackageCarried c) (cond t (o ∷ filter is_new os) (filter is_new os)) news
          → ((xs : List Package) → AllZip (IsPackageCarried c) (filter is_new os) xs → map listed xs ≡ filter is_unlisted (map brought os))
          → map listed news ≡ cond (is_unlisted (brought o)) (brought o ∷ filter is_unlisted (map brought os)) (filter is_unlisted (map brought os))
      go true e [] z later = absurd z
      go true e (x ∷ xs) z later = ap₂ (λ p l. p ∷ l) (b.names x e z.0) (later xs z.1)
          ∙ ap (λ t. cond t (brought o ∷ filter is_unlisted (map brought os)) (filter is_unlisted (map brought os))) (sym e ∙ b.tells)
      go false e xs z later = later xs z ∙ ap (λ t. cond t (brought o ∷ filter is_unlisted (map brought os)) (filter is_unlisted (map brought os))) (sym e ∙ b.tells)

  pub new_list : (news : List Package) → AllZip (IsPackageCarried c) (kept c.new_packages.items other.packages.items) news
      → map listed news ≡ filter is_unlisted (map carried_names (map listed other.packages.items))
  new_list news zip = brought_names other.packages.items news (subst (λ l. AllZip (IsPackageCarried c) l news)
      (ap (λ l. kept l other.packages.items) (numbered.new_packages ∙ (ap (map is_none) by_name.packages ∙ map_twice is_none (own_package_of own.packages.items) other.packages.items))
      ∙ kept_filter is_new other.packages.items) zip) (λ o held. let k = contains-get other.packages.items o held in is_brought k.0 o k.1)
      ∙ ap (filter is_unlisted) (sym (map_twice carried_names listed other.packages.items))

pub names_are_merged : NamesAreMerged
names_are_merged own other merged world other_world m w v added keys u valid_own valid_other a by_name =
    let are = chosen_so own other m u.carried (is_in_range other valid_other) (matched_all own other m by_name) u.numbered in
    let gains = subst (AllZip (IsGained u.carried) (grown_packages u.carried.new_packages.items u.carried.packages.items other.packages.items)) (sym u.second.names) u.first.names in
    ap (map listed) a.packages.2 ∙ (map-append listed a.packages.0 added.packages.items
    ∙ ap₂ (λ p q. p ++ q) (own_names own other valid_own valid_other m u.carried by_name u.numbered are added.names.items gains a.packages.0 a.packages.1)
    (new_list own other valid_own valid_other m u.carried by_name u.numbered are added.packages.items
    (subst (AllZip (IsPackageCarried u.carried) (kept u.carried.new_packages.items other.packages.items)) (sym u.second.packages) u.first.packages)))
