-- An interface is known by its path: in valid packages no two have the same.
use Rattle.std.proofs.Common.{rules as std_rules, ◌≡◌, refl, sym, subst, ap, ◌∙◌, ℕ, ◌+◌, ◌<◌, zero, suc, Bool, true, false, List, [], ◌∷◌, length, ◌&&◌, ◌||◌, not, ◌==◌, slice_get, Option, Some, None, String, option_map, option_and_then, arith}
use Rattle.std.proofs.lemmas.{Bool.ltb-true, Bool.lt-ltb, Bool.and_from as both, Option.same_Some as some-same}
use Rattle.std.specs.declared.alloc.Global.{Global}
use Rattle.std.specs.{Prelude.is_some, Option.option_map_or, HashMap.get_by_text}
use Rattle.semver.specs.declared.Version.{Version}
use Rattle.semver.specs.Identifiers.{parts_of}
use Rattle.wit_model.specs.{Text.Text, Text.text_of, Names.is_label, Names.is_identity, Names.is_version, Names.is_optional_version, Names.path_in}
use Rattle.wit_model.specs.Lookup.{package_at, interface_at, interface_path, path_of_interface, path_in_package, identity_of, optional_version_text}
use Rattle.wit_model.specs.Rules.{passes, package_number, same_package_name, each_from, is_id, interface_is_listed, is_world_name, in_list}
use Rattle.wit_model.specs.Valid.{IsValid, Rule, Keeps, package_names, places, labels, numbers_in_range, is_place}
use Rattle.wit_model.specs.declared.model.{Resolve.Resolve, Package.Package, PackageId.PackageId, Interface.Interface}
use Rattle.wit_model.proofs.{Entries.each_from_at, Entries.lists_pass, NameLaws.one_path, VersionLaws.valid_parts, VersionLaws.same_name, VersionTexts.parts_text_reads}
use Rattle.base_lemmas.proofs.{Bools.left_of as first_true, Bools.right_of as second_true, Numbers.equal as equal-numbers, Options.there as some-of}

pub package-passes : (rule : Rule) (r : Resolve) → Keeps rule r → (n : ℕ) (p : Package) → package_at r n ≡ Some p → rule.package_ r n p ≡ true
package-passes rule r k n p at = search (std_rules, each_from_at, lists_pass)

pub interface-passes : (rule : Rule) (r : Resolve) → Keeps rule r → (n : ℕ) (i : Interface) → interface_at r n ≡ Some i → rule.interface_ r n i ≡ true
interface-passes rule r k n i at = search (std_rules, each_from_at, lists_pass)

version-is : (v : Option Version) → passes is_version v ≡ true → is_optional_version (optional_version_text v) ≡ true
version-is None h = refl
version-is (Some v) h = parts_text_reads (parts_of v) (valid_parts v h)

-- a name that a package may have
pub record IsPackageName (p : Package) : Type 0 where
  pub version : passes is_version p.name.version ≡ true
  pub identity : is_identity (identity_of p.name) ≡ true

pub package-name : (r : Resolve) → IsValid r → (n : ℕ) (p : Package) → package_at r n ≡ Some p → IsPackageName p
unfolding package_names
package-name r v n p at =
    let names = first_true (is_label (text_of p.name.namespace) && (is_label (text_of p.name.name) && passes is_version p.name.version)) _
    (package-passes package_names r v.rules.package_names n p at) in
    let rest = second_true (is_label (text_of p.name.namespace)) (is_label (text_of p.name.name) && passes is_version p.name.version) names in
    let version = second_true (is_label (text_of p.name.name)) (passes is_version p.name.version) rest in
    record {
      version = version;
      identity = both _ _ (first_true (is_label (text_of p.name.namespace)) (is_label (text_of p.name.name) && passes is_version p.name.version) names)
          (both _ _ (first_true (is_label (text_of p.name.name)) (passes is_version p.name.version) rest) (version-is p.name.version version));
    }

same-or-not : (b c : Bool) → (b || not c) ≡ true → c ≡ true → b ≡ true
same-or-not x c h e = search std_rules

-- packages of the same name are one
pub package-once : (r : Resolve) → IsValid r → (m n : ℕ) (p q : Package) → package_at r m ≡ Some p → package_at r n ≡ Some q → same_package_name p.name q.name ≡ true → n ≡ m
unfolding package_names
package-once r v m n p q at at' same =
    let others : each_from (λ k other. (k == m) || not (same_package_name p.name other.name)) 0 r.packages.items ≡ true =
    second_true (is_label (text_of p.name.namespace) && (is_label (text_of p.name.name) && passes is_version p.name.version)) _ (package-passes package_names r v.rules.package_names m p at) in
    let here : 0 + n ≡ n = omega arith in
    let test = each_from_at (λ k other. (k == m) || not (same_package_name p.name other.name)) 0 r.packages.items n q others at' in
    equal-numbers n m (subst (λ (k : ℕ). (k == m) ≡ true) here (same-or-not ((0 + n) == m) (same_package_name p.name q.name) test same))

-- ---- paths

-- what a path is of
pub record HasPath (r : Resolve) (n : ℕ) (path : Text) : Type 0 where
  pub def : Interface
  pub there : interface_at r n ≡ Some def
  pub name : String Global
  pub named_ : def.name ≡ Some name
  pub home : PackageId
  pub in_package : def.package ≡ Some home
  pub package_ : Package
  pub stands : package_at r home.0 ≡ Some package_
  pub spelled : path ≡ path_in (identity_of package_.name) (text_of name)

module _ (r : Resolve) (n : ℕ) (path : Text) (def : Interface) (there : interface_at r n ≡ Some def) where
  at-package : (name : String Global) → def.name ≡ Some name → (home : PackageId) → def.package ≡ Some home → (o : Option Package) → package_at r home.0 ≡ o
      → option_map (λ p. path_in (identity_of p.name) (text_of name)) o ≡ Some path → HasPath r n path
  at-package name named home h None q e = let wrong : ⊥ = cc in absurd wrong
  at-package name named home h (Some p) q e = record { def = def; there = there; name = name; named_ = named; home = home; in_package = h; package_ = p; stands = q; spelled = sym (some-same _ _ e) }

  at-home : (name : String Global) → def.name ≡ Some name → (o : Option PackageId) → def.package ≡ o → option_and_then (λ p. path_in_package r p.0 (text_of name)) o ≡ Some path → HasPath r n path
  at-home name named None q e = let wrong : ⊥ = cc in absurd wrong
  at-home name named (Some home) q e = at-package name named home q (package_at r home.0) refl e

  at-name : (o : Option (String Global)) → def.name ≡ o → option_and_then (λ name. option_and_then (λ p. path_in_package r p.0 (text_of name)) def.package) o ≡ Some path → HasPath r n path
  at-name None q e = let wrong : ⊥ = cc in absurd wrong
  at-name (Some name) q e = at-home name q def.package refl e

pub has-path : (r : Resolve) (n : ℕ) (path : Text) → interface_path r n ≡ Some path → HasPath r n path
has-path r n path e = go (interface_at r n) refl e
  where
    go : (o : Option Interface) → interface_at r n ≡ o → option_and_then (path_of_interface r) o ≡ Some path → HasPath r n path
    go None q e = let wrong : ⊥ = cc in absurd wrong
    go (Some def) q e = at-name r n path def q def.name refl e

pub given-test : {A : Type 0} (f : A → Bool) (o : Option A) (d : Bool) (x : A) → o ≡ Some x → option_map_or f o d ≡ true → f x ≡ true
given-test f o d x e h = ap (λ (o : Option _). option_map_or f o d) (sym e) ∙ h

pub one-number : (m n : ℕ) (o : Option ℕ) → is_id m o ≡ true → is_id n o ≡ true → m ≡ n
one-number m n x e f = search std_rules

module _ (r : Resolve) (v : IsValid r) where
  pub path-label : (n : ℕ) (path : Text) (h : HasPath r n path) → is_label (text_of h.name) ≡ true
  unfolding labels
  path-label n path h =
      let passed : passes (λ name. is_label (text_of name)) h.def.name ≡ true =
      first_true (passes (λ name. is_label (text_of name)) h.def.name) _ (interface-passes labels r v.rules.labels n h.def h.there) in
      ap (passes (λ name. is_label (text_of name))) (sym h.named_) ∙ passed

  -- it stands in its package under its name
  pub path-listed : (n : ℕ) (path : Text) (h : HasPath r n path) → interface_is_listed n (text_of h.name) h.package_ ≡ true
  unfolding places
  path-listed n path h =
      let rule = second_true (is_some h.def.package) _ (interface-passes places r v.rules.places n h.def h.there) in
      let home : option_and_then (package_at r) (package_number h.def.package) ≡ Some h.package_ = ap (λ p. option_and_then (package_at r) (package_number p)) h.in_package ∙ h.stands in
      first_true (interface_is_listed n (text_of h.name) h.package_) _
      (given-test (λ p. interface_is_listed n (text_of h.name) p && not (is_world_name p (text_of h.name))) (option_and_then (package_at r) (package_number h.def.package)) true h.package_ home
      (given-test (λ name. option_map_or (λ p. interface_is_listed n (text_of name) p && not (is_world_name p (text_of name))) (option_and_then (package_at r) (package_number h.def.package)) true)
      h.def.name _ h.name h.named_ rule))

  -- interfaces of the same path are one
  pub path-once : (m n : ℕ) (path : Text) → interface_path r m ≡ Some path → interface_path r n ≡ Some path → m ≡ n
  path-once m n path e f =
      let a = has-path r m path e in
      let b = has-path r n path f in
      let p = package-name r v a.home.0 a.package_ a.stands in
      let q = package-name r v b.home.0 b.package_ b.stands in
      let parts = one_path (identity_of a.package_.name) (identity_of b.package_.name) (text_of a.name) (text_of b.name) p.identity (path-label m path a) q.identity (path-label n path b)
      (sym a.spelled ∙ b.spelled) in
      let homes : b.home.0 ≡ a.home.0 = package-once r v a.home.0 b.home.0 a.package_ b.package_ a.stands b.stands ((same_name a.package_.name b.package_.name p.version q.version).1 parts.0) in
      let one : b.package_ ≡ a.package_ = some-same b.package_ a.package_ (sym b.stands ∙ ap (package_at r) homes ∙ a.stands) in
      one-number m n (option_map (λ id. id.0) (get_by_text a.package_.interfaces (text_of a.name))) (path-listed m path a)
      (subst (λ (x : Package). interface_is_listed n (text_of a.name) x ≡ true) one (subst (λ (t : Text). interface_is_listed n t b.package_ ≡ true) (sym parts.1) (path-listed n path b)))

pub found-in : {A : Type 0} (xs : List A) (n : ℕ) → in_list xs n ≡ true → (x : A) × (slice_get xs n ≡ Some x)
found-in [] n h = let below : n < 0 = ltb-true n 0 h in absurd (omega (arith, below))
found-in (x ∷ xs) zero h = (x, refl)
found-in (x ∷ xs) (suc n) h =
    let below : suc n < length (x ∷ xs) = ltb-true (suc n) (length (x ∷ xs)) h in
    let less : n < length xs = omega arith in
    found-in xs n (lt-ltb n (length xs) less)

-- an interface with a name has a path
pub named-path : (r : Resolve) → IsValid r → (n : ℕ) → option_map_or (λ other. is_some other.name) (interface_at r n) false ≡ true → is_some (interface_path r n) ≡ true
unfolding places numbers_in_range
named-path r v n h = go (interface_at r n) refl h
  where
    at : (def : Interface) → interface_at r n ≡ Some def → is_some def.name ≡ true → is_some (interface_path r n) ≡ true
    at def there named =
        let name = some-of def.name named in
        let home = some-of def.package (first_true (is_some def.package) _ (interface-passes places r v.rules.places n def there)) in
        let inside = first_true (passes (in_list r.packages.items) (package_number def.package)) _
        (second_true (is_place n) _ (interface-passes numbers_in_range r v.rules.numbers_in_range n def there)) in
        let package_ = found-in r.packages.items home.0.0 (ap (λ p. passes (in_list r.packages.items) (package_number p)) (sym home.1) ∙ inside) in
        ap (λ o. is_some (option_and_then (path_of_interface r) o)) there ∙ ap (λ o. is_some (option_and_then (λ name. option_and_then (λ p. path_in_package r p.0 (text_of name)) def.package) o))
        name.1 ∙ ap (λ o. is_some (option_and_then (λ p. path_in_package r p.0 (text_of name.0)) o)) home.1
        ∙ ap (λ (o : Option Package). is_some (option_map (λ p. path_in (identity_of p.name) (text_of name.0)) o)) package_.1

    go : (o : Option Interface) → interface_at r n ≡ o → option_map_or (λ other. is_some other.name) o false ≡ true → is_some (interface_path r n) ≡ true
    go None q e = let wrong : ⊥ = cc in absurd wrong
    go (Some def) q e = at def q e
