-- Which interfaces are a package's own, by their paths.
use Rattle.std.proofs.Common.{rules as std_rules, ◌≡◌, refl, sym, subst, ap, ◌∙◌, ℕ, Bool, true, false, not, ◌&&◌, ◌==◌, Option, Some, None, String}
use Rattle.std.proofs.lemmas.{Bool.not-true as no-longer, Option.same_Some as some-same}
use Rattle.std.specs.declared.alloc.Global.{Global}
use Rattle.std.specs.{Prelude.is_some, Prelude.option_and_then, Option.option_map_or, List.Contains, List.list_all}
use Rattle.indexmap.specs.IndexMap.{values}
use Rattle.wit_model.specs.{Text.Text, Text.text_of, Text.text_eq, Valid.IsValid, Valid.is_place, Valid.numbers_in_range, Valid.places, Valid.names_in_packages}
use Rattle.wit_model.specs.{Names.PackageIdentity, Names.is_identity, Names.path_in, Names.read_path, Meant.is_foreign}
use Rattle.wit_model.specs.Lookup.{package_at, interface_at, world_at, interface_path, identity_of}
use Rattle.wit_model.specs.Rules.{passes, in_list, is_id, text_is, package_number, is_world_name, interface_is_listed, interface_belongs, world_belongs}
use Rattle.wit_model.specs.declared.model.{Resolve.Resolve, Package.Package, PackageId.PackageId, Interface.Interface, InterfaceId.InterfaceId, WorldId.WorldId}
use Rattle.wit_model.specs.declared.model.World.{World}
use Rattle.wit_model.proofs.{NameLaws.spelled_path_reads, VersionLaws.same_name, TextLemmas.text_named, TextLemmas.text_same as text-same}
use Rattle.wit_model.proofs.OnePath.{given-test, interface-passes, HasPath, has-path, path-label, path-listed, package-name, package-once, package-passes, found-in}
use Rattle.encode_shown.proofs.Members.{found-entry, numbered-as}
use Rattle.comp_meaning.specs.{Same.same_identity, Reads.is_of}
use Rattle.comp_meaning.proofs.SameLaws.{identities_decide}
use Rattle.base_lemmas.proofs.{Bools.both_ways as either_way, Bools.left_of as first_true, Bools.right_of as second_true, Numbers.equal, Numbers.same-number}
use Rattle.base_lemmas.proofs.Elements.{all-contained, contains-map}

-- no world of a package has the name of an interface of it
pub interface-unnamed : (r : Resolve) → IsValid r → (p : Package) (m : ℕ) (i : Interface) (name : String Global) → interface_at r m ≡ Some i → i.name ≡ Some name
    → option_and_then (package_at r) (package_number i.package) ≡ Some p → is_world_name p (text_of name) ≡ false
unfolding places
interface-unnamed r v p m i name there named home = no-longer (is_world_name p (text_of name)) (second_true (interface_is_listed m (text_of name) p) _
    (given-test (λ p. interface_is_listed m (text_of name) p && not (is_world_name p (text_of name))) (option_and_then (package_at r) (package_number i.package)) true p home
    (given-test (λ name. option_map_or (λ p. interface_is_listed m (text_of name) p && not (is_world_name p (text_of name))) (option_and_then (package_at r) (package_number i.package)) true)
    i.name _ name named (second_true (is_some i.package) _ (interface-passes places r v.rules.places m i there)))))

module _ (r : Resolve) (v : IsValid r) (n : ℕ) (p : Package) (at : package_at r n ≡ Some p) where
  pub identity : is_identity (identity_of p.name) ≡ true
  identity = (package-name r v n p at).identity

  -- ---- its interfaces and worlds

  inside : (list_all (λ (id : InterfaceId). in_list r.interfaces.items id.0) (values p.interfaces) && list_all (λ (id : WorldId). in_list r.worlds.items id.0) (values p.worlds)) ≡ true
  unfolding numbers_in_range
  inside = second_true (is_place n) _ (package-passes numbers_in_range r v.rules.numbers_in_range n p at)

  -- an interface of the package's map
  pub record IsOwn (e : String Global × InterfaceId) : Type 0 where
    pub def : Interface
    pub there : interface_at r e.1.0 ≡ Some def
    pub within : in_list r.interfaces.items e.1.0 ≡ true
    pub string : String Global
    pub named_ : def.name ≡ Some string
    pub text : text_of string ≡ text_of e.0
    pub home : PackageId
    pub in_package : def.package ≡ Some home
    pub number : home.0 ≡ n

  pub own-interface : (e : String Global × InterfaceId) → Contains p.interfaces.entries e → IsOwn e
  unfolding places names_in_packages
  own-interface e c =
      let within = all-contained (λ (id : InterfaceId). in_list r.interfaces.items id.0) (values p.interfaces) e.1
      (first_true (list_all (λ (id : InterfaceId). in_list r.interfaces.items id.0) (values p.interfaces)) _ inside) (contains-map (λ x. x.1) p.interfaces.entries e c) in
      let found = found-in r.interfaces.items e.1.0 within in
      let named = all-contained (λ (e : String Global × InterfaceId). passes (λ i. text_is i.name (text_of e.0)) (interface_at r e.1.0)) p.interfaces.entries e
      (first_true (list_all (λ (e : String Global × InterfaceId). passes (λ i. text_is i.name (text_of e.0)) (interface_at r e.1.0)) p.interfaces.entries) _
      (package-passes names_in_packages r v.rules.names_in_packages n p at)) c in
      let name = text_named found.0.name (text_of e.0) (ap (passes (λ (i : Interface). text_is i.name (text_of e.0))) (sym found.1) ∙ named) in
      let belongs = all-contained (interface_belongs r n) p.interfaces.entries e
      (first_true (list_all (interface_belongs r n) p.interfaces.entries) _ (package-passes places r v.rules.places n p at)) c in
      let named_belongs = ap (passes (λ name. is_id n (package_number found.0.package) && text_eq (text_of name) (text_of e.0))) (sym name.1)
      ∙ (ap (passes (λ (i : Interface). passes (λ name. is_id n (package_number i.package) && text_eq (text_of name) (text_of e.0)) i.name)) (sym found.1) ∙ belongs) in
      let home = numbered-as (λ (id : PackageId). id.0) n found.0.package (first_true (is_id n (package_number found.0.package)) _ named_belongs) in
      record { def = found.0; there = found.1; within = within; string = name.0; named_ = name.1; text = name.2; home = home.0; in_package = home.1; number = home.2 }

  -- its path
  pub own-path : (e : String Global × InterfaceId) → Contains p.interfaces.entries e → interface_path r e.1.0 ≡ Some (path_in (identity_of p.name) (text_of e.0))
  own-path e c = search (std_rules, own-interface e c)

  -- no world of the package has its name
  pub no-world-name : (e : String Global × InterfaceId) → Contains p.interfaces.entries e → is_world_name p (text_of e.0) ≡ false
  no-world-name e c =
      let is = own-interface e c in
      ap (is_world_name p) (sym is.text) ∙ interface-unnamed r v p e.1.0 is.def is.string is.there is.named_
      (ap (λ o. option_and_then (package_at r) (package_number o)) is.in_package ∙ ap (package_at r) is.number ∙ at)

  -- a world of the package's map
  pub own-world : (e : String Global × WorldId) → Contains p.worlds.entries e → (w : World) → world_at r e.1.0 ≡ Some w → (text_of w.name ≡ text_of e.0)
      × ((home : PackageId) × (w.package ≡ Some home) × (home.0 ≡ n))
  unfolding places
  own-world e c w there =
      let belongs = all-contained (world_belongs r n) p.worlds.entries e
      (first_true (list_all (world_belongs r n) p.worlds.entries) _ (second_true (list_all (interface_belongs r n) p.interfaces.entries) _ (package-passes places r v.rules.places n p at))) c in
      let test = ap (passes (λ (w : World). is_id n (package_number w.package) && text_eq (text_of w.name) (text_of e.0))) (sym there) ∙ belongs in (
        text-same (text_of w.name) (text_of e.0) (second_true (is_id n (package_number w.package)) _ test),
        numbered-as (λ (id : PackageId). id.0) n w.package (first_true (is_id n (package_number w.package)) _ test),
      )

  -- ---- paths of the package

  module _ (m : ℕ) (path : Text) (is : interface_path r m ≡ Some path) where
    h : HasPath r m path
    h = has-path r m path is

    read : read_path path ≡ Some (identity_of h.package_.name, text_of h.name)
    read = ap read_path h.spelled ∙ spelled_path_reads (identity_of h.package_.name) (text_of h.name) (package-name r v h.home.0 h.package_ h.stands).identity (path-label r v m path h)

    same-package : same_identity (identity_of p.name) (identity_of h.package_.name) ≡ true → h.home.0 ≡ n
    same-package e = package-once r v n h.home.0 p h.package_ at h.stands
        ((same_name p.name h.package_.name (package-name r v n p at).version (package-name r v h.home.0 h.package_ h.stands).version).1
        ((identities_decide (identity_of p.name) (identity_of h.package_.name)).0 e))

    -- a path is of the package where the interface's package is this one
    of-package : is_of (identity_of p.name) path ≡ (h.home.0 == n)
    of-package = ap (λ o. is-of-read o) read ∙ either_way (same_identity (identity_of p.name) (identity_of h.package_.name)) (h.home.0 == n) (λ e. ap (λ k. k == n) (same-package e) ∙ same-number n)
        (λ e. let one : h.package_ ≡ p = some-same h.package_ p (sym h.stands ∙ ap (package_at r) (equal h.home.0 n e) ∙ at) in
        ap (λ (q : Package). same_identity (identity_of p.name) (identity_of q.name)) one ∙ (identities_decide (identity_of p.name) (identity_of p.name)).1 refl)
      where
        is-of-read : Option (PackageIdentity × Text) → Bool
        is-of-read None = false
        is-of-read (Some q) = same_identity (identity_of p.name) q.0

    pub foreign-path : is_foreign r n m ≡ not (is_of (identity_of p.name) path)
    foreign-path = (λ j. is_some (is j) && not (option_map_or (λ i. option_map_or (λ id. id.0 == n) i.package false) (h.there j) false))
        ∙ ap (λ o. not (option_map_or (λ id. id.0 == n) o false)) h.in_package ∙ ap not (sym of-package)

    -- and then it stands in the package under its name
    pub own-listed : is_of (identity_of p.name) path ≡ true → (e : String Global × InterfaceId) × Contains p.interfaces.entries e × (e.1.0 ≡ m) × (path ≡ path_in (identity_of p.name) (text_of e.0))
    own-listed e =
        let one : h.package_ ≡ p = some-same h.package_ p (sym h.stands ∙ ap (package_at r) (equal h.home.0 n (sym of-package ∙ e)) ∙ at) in
        let found = found-entry (λ (id : InterfaceId). id.0) h.package_.interfaces.entries m (text_of h.name) (path-listed r v m path h) in
        (found.0, subst (λ (q : Package). Contains q.interfaces.entries found.0) one found.1, found.2, h.spelled ∙ (λ j. path_in (identity_of (one j).name) (sym found.3 j)))
