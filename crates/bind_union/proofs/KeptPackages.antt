-- What stands in the packages of what was merged has its name and its package there, and no two packages have one name.
pub use Rattle.bind_meaning.proofs.Listed.{tested as found_option}
use Rattle.std.proofs.Common.{rules as std_rules, arith, ◌≡◌, ◌⊎◌, inl, inr, refl, sym, ap, ◌∙◌, ℕ, Bool, true, false, ◌&&◌, ◌||◌, ◌==◌, not, List, [], Option, None, Some, subst}
use Rattle.std.proofs.lemmas.{Bool.lt-ltb, Bool.or_right, Bool.and_from as both, Bool.or_left, Option.slice_get_within, Option.same_Some as same-some}
use Rattle.std.proofs.lemmas.List.Folds.{list_all-append, list_all-map}
use Rattle.std.specs.{Prelude.String, List.list_all, Option.option_map_or}
use Rattle.std.specs.declared.alloc.Global.{Global}
use Rattle.indexmap.specs.IndexMap.{values}
use Rattle.wit_model.specs.declared.model.{Resolve.Resolve, Package.Package, InterfaceId.InterfaceId, WorldId.WorldId, PackageName.PackageName}
use Rattle.wit_model.specs.{Text.Text, Text.text_of, Text.text_eq, Lookup.package_at, Lookup.interface_at, Lookup.world_at, Lookup.identity_of, Names.is_label, Names.is_version}
use Rattle.wit_model.specs.Rules.{each_from, passes, in_list, is_id, text_is, package_number, interface_belongs, world_belongs, names_itself, is_world_name, same_package_name}
use Rattle.wit_model.specs.Valid.{Rule, Keeps, KeepsRules, numbers_in_range, places, names_in_packages, package_names}
use Rattle.wit_model.proofs.{Entries.packages_keep, TextLemmas.named_too, OnePath.found-in, OnePath.package-passes, RulesLemmas.each_by_number, RulesLemmas.each_at, RulesLemmas.name_flip}
use Rattle.bind_union.specs.Carried.{Renumbering, IsSameName}
use Rattle.bind_union.specs.Merged.{interface_names, world_names, IsJoinedPackage, PackageStands, grown, brought, IsKeptPackage, IsPackageOf, IsMerged}
use Rattle.bind_union.proofs.{Lists.by_number, Carrying.same_identity, CopyRules.text_alike, CopyRules.version_alike, CopyRules.are_parts, ViewTests.id_under, Itself.get_begin, PackageNames.names_pass}
use Rattle.base_lemmas.proofs.{Bools.left_of as first_true, Bools.right_of as second_true, Elements.all_three, Elements.all_weaker, Elements.all_two}
use Rattle.base_lemmas.proofs.Numbers.{equal, same-number}

pub kept : (rule : Rule) (s : Resolve) → each_from (rule.package_ s) 0 s.packages.items ≡ true → each_from (rule.interface_ s) 0 s.interfaces.items ≡ true
    → each_from (rule.world_ s) 0 s.worlds.items ≡ true → each_from (rule.type_ s) 0 s.types.items ≡ true → Keeps rule s
kept rule s ps is ws ts = both _ _ ps (both _ _ is (both _ _ ws ts))

-- where a package's number is in range
pub by_package : (r : Resolve) (P : Option ℕ → Type 0) → P None → ((k : ℕ) (p : Package) → package_at r k ≡ Some p → P (Some k)) → (p : Option ℕ) → passes (in_list r.packages.items) p ≡ true → P p
by_package r P none some None h = none
by_package r P none some (Some k) h = let p = found-in r.packages.items k h in some k p.0 p.1

-- the interface is there, and has this name and this package
abbrev pub is_interface_of : Resolve → ℕ → Text × ℕ → Bool
is_interface_of r n e = option_map_or (λ i. text_is i.name e.0 && is_id n (package_number i.«package»)) (interface_at r e.1) false

abbrev pub is_world_of : Resolve → ℕ → Text × ℕ → Bool
is_world_of r n e = option_map_or (λ w. text_eq (text_of w.name) e.0 && is_id n (package_number w.«package»)) (world_at r e.1) false

-- ---- in a valid one

module _ (r : Resolve) (valid : KeepsRules r) (n : ℕ) (p : Package) (found : package_at r n ≡ Some p) where
  ranges : (list_all (λ id. in_list r.interfaces.items id.0) (values p.interfaces) && list_all (λ id. in_list r.worlds.items id.0) (values p.worlds)) ≡ true
  unfolding numbers_in_range
  ranges = search (std_rules, package-passes numbers_in_range r valid.numbers_in_range n p found)

  abbrev third_place : Bool
  third_place = list_all (λ e. not (is_world_name p (text_of e.0)) || names_itself r e) p.interfaces.entries

  belong : (list_all (interface_belongs r n) p.interfaces.entries && (list_all (world_belongs r n) p.worlds.entries && third_place)) ≡ true
  unfolding places
  belong = package-passes places r valid.places n p found

  named : (list_all (λ e. passes (λ i. text_is i.name (text_of e.0)) (interface_at r e.1.0)) p.interfaces.entries && list_all
      (λ e. passes (λ w. text_eq (text_of w.name) (text_of e.0)) (world_at r e.1.0)) p.worlds.entries) ≡ true
  unfolding names_in_packages
  named = package-passes names_in_packages r valid.names_in_packages n p found

  interface_of : (name : Option (String Global)) (t : Text) (b : Bool) → text_is name t ≡ true → passes (λ s. b && text_eq (text_of s) t) name ≡ true → (text_is name t && b) ≡ true
  interface_of x t b h k = search std_rules

  pub interfaces_stand : list_all (is_interface_of r n) (interface_names p) ≡ true
  interfaces_stand = list_all-map (is_interface_of r n) (λ e. (text_of e.0, e.1.0)) p.interfaces.entries
      ∙ all_three (λ e. in_list r.interfaces.items e.1.0) (interface_belongs r n) (λ e. passes (λ i. text_is i.name (text_of e.0)) (interface_at r e.1.0))
      (λ e. is_interface_of r n (text_of e.0, e.1.0)) (λ e a b c.
      let i = found-in r.interfaces.items e.1.0 a in
      ap (λ o. option_map_or (λ i. text_is i.name (text_of e.0) && is_id n (package_number i.«package»)) o false) i.1
      ∙ interface_of i.0.name (text_of e.0) (is_id n (package_number i.0.«package»)) (sym (ap (passes (λ i. text_is i.name (text_of e.0))) i.1) ∙ c)
      (sym (ap (passes (λ i. passes (λ name. is_id n (package_number i.«package») && text_eq (text_of name) (text_of e.0)) i.name)) i.1) ∙ b))
      p.interfaces.entries (sym (list_all-map (λ (id : InterfaceId). in_list r.interfaces.items id.0) (λ e. e.1) p.interfaces.entries) ∙ first_true _ _ ranges) (first_true _ _ belong)
      (first_true _ _ named)

  pub worlds_stand : list_all (is_world_of r n) (world_names p) ≡ true
  worlds_stand = search (std_rules, list_all-map, all_two, found-in, both, second_true, first_true, ranges, belong)

-- ---- back to the rules

module _ (r : Resolve) (n : ℕ) (p : Package) (stand : list_all (is_interface_of r n) (interface_names p) ≡ true) (worlds : list_all (is_world_of r n) (world_names p) ≡ true) where
  each_interface : (q : String Global × InterfaceId → Bool) → ((e : String Global × InterfaceId) → is_interface_of r n (text_of e.0, e.1.0) ≡ true → q e ≡ true)
      → list_all q p.interfaces.entries ≡ true
  each_interface q one = search (std_rules, all_weaker, list_all-map)

  each_world : (q : String Global × WorldId → Bool) → ((e : String Global × WorldId) → is_world_of r n (text_of e.0, e.1.0) ≡ true → q e ≡ true) → list_all q p.worlds.entries ≡ true
  each_world q one = search (std_rules, all_weaker, list_all-map)

  pub ranges_hold : (list_all (λ id. in_list r.interfaces.items id.0) (values p.interfaces) && list_all (λ id. in_list r.worlds.items id.0) (values p.worlds)) ≡ true
  ranges_hold = search (std_rules, both, list_all-map, each_interface, found_option, lt-ltb, slice_get_within, each_world)

  pub names_hold : names_in_packages.package_ r n p ≡ true
  unfolding names_in_packages
  names_hold = search (std_rules, both, each_interface, found_option, first_true, each_world)

  belongs : (name : Option (String Global)) (t : Text) (b : Bool) → text_is name t ≡ true → b ≡ true → passes (λ s. b && text_eq (text_of s) t) name ≡ true
  belongs x t b h k = search std_rules

  pub places_hold : places.package_ r n p ≡ true
  unfolding places
  places_hold = search (std_rules, both, each_interface, found_option, belongs, first_true, second_true, each_world, or_right)

-- ---- in what was merged

-- ---- names by their texts

abbrev same_parts : ℕ × ℕ × ℕ × List ℕ × List ℕ → ℕ × ℕ × ℕ × List ℕ × List ℕ → Bool
same_parts a b = a.0 == b.0 && (a.1 == b.1 && (a.2 == b.2 && (text_eq a.3 b.3 && text_eq a.4 b.4)))

same_name : (a b c d : PackageName) → IsSameName a b → IsSameName c d → same_package_name b d ≡ same_package_name a c
same_name a b c d x y = search std_rules

abbrev is_package_name : PackageName → Bool
is_package_name p = is_label (text_of p.namespace) && (is_label (text_of p.name) && passes is_version p.version)

name_passes : (a b : PackageName) → IsSameName a b → is_package_name b ≡ is_package_name a
name_passes a b x = λ i. is_label (x.namespace i) && (is_label (x.name i) && (version_alike b.version ∙ (ap (passes are_parts) x.version ∙ sym (version_alike a.version))) i)

-- ---- where a name is from

data NameFrom (own other : Resolve) (f : Renumbering) (n : ℕ) (q : PackageName) : Type 0 where
  ours : (p : Package) → package_at own n ≡ Some p → IsSameName p.name q → NameFrom own other f n q
  theirs : (k : ℕ) (p : Package) → package_at other k ≡ Some p → f.packages k ≡ n → ((m : ℕ) (o : Package) → package_at own m ≡ Some o → same_package_name o.name p.name ≡ false) → IsSameName p.name q
      → NameFrom own other f n q

module _ (own other merged : Resolve) (bound other_bound : ℕ) (first second : Renumbering) (left_out : ℕ → Bool) (valid_own : KeepsRules own) (valid_other : KeepsRules other) (is : IsMerged own other merged bound other_bound first second left_out) where
  own_interface : (n : ℕ) (e : Text × ℕ) → is_interface_of own n e ≡ true → is_interface_of merged n e ≡ true
  own_interface n e h =
      let i = found_option _ (interface_at own e.1) h in
      ap (λ o. option_map_or (λ i. text_is i.name e.0 && is_id n (package_number i.«package»)) o false) (get_begin own.interfaces.items merged.interfaces.items is.interfaces e.1 i.0 i.1) ∙ i.2

  own_world : (n : ℕ) (e : Text × ℕ) → is_world_of own n e ≡ true → is_world_of merged n e ≡ true
  own_world n e h =
      let w = found_option _ (world_at own e.1) h in
      by_number e.1 bound (λ same.
      let old : is.own_bound ≡ w.0 = same-some is.own_bound w.0 (sym is.bound_at ∙ (ap (world_at own) (sym same) ∙ w.1)) in
      ap (λ o. option_map_or (λ w. text_eq (text_of w.name) e.0 && is_id n (package_number w.«package»)) o false) (ap (world_at merged) (same ∙ sym is.bound_there) ∙ is.joined.at_image)
      ∙ ((λ i. text_eq (text_of ((is.bound_name ∙ ap (λ x. x.name) old) i)) e.0 && is_id n (package_number ((is.bound_package ∙ ap (λ x. x.«package») old) i))) ∙ w.2))
      (λ apart. ap (λ o. option_map_or (λ w. text_eq (text_of w.name) e.0 && is_id n (package_number w.«package»)) o false) (is.worlds e.1 w.0 w.1 apart) ∙ w.2)

  copied_interface : (n : ℕ) (name : Text) (m : ℕ) → first.copies_interface m ≡ true → is_interface_of other n (name, m) ≡ true
      → is_interface_of merged (first.packages n) (name, first.interfaces m) ≡ true
  copied_interface n name m c h = grind (arith, both, text_alike, first_true, named_too, id_under, second_true)

  copied_world : (n : ℕ) (name : Text) (m : ℕ) → first.carries_world m ≡ true → is_world_of other n (name, m) ≡ true → is_world_of merged (first.packages n) (name, first.worlds m) ≡ true
  copied_world n name m c h = search (std_rules, both, first_true, id_under, second_true)

  own_stand : (n : ℕ) (p : Package) → package_at own n ≡ Some p → (list_all (is_interface_of merged n) (interface_names p) ≡ true) × (list_all (is_world_of merged n) (world_names p) ≡ true)
  own_stand n p e = (
    all_weaker (is_interface_of own n) (is_interface_of merged n) (own_interface n) (interface_names p) (interfaces_stand own valid_own n p e),
    all_weaker (is_world_of own n) (is_world_of merged n) (own_world n) (world_names p) (worlds_stand own valid_own n p e),
  )

  joined_stand : (n : ℕ) (p : Package) → package_at other n ≡ Some p → (own_interfaces own_worlds : List (Text × ℕ)) → (j : IsJoinedPackage merged first left_out n p own_interfaces own_worlds)
      → list_all (is_interface_of merged (first.packages n)) own_interfaces ≡ true → list_all (is_world_of merged (first.packages n)) own_worlds ≡ true
      → (list_all (is_interface_of merged (first.packages n)) (interface_names j.image) ≡ true) × (list_all (is_world_of merged (first.packages n)) (world_names j.image) ≡ true)
  joined_stand n p e own_interfaces own_worlds j oi ow = (
    ap (list_all (is_interface_of merged (first.packages n))) j.interfaces
        ∙ (list_all-append (is_interface_of merged (first.packages n)) own_interfaces j.new_interfaces
        ∙ both _ _ oi (names_pass first.interfaces first.copies_interface (λ m. false) own_interfaces (is_interface_of other n) (is_interface_of merged (first.packages n)) (copied_interface n)
        (interface_names p) j.new_interfaces j.joined_interfaces (interfaces_stand other valid_other n p e))),
    ap (list_all (is_world_of merged (first.packages n))) j.worlds ∙ (list_all-append (is_world_of merged (first.packages n)) own_worlds j.new_worlds
        ∙ both _ _ ow (names_pass first.worlds first.carries_world left_out own_worlds (is_world_of other n) (is_world_of merged (first.packages n)) (copied_world n) (world_names p) j.new_worlds
        j.joined_worlds (worlds_stand other valid_other n p e))),
  )

  stand_of : (n : ℕ) (p : Package) → package_at other n ≡ Some p → PackageStands own merged first left_out n p → (q : Package) × (package_at merged (first.packages n) ≡ Some q)
      × (list_all (is_interface_of merged (first.packages n)) (interface_names q) ≡ true) × (list_all (is_world_of merged (first.packages n)) (world_names q) ≡ true)
  stand_of n p e (grown o at j a b) = let h = own_stand (first.packages n) o at in let k = joined_stand n p e (interface_names o) (world_names o) j h.0 h.1 in (j.image, j.at_image, k.0, k.1)
  stand_of n p e (brought high j fresh) = let k = joined_stand n p e [] [] j refl refl in (j.image, j.at_image, k.0, k.1)

  pub all_stand : (n : ℕ) (q : Package) → package_at merged n ≡ Some q → (list_all (is_interface_of merged n) (interface_names q) ≡ true) × (list_all (is_world_of merged n) (world_names q) ≡ true)
  all_stand n q e = go (is.package_from n (slice_get_within merged.packages.items n q e))
    where
      go : IsKeptPackage own merged n ⊎ IsPackageOf other first n → (list_all (is_interface_of merged n) (interface_names q) ≡ true) × (list_all (is_world_of merged n) (world_names q) ≡ true)
      go (inl k) = search (std_rules, own_stand n k.old k.found, same-some k.image q (sym k.at_image ∙ e))
      go (inr k) = search (std_rules, stand_of k.number k.old k.found (is.packages_stand k.number k.old k.found))

  -- names in packages
  pub names_in_packages_kept : Keeps names_in_packages merged
  unfolding names_in_packages
  names_in_packages_kept =
      packages_keep names_in_packages.package_ merged (each_by_number (names_in_packages.package_ merged) merged.packages.items (λ n q e. let h = all_stand n q e in names_hold merged n q h.0 h.1))

  own_name : (n : ℕ) (p q : Package) → package_at own n ≡ Some p → package_at merged n ≡ Some q → IsSameName p.name q.name
  own_name n p q e at = let x = is.packages n p e in subst (λ (y : Package). IsSameName p.name y.name) (same-some x.0 q (sym x.1 ∙ at)) x.2

  -- an own package in which one of the other stands has its name
  pub grown_name : (k : ℕ) (o p : Package) → package_at own (first.packages k) ≡ Some o → package_at other k ≡ Some p → identity_of o.name ≡ identity_of p.name
  grown_name k o p at e =
      let q = is.packages (first.packages k) o at in
      let x = is.first_copies.carried.packages k p e in
      sym (same_identity o.name q.0.name q.2) ∙ (ap (λ y. identity_of y.name) (same-some q.0 x.image (sym q.1 ∙ x.at_image)) ∙ same_identity p.name x.image.name x.name)

  name_from : (n : ℕ) (q : Package) → package_at merged n ≡ Some q → NameFrom own other first n q.name
  name_from n q e = go (is.package_from n (slice_get_within merged.packages.items n q e))
    where
      stands : (k : IsPackageOf other first n) → PackageStands own merged first left_out k.number k.old → NameFrom own other first n q.name
      stands k (grown p at j a b) = let there : package_at own n ≡ Some p = ap (package_at own) (sym k.here) ∙ at in ours p there (own_name n p q there e)
      stands k (brought high j fresh) =
          let x = is.first_copies.carried.packages k.number k.old k.found in
          theirs k.number k.old k.found k.here fresh (subst (λ (y : Package). IsSameName k.old.name y.name) (same-some x.image q (sym x.at_image ∙ (ap (package_at merged) k.here ∙ e))) x.name)

      go : IsKeptPackage own merged n ⊎ IsPackageOf other first n → NameFrom own other first n q.name
      go (inl k) = ours k.old k.found (own_name n k.old q k.found e)
      go (inr k) = stands k (is.packages_stand k.number k.old k.found)

  abbrev package_rule : Resolve → ℕ → Package → Bool
  package_rule r n p = is_package_name p.name && each_from (λ m other. (m == n) || not (same_package_name p.name other.name)) 0 r.packages.items

  passed : (r : Resolve) → KeepsRules r → (n : ℕ) (p : Package) → package_at r n ≡ Some p → package_rule r n p ≡ true
  unfolding package_names
  passed r valid n p e = package-passes package_names r valid.package_names n p e

  apart_in : (r : Resolve) → KeepsRules r → (n m : ℕ) (p q : Package) → package_at r n ≡ Some p → package_at r m ≡ Some q → ((m == n) || not (same_package_name p.name q.name)) ≡ true
  apart_in r valid n m p q e d = each_at (λ k other. (k == n) || not (same_package_name p.name other.name)) r.packages.items m q (second_true (is_package_name p.name) _ (passed r valid n p e)) d

  named_well : (n : ℕ) (q : PackageName) → NameFrom own other first n q → is_package_name q ≡ true
  named_well n q (ours p e same) = name_passes p.name q same ∙ first_true _ _ (passed own valid_own n p e)
  named_well n q (theirs k p e here fresh same) = name_passes p.name q same ∙ first_true _ _ (passed other valid_other k p e)

  two_apart : (n m : ℕ) (q o : PackageName) → NameFrom own other first n q → NameFrom own other first m o → ((m == n) || not (same_package_name q o)) ≡ true
  two_apart n m q o (ours p e x) (ours u d y) = ap (λ b. (m == n) || not b) (same_name p.name q u.name o x y) ∙ apart_in own valid_own n m p u e d
  two_apart n m q o (ours p e x) (theirs k u d here fresh y) = or_right (m == n) (not (same_package_name q o)) (ap not (same_name p.name q u.name o x y ∙ fresh n p e))
  two_apart n m q o (theirs k p e here fresh x) (ours u d y) = or_right (m == n) (not (same_package_name q o)) (ap not (same_name p.name q u.name o x y ∙ (name_flip p.name u.name ∙ fresh m u d)))
  two_apart n m q o (theirs k p e here fresh x) (theirs l u d there new y) = go (l == k) refl (apart_in other valid_other k l p u e d)
    where
      go : (b : Bool) → (l == k) ≡ b → (b || not (same_package_name p.name u.name)) ≡ true → ((m == n) || not (same_package_name q o)) ≡ true
      go v same h = search (std_rules, or_left, equal, same-number, or_right, same_name)

  -- package names
  pub package_names_kept : Keeps package_names merged
  unfolding package_names
  package_names_kept = packages_keep package_names.package_ merged (each_by_number (package_rule merged) merged.packages.items (λ n q e.
      let from = name_from n q e in
      both _ _ (named_well n q.name from) (each_by_number (λ m other. (m == n) || not (same_package_name q.name other.name)) merged.packages.items
      (λ m o d. two_apart n m q.name o.name from (name_from m o d)))))
