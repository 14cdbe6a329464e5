-- Members are a package, and a world stands alone, exactly where their numbers are.
use Rattle.std.proofs.Common.{rules as std_rules, ◌≡◌, refl, sym, ap, ◌∙◌, ℕ, Bool, true, false, not, ◌&&◌, ◌||◌, ◌==◌, List, [], ◌∷◌, ◌++◌, map, Option, Some, None, option_map, slice_get}
use Rattle.std.proofs.lemmas.{Bool.eqb-true, Bool.eq-eqb, Bool.and_from as both, Option.same_Some as same-some}
use Rattle.std.specs.{List.AllByRecursion, List.AllZip, List.flat_map, List.list_all, List.list_any, Option.option_map_or}
use Rattle.wit_model.specs.{Text.Text, Text.text_eq, Names.PackageIdentity, Names.path_in, Names.read_path}
use Rattle.wit_model.proofs.{NameLaws.read_path_is_spelled, VersionLaws.same_text, TextLemmas.text_same}
use Rattle.comp_meaning.specs.{Follow.View, Follow.each, Same.same_identity, Reads.Part, Reads.Member, Reads.is_of, Reads.all_agree, Reads.is_interface_part}
use Rattle.comp_meaning.proofs.SameLaws.{identities_decide}
use Rattle.plan_meaning.specs.NumberedViews.{Tables, path_text, AreTables, NumberedView, NumberedSight, sight_of, IsSight, agree_in_numbers}
use Rattle.plan_meaning.specs.{NumberedRules.Fact, NumberedWorlds.NumberedSeen, NumberedWorlds.seen_of, NumberedWorlds.HasPath}
use Rattle.plan_meaning.specs.NumberedMembers.{Homes, IsHomeOf, HomesStand, is_of_package, is_named_in, NumberedPart, world, interface, NumberedMember, sights_of_part, sights_of_members, ShowsInterface, ShowsPart, IsMember, shown_view, imported_view, are_interfaces, is_interface_of, stands_at_top, IsKnownSight, ImportsInNumbers, ExportInNumbers, PackagesInNumbers, OneWorldInNumbers}
use Rattle.plan_meaning.proofs.{NumberedRules.interface_same, Lists.each_so, Lists.all_same}
use Rattle.plan_meaning.proofs.{NumberedViews.all_agree_in_numbers, NumberedWorlds.path_is, NumberedWorlds.path_number, NumberedWorlds.sights_in_numbers}
use Rattle.base_lemmas.proofs.{Bools.both_ways as either_way, Bools.left_of as first_true, Bools.right_of as second_true, Lists.append_of_map, Lists.map_of_map}
use Rattle.base_lemmas.proofs.Numbers.{turned}
use Rattle.comp_meaning.specs.Reads as reads

pub only_sights : (t : Tables) (known : ℕ → Fact) (seen : List NumberedSight) → AllByRecursion (IsKnownSight t known) seen → AllByRecursion (IsSight t) seen
only_sights t known = each_so (IsKnownSight t known) (IsSight t) (λ s h. h.0)

module _ (t : Tables) (tables : AreTables t) (h : Homes) (stand : HomesStand t h) where
  -- ---- packages

  module _ (n : ℕ) (identity : PackageIdentity) (there : slice_get h.packages n ≡ Some identity) where
    package_number : (m : ℕ) (other : PackageIdentity) → slice_get h.packages m ≡ Some other → same_identity identity other ≡ (n == m)
    package_number m other at = either_way _ _ (λ e. let same : identity ≡ other = (identities_decide identity other).0 e in eq-eqb n m (stand.apart n m other (there ∙ ap Some same) at))
        (λ e. (identities_decide identity other).1 (same-some _ _ (sym there ∙ (ap (slice_get h.packages) (eqb-true n m e) ∙ at))))

    of_read : Option (PackageIdentity × Text) → Bool
    of_read None = false
    of_read (Some q) = same_identity identity q.0

    pub of_package : (p : ℕ) → HasPath t p → is_of identity (path_text t p) ≡ is_of_package h n p
    unfolding of_read
    of_package p x =
        let home = stand.homes p x.0 x.1 in
        ap (is_of identity) (path_is t p x) ∙ (ap of_read home.reads ∙ (package_number home.package_ home.identity home.stands
        ∙ (turned n home.package_ ∙ sym (ap (λ o. option_map_or (λ (y : ℕ × Text). y.0 == n) o false) home.home))))

    -- the path of this name in the package
    named_in : (name : Text) → read_path (path_in identity name) ≡ Some (identity, name) → (p : ℕ) → HasPath t p → text_eq (path_text t p) (path_in identity name) ≡ is_named_in h n name p
    named_in name reads p x =
        let home = stand.homes p x.0 x.1 in
        either_way _ _ (λ e.
        let same_path : x.0 ≡ path_in identity name = sym (path_is t p x) ∙ text_same _ _ e in
        let pair : ◌≡◌ {A = PackageIdentity × Text} (home.identity, home.name) (identity, name) = same-some _ _ (sym home.reads ∙ (ap read_path same_path ∙ reads)) in
        let number : n ≡ home.package_ = stand.apart n home.package_ home.identity (there ∙ ap Some (sym (ap (λ (y : PackageIdentity × Text). y.0) pair))) home.stands in
        both _ _ (eq-eqb _ n (sym number)) (same_text _ _ (ap (λ (y : PackageIdentity × Text). y.1) pair))) (back home)
        ∙ sym (ap (λ o. option_map_or (λ (y : ℕ × Text). y.0 == n && text_eq y.1 name) o false) home.home)
      where
        back : (home : IsHomeOf h p x.0) → ((home.package_ == n) && text_eq home.name name) ≡ true → text_eq (path_text t p) (path_in identity name) ≡ true
        back home e =
            let number : home.package_ ≡ n = eqb-true home.package_ n (first_true (home.package_ == n) (text_eq home.name name) e) in
            let text : home.name ≡ name = text_same home.name name (second_true (home.package_ == n) (text_eq home.name name) e) in
            let package_ : home.identity ≡ identity = same-some home.identity identity (sym home.stands ∙ (ap (slice_get h.packages) number ∙ there)) in
            same_text (path_text t p) (path_in identity name) (path_is t p x ∙ ((read_path_is_spelled x.0 home.identity home.name home.reads).spelled ∙ (λ i. path_in (package_ i) (text i))))

  -- ---- members

  -- the path of an interface that is exported
  exported_path : (m : NumberedMember) (x : Member) → slice_get h.packages m.package_ ≡ Some x.package_ → x.label ≡ m.label
      → (p : ℕ) (v : NumberedView) (imports : List (ℕ × NumberedView)) (view : View) (views : List (Text × View))
      → ShowsInterface t h m p v imports view views → path_in x.package_ x.label ≡ path_text t p
  exported_path m x package_ under p v imports view views is =
      let home = stand.homes p is.path.0 is.path.1 in
      let pair : ◌≡◌ {A = ℕ × Text} (home.package_, home.name) (m.package_, m.label) = same-some (home.package_, home.name) (m.package_, m.label) (sym home.home ∙ is.home) in
      let identity : home.identity ≡ x.package_ = same-some home.identity x.package_ (sym home.stands ∙ (ap (λ (y : ℕ × Text). slice_get h.packages y.0) pair ∙ package_)) in
      let name : home.name ≡ x.label = ap (λ (y : ℕ × Text). y.1) pair ∙ sym under in
      sym (path_is t p is.path ∙ ((read_path_is_spelled is.path.0 home.identity home.name home.reads).spelled ∙ (λ i. path_in (identity i) (name i))))

  part_sights : (m : NumberedMember) (x : Member) → slice_get h.packages m.package_ ≡ Some x.package_ → x.label ≡ m.label → (a : NumberedPart) (b : Part) → ShowsPart t h m a b
      → reads.sights (record { label = x.label; package_ = x.package_; part = b }) ≡ map (sight_of t) (sights_of_part t a)
  part_sights m x package_ under y z is = search (std_rules, sights_in_numbers, map_of_map, exported_path, append_of_map)

  pub all_sights : (ms : List NumberedMember) (members : List Member) → AllZip (IsMember t h) ms members → flat_map reads.sights members ≡ map (sight_of t) (sights_of_members t ms)
  all_sights [] [] z = refl
  all_sights (m ∷ ms) (x ∷ members) z = (λ i. part_sights m x z.0.package_ z.0.label m.part x.part z.0.part i ++ all_sights ms members z.1 i) ∙ sym (append_of_map _ _ _)
  all_sights _ _ z = absurd z

  -- ---- the rules

  module _ (known : ℕ → Fact) where
    pub interfaces_same : (seen : List NumberedSight) → AllByRecursion (IsKnownSight t known) seen → reads.are_interfaces (map (sight_of t) seen) ≡ are_interfaces t known seen
    interfaces_same = search (std_rules, all_same, path_is, interface_same)

    pub agree_same : (seen : List NumberedSight) → AllByRecursion (IsKnownSight t known) seen → all_agree (map (sight_of t) seen) ≡ agree_in_numbers seen
    agree_same seen all = all_agree_in_numbers t tables seen (only_sights t known seen all)

    module _ (n : ℕ) (identity : PackageIdentity) (there : slice_get h.packages n ≡ Some identity) where
      packages_same : (ms : List NumberedMember) (members : List Member) → AllZip (IsMember t h) ms members
          → list_all (λ x. same_identity identity x.package_) members ≡ list_all (λ m. n == m.package_) ms
      packages_same [] [] z = refl
      packages_same (m ∷ ms) (x ∷ members) z = λ i. package_number n identity there m.package_ x.package_ z.0.package_ i && packages_same ms members z.1 i
      packages_same _ _ z = absurd z

      -- one member is the interface of a place that is seen
      part_is : (s : NumberedSight) → HasPath t s.place → (m : NumberedMember) (x : Member) → slice_get h.packages m.package_ ≡ Some x.package_ → x.label ≡ m.label
          → same_identity identity x.package_ ≡ true
          → (a : NumberedPart) (b : Part) → ShowsPart t h m a b → (is_interface_part b && text_eq (path_text t s.place) (path_in identity x.label)) ≡ is_interface_of s.place a
      part_is s at m x package_ under same (world w) (Part.world scope) is = refl
      part_is s at m x package_ under same (interface p v imports) (Part.interface view views) is =
          ap (text_eq (path_text t s.place)) (ap (λ k. path_in k x.label) ((identities_decide identity x.package_).0 same) ∙ exported_path m x package_ under p v imports view views is)
          ∙ (path_number t tables s.place p at is.path ∙ turned p s.place)
      part_is s at m x package_ under same _ _ is = absurd is

      one_is : (s : NumberedSight) → HasPath t s.place → (ms : List NumberedMember) (members : List Member) → AllZip (IsMember t h) ms members
          → list_all (λ x. same_identity identity x.package_) members ≡ true
          → list_any (λ x. is_interface_part x.part && text_eq (path_text t s.place) (path_in identity x.label)) members ≡ list_any (λ m. is_interface_of s.place m.part) ms
      one_is s at [] [] z same = refl
      one_is s at (m ∷ ms) (x ∷ members) z same = λ i. part_is s at m x z.0.package_ z.0.label (first_true _ _ same) m.part x.part z.0.part i
          || one_is s at ms members z.1 (second_true _ _ same) i
      one_is s at _ _ z same = absurd z

      top_same : (ms : List NumberedMember) (members : List Member) → AllZip (IsMember t h) ms members → list_all (λ x. same_identity identity x.package_) members ≡ true
          → (seen : List NumberedSight) → AllByRecursion (IsKnownSight t known) seen → list_all (reads.stands_at_top identity members) (map (sight_of t) seen) ≡ list_all (stands_at_top h n ms) seen
      top_same ms members z same [] all = refl
      top_same ms members z same (s ∷ seen) all =
          let at : HasPath t s.place = (all.0.0.path, all.0.0.home) in
          λ i. (not (of_package n identity there s.place at i) || one_is s at ms members z same i) && top_same ms members z same seen all.1 i

      test_same : (ms : List NumberedMember) (members : List Member) → AllZip (IsMember t h) ms members → (seen : List NumberedSight) → AllByRecursion (IsKnownSight t known) seen
          → (list_all (λ x. same_identity identity x.package_) members && (list_all (reads.stands_at_top identity members) (map (sight_of t) seen)
          && (all_agree (map (sight_of t) seen) && reads.are_interfaces (map (sight_of t) seen))))
          ≡ (list_all (λ m. n == m.package_) ms && (list_all (stands_at_top h n ms) seen && (agree_in_numbers seen && are_interfaces t known seen)))
      test_same ms members z seen all = by (list_all (λ x. same_identity identity x.package_) members) refl
        where
          by : (b : Bool) → list_all (λ x. same_identity identity x.package_) members ≡ b
              → (list_all (λ x. same_identity identity x.package_) members && (list_all (reads.stands_at_top identity members) (map (sight_of t) seen)
              && (all_agree (map (sight_of t) seen) && reads.are_interfaces (map (sight_of t) seen))))
              ≡ (list_all (λ m. n == m.package_) ms && (list_all (stands_at_top h n ms) seen && (agree_in_numbers seen && are_interfaces t known seen)))
          by true e = λ i. packages_same ms members z i && (top_same ms members z e seen all i && (agree_same seen all i && interfaces_same seen all i))
          by false e = ap (λ b. b && (list_all (reads.stands_at_top identity members) (map (sight_of t) seen) && (all_agree (map (sight_of t) seen) && reads.are_interfaces (map (sight_of t) seen)))) e
              ∙ sym (ap (λ b. b && (list_all (stands_at_top h n ms) seen && (agree_in_numbers seen && are_interfaces t known seen))) (sym (packages_same ms members z) ∙ e))

      named_same : (name : Text) → read_path (path_in identity name) ≡ Some (identity, name) → (seen : List NumberedSight) → AllByRecursion (IsKnownSight t known) seen
          → list_any (λ s. text_eq s.path (path_in identity name)) (map (sight_of t) seen) ≡ list_any (λ s. is_named_in h n name s.place) seen
      named_same name reads [] all = refl
      named_same name reads (s ∷ seen) all = λ i. named_in n identity there name reads s.place (all.0.0.path, all.0.0.home) i || named_same name reads seen all.1 i

-- ---- the component type of an interface

import_same : (t : Tables) (s : NumberedSeen) → reads.imported_view (seen_of t s) ≡ option_map (shown_view t) (imported_view s)
import_same t s = search std_rules

imports_same : (t : Tables) (ss : List NumberedSeen) → each reads.imported_view (map (seen_of t) ss) ≡ option_map (map (shown_view t)) (each imported_view ss)
imports_same t [] = refl
imports_same t (s ∷ ss) = search (std_rules, import_same, imports_same t ss)

pub imports_in_numbers : ImportsInNumbers
imports_in_numbers t w scope shows = ap (each reads.imported_view) shows.imports ∙ imports_same t w.imports

pub export_in_numbers : ExportInNumbers
export_in_numbers t w scope shows = ap reads.exported_view shows.exports ∙ (search std_rules)

-- ---- laws

pub packages_in_numbers : PackagesInNumbers
packages_in_numbers t tables h stand known n identity there ms members z all = search (std_rules, all_sights, test_same)

pub one_world_in_numbers : OneWorldInNumbers
one_world_in_numbers t tables h stand known n identity there name reads_ w scope shows all = search (std_rules, sights_in_numbers t w scope shows, agree_same, interfaces_same, named_same)
