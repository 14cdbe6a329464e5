-- In what was merged interfaces and worlds stand in their packages, and each inline interface in one world.
use Rattle.std.proofs.Common.{rules as std_rules, ◌≡◌, ◌⊎◌, inl, inr, refl, sym, ap, ◌∙◌, ℕ, ◌<◌, ◌≤◌, ◌+◌, arith, Bool, true, false, ◌&&◌, ◌||◌, ◌==◌, not, List, [], ◌++◌, append-nil, length, filter_map, Option, Some, None, option_map, option_and_then, is_some}
use Rattle.std.proofs.lemmas.Bool.{false_from_ne_true, not-true, lt-ltb, and_from as both, cases_lt as low_or_high}
use Rattle.std.proofs.lemmas.Option.{slice_get_within, same_Some as same-some}
use Rattle.std.specs.{Prelude.String, Prelude.sum_by, List.list_all, List.Contains, Option.option_map_or, Option.option_eq}
use Rattle.std.specs.declared.alloc.Global.{Global}
use Rattle.wit_model.specs.declared.model.{Resolve.Resolve, Package.Package, PackageId.PackageId, Interface.Interface, WorldKey.WorldKey, WorldItem.WorldItem}
use Rattle.wit_model.specs.declared.model.World.{World}
use Rattle.wit_model.specs.{Text.Text, Text.text_of, Text.text_eq, Text.optional_text, Lookup.package_at, Lookup.interface_at, Lookup.world_at, Uses.has, Uses.item_interface, Uses.items_of, Valid.Keeps, Valid.KeepsRules, Valid.places}
use Rattle.wit_model.specs.Rules.{each_from, is_id, package_number, interface_is_listed, world_is_listed, is_world_name, times_shown}
use Rattle.wit_model.proofs.{Entries.free_passes, Elements.none-in, VersionLaws.same_text, RulesLemmas.each_by_number, OnePath.found-in, OnePath.interface-passes, TextLemmas.text_same as text-same, ValidLemmas.world_passes as world-passes}
use Rattle.bind_union.proofs.{Listed.under_text, Itself.world_package, Itself.get_begin, Itself.world_range, Kept.each_interface_of_three, Kept.each_world, Lists.by_number, Lists.no_true, Homes.apart, Carrying.interface_package}
use Rattle.bind_union.proofs.WorldOrder.{items, numbers_append, interfaces_in, one_sums, one_of_sum, shown, times_are, counted_append, none_counted, none_added, past_range, range_interfaces, same_times}
use Rattle.bind_union.proofs.KeptPackages.{kept, by_package, is_interface_of, is_world_of, interfaces_stand, worlds_stand, all_stand, places_hold, found_option}
use Rattle.bind_union.proofs.PackageNames.{added_from, name_append, interfaces_by_name, worlds_by_name, world_name_listed, found_name, still_found, copy_found, found_behind}
use Rattle.bind_union.specs.{Carried.Renumbering, Carried.IsInterface, Joined.Joined, Joined.IsJoined}
use Rattle.bind_union.specs.Merged.{interface_names, world_names, is_name, IsJoinedPackage, PackageStands, grown, brought, IsKeptPackage, IsPackageOf, AreCopies, IsMerged}
use Rattle.base_lemmas.proofs.Bools.{left_of as first_true, right_of as second_true, or_false}
use Rattle.base_lemmas.proofs.Elements.{any-at, all-contained, all_by_number as all_by_get, get-contains}
use Rattle.base_lemmas.proofs.Numbers.{differ, unequal, equal, same-number}

types_free : (s : Resolve) → each_from (places.type_ s) 0 s.types.items ≡ true
unfolding places
types_free s = free_passes s 0 s.types.items

-- ---- the rule, by texts and numbers

abbrev listed_by : Resolve → ℕ → Text → Option ℕ → Bool
listed_by r n t p = option_map_or (λ q. interface_is_listed n t q && not (is_world_name q t)) (option_and_then (package_at r) p) true

abbrev inline_by : Resolve → ℕ → Option ℕ → Bool
inline_by r n p = (sum_by (times_shown n) r.worlds.items == 1) && list_all (λ w. (times_shown n w == 0) || option_eq ◌==◌ (package_number w.«package») p) r.worlds.items

abbrev place_by : Resolve → ℕ → Option Text → Option ℕ → Bool
place_by r n name p = is_some p && option_map_or (λ t. listed_by r n t p) name (inline_by r n p)

some_number : (p : Option PackageId) → is_some p ≡ is_some (package_number p)
some_number x = search std_rules

interface_place : (r : Resolve) (n : ℕ) (i : Interface) → places.interface_ r n i ≡ place_by r n (optional_text i.name) (package_number i.«package»)
unfolding places
interface_place r n i = search std_rules

-- a named one is kept where it is listed, and an inline one where it is shown once
place_kept : (r s : Resolve) (m n : ℕ) (name : Option Text) (p q : Option ℕ) → (is_some p ≡ true → is_some q ≡ true)
    → ((t : Text) → name ≡ Some t → listed_by r m t p ≡ true → listed_by s n t q ≡ true)
    → (name ≡ None → inline_by r m p ≡ true → inline_by s n q ≡ true) → place_by r m name p ≡ true → place_by s n name q ≡ true
place_kept r s m n x p q some listed inline h = search std_rules

-- by the names in a package
listed_in : (r : Resolve) (n : ℕ) (t : Text) (k : ℕ) (p : Package) → package_at r k ≡ Some p
    → listed_by r n t (Some k) ≡ (is_id n (under_text t (interface_names p)) && not (is_name t (world_names p)))
listed_in r n t k p e = ap (λ o. option_map_or (λ x. interface_is_listed n t x && not (is_world_name x t)) o true) e ∙ (λ i. is_id n (interfaces_by_name p t i) && not (world_name_listed p t i))

abbrev pub world_by : Resolve → ℕ → Text → Option ℕ → Bool
world_by r n t p = is_some p && option_map_or (world_is_listed n t) (option_and_then (package_at r) p) true

world_in : (r : Resolve) (n : ℕ) (t : Text) (k : ℕ) (p : Package) → package_at r k ≡ Some p → world_by r n t (Some k) ≡ is_id n (under_text t (world_names p))
world_in r n t k p e = ap (λ o. option_map_or (world_is_listed n t) o true) e ∙ ap (is_id n) (worlds_by_name p t)

pub world_place : (r : Resolve) (n : ℕ) (w : World) → places.world_ r n w ≡ world_by r n (text_of w.name) (package_number w.«package»)
unfolding places
world_place r n w = λ j. some_number w.«package» j && option_map_or (world_is_listed n (text_of w.name)) (option_and_then (package_at r) (package_number w.«package»)) true

option_equal : (p q : Option ℕ) → option_eq ◌==◌ p q ≡ true → p ≡ q
option_equal x y h = search std_rules

some_text : (o : Option (String Global)) → o ≡ None → optional_text o ≡ None
some_text o e = ap optional_text e

no_text : (o : Option (String Global)) → optional_text o ≡ None → o ≡ None
no_text x e = search std_rules

-- where it is shown once, and nowhere else, in a world of its package, the rule is kept
inline_holds : (s : Resolve) (t : ℕ) (p : Option ℕ) (k : ℕ) (w : World) → world_at s k ≡ Some w → times_shown t w ≡ 1 → package_number w.«package» ≡ p
    → ((m : ℕ) (y : World) → world_at s m ≡ Some y → (m == k) ≡ false → times_shown t y ≡ 0) → inline_by s t p ≡ true
inline_holds s t p k w at one same others = both _ _ (ap (λ n. n == 1) (one_sums (times_shown t) s.worlds.items k w at one others))
    (all_by_get (λ y. (times_shown t y == 0) || option_eq ◌==◌ (package_number y.«package») p) s.worlds.items (λ m y e. each m y e (m == k) refl))
  where
    each : (m : ℕ) (y : World) → world_at s m ≡ Some y → (b : Bool) → (m == k) ≡ b → ((times_shown t y == 0) || option_eq ◌==◌ (package_number y.«package») p) ≡ true
    each m y e z apart = search std_rules

-- the world that shows an inline interface, and that no other does
abbrev ShownOnce : Resolve → ℕ → Option ℕ → Type 0
ShownOnce r n p = (k : ℕ) × (w : World) × (world_at r k ≡ Some w) × (times_shown n w ≡ 1) × (package_number w.«package» ≡ p)
    × ((m : ℕ) (y : World) → world_at r m ≡ Some y → (m == k) ≡ false → times_shown n y ≡ 0)

inline_found : (r : Resolve) (n : ℕ) (p : Option ℕ) → inline_by r n p ≡ true → ShownOnce r n p
inline_found r n p h =
    let one = one_of_sum (times_shown n) r.worlds.items (equal (sum_by (times_shown n) r.worlds.items) 1 (first_true _ _ h)) in
    let all = second_true (sum_by (times_shown n) r.worlds.items == 1) _ h in
    let here = all-contained (λ w. (times_shown n w == 0) || option_eq ◌==◌ (package_number w.«package») p) r.worlds.items one.1 all (get-contains r.worlds.items one.0 one.1 one.2) in
    (one.0, one.1, one.2, one.3, option_equal (package_number one.1.«package») p (sym (ap (λ k. (k == 0) || option_eq ◌==◌ (package_number one.1.«package») p) one.3) ∙ here), one.4)

not_neither : (a b : Bool) → (a ≡ false → b ≡ false → ⊥) → (a || b) ≡ true
not_neither x y h = search std_rules

pub listed_name : (t : Text) (n : ℕ) (es : List (Text × ℕ)) → Contains es (t, n) → is_name t es ≡ true
listed_name t n es c = any-at (λ (e : Text × ℕ). text_eq t e.0) es (t, n) c (same_text t t refl)

-- ---- what stood in a package stands there

record IsGrown (p q : Package) : Type 0 where
  more_interfaces : List (Text × ℕ)
  interfaces : interface_names q ≡ interface_names p ++ more_interfaces
  more_worlds : List (Text × ℕ)
  worlds : world_names q ≡ world_names p ++ more_worlds
  apart : (name : Text) → is_name name (interface_names p) ≡ true → is_name name more_worlds ≡ false

module _ (own other merged : Resolve) (bound other_bound : ℕ) (first second : Renumbering) (left_out : ℕ → Bool) (valid_own : KeepsRules own) (valid_other : KeepsRules other) (is : IsMerged own other merged bound other_bound first second left_out) where
  grown_package : (k : ℕ) (p q : Package) → package_at own k ≡ Some p → package_at merged k ≡ Some q → IsGrown p q
  grown_package k p q e at = go (is.package_from k (slice_get_within merged.packages.items k q at))
    where
      by_joined : (o : Package) → package_at own k ≡ Some o → (x : IsPackageOf other first k) → (j : IsJoinedPackage merged first left_out x.number x.old (interface_names o) (world_names o))
          → ((name : Text) (w : ℕ) → Contains (world_names x.old) (name, w) → left_out w ≡ false → is_name name (interface_names o) ≡ false) → IsGrown p q
      by_joined o d x j apart_names = record {
        more_interfaces = j.new_interfaces;
        interfaces = cc;
        more_worlds = j.new_worlds;
        worlds = cc;
        apart = λ name h. false_from_ne_true _ (λ k.
            let a = added_from first.worlds first.carries_world left_out (world_names o) (world_names x.old) j.new_worlds j.joined_worlds name k in
            no_true (sym (apart_names a.0 a.1 a.2 a.3) ∙ ((λ z. is_name (sym (text-same name a.0 a.4) z) (interface_names (same-some o p (sym d ∙ e) z))) ∙ h)));
      }

      stands : (x : IsPackageOf other first k) → PackageStands own merged first left_out x.number x.old → IsGrown p q
      stands x (grown o d j a b) = by_joined o (ap (package_at own) (sym x.here) ∙ d) x j b
      stands x (brought high j fresh) = let low = slice_get_within own.packages.items k p e in let here = x.here in absurd (omega (arith, high, low, here))

      go : IsKeptPackage own merged k ⊎ IsPackageOf other first k → IsGrown p q
      go (inr x) = stands x (is.packages_stand x.number x.old x.found)
      go (inl x) = record { more_interfaces = []; interfaces = cc (append-nil (interface_names p)); more_worlds = []; worlds = cc (append-nil (world_names p)); apart = λ name h. refl }

  -- ---- own interfaces and worlds

  own_listed : (n : ℕ) (t : Text) (k : ℕ) (p : Package) → package_at own k ≡ Some p → listed_by own n t (Some k) ≡ true → listed_by merged n t (Some k) ≡ true
  own_listed n t k p e h =
      let q = is.packages k p e in
      let g = grown_package k p q.0 e q.1 in
      let old = sym (listed_in own n t k p e) ∙ h in
      let found = first_true _ _ old in
      let names : is_name t (world_names q.0) ≡ is_name t (world_names p) =
      cc (g.worlds, name_append t (world_names p) g.more_worlds, g.apart t (found_name t n (interface_names p) found), or_false (is_name t (world_names p))) in
      listed_in merged n t k q.0 q.1 ∙ both _ _ (ap (λ es. is_id n (under_text t es)) g.interfaces ∙ still_found t n (interface_names p) g.more_interfaces found)
      (ap not names ∙ second_true (is_id n (under_text t (interface_names p))) _ old)

  own_world_listed : (n : ℕ) (t : Text) (k : ℕ) (p : Package) → package_at own k ≡ Some p → world_by own n t (Some k) ≡ true → world_by merged n t (Some k) ≡ true
  own_world_listed n t k p e h =
      let q = is.packages k p e in
      let g = grown_package k p q.0 e q.1 in
      world_in merged n t k q.0 q.1 ∙ (ap (λ es. is_id n (under_text t es)) g.worlds ∙ still_found t n (world_names p) g.more_worlds (sym (world_in own n t k p e) ∙ h))

  -- ---- copied ones

  -- an own name's number is low
  own_interface_low : (k : ℕ) (p : Package) → package_at own k ≡ Some p → (t : Text) (n : ℕ) → Contains (interface_names p) (t, n) → n < length own.interfaces.items
  own_interface_low k p e t n c =
      let i = found_option _ (interface_at own n) (all-contained (is_interface_of own k) (interface_names p) (t, n) (interfaces_stand own valid_own k p e) c) in
      slice_get_within own.interfaces.items n i.0 i.1

  pub own_world_low : (k : ℕ) (p : Package) → package_at own k ≡ Some p → (t : Text) (n : ℕ) → Contains (world_names p) (t, n) → n < length own.worlds.items
  own_world_low k p e t n c =
      let w = found_option _ (world_at own n) (all-contained (is_world_of own k) (world_names p) (t, n) (worlds_stand own valid_own k p e) c) in
      slice_get_within own.worlds.items n w.0 w.1

  copy_listed : (m : ℕ) (copy : first.copies_interface m ≡ true) (t : Text) (k : ℕ) (p : Package) → package_at other k ≡ Some p → listed_by other m t (Some k) ≡ true
      → listed_by merged (first.interfaces m) t (Some (first.packages k)) ≡ true
  copy_listed m copy t k p e h = stands (is.packages_stand k p e)
    where
      old : (is_id m (under_text t (interface_names p)) && not (is_name t (world_names p))) ≡ true
      old = sym (listed_in other m t k p e) ∙ h

      found : is_id m (under_text t (interface_names p)) ≡ true
      found = first_true _ _ old

      no_world : is_name t (world_names p) ≡ false
      no_world = not-true _ (second_true (is_id m (under_text t (interface_names p))) _ old)

      by : (own_interfaces own_worlds : List (Text × ℕ)) → ((x : Text) → Contains own_interfaces (x, first.interfaces m) → ⊥) → is_name t own_worlds ≡ false
          → IsJoinedPackage merged first left_out k p own_interfaces own_worlds → listed_by merged (first.interfaces m) t (Some (first.packages k)) ≡ true
      by own_interfaces own_worlds fresh apart j =
          let there = copy_found first.interfaces first.copies_interface (λ x. false) own_interfaces (interface_names p) j.new_interfaces j.joined_interfaces t m fresh refl found in
          let none_new : is_name t j.new_worlds ≡ false = false_from_ne_true _ (λ z.
          let a = added_from first.worlds first.carries_world left_out own_worlds (world_names p) j.new_worlds j.joined_worlds t z in
          no_true (sym no_world ∙ (ap (λ x. is_name x (world_names p)) (text-same t a.0 a.4) ∙ listed_name a.0 a.1 (world_names p) a.2))) in
          listed_in merged (first.interfaces m) t (first.packages k) j.image j.at_image
          ∙ both _ _ (ap (λ es. is_id (first.interfaces m) (under_text t es)) j.interfaces ∙ found_behind t (first.interfaces m) own_interfaces j.new_interfaces there.0 there.1)
          (ap not (ap (is_name t) j.worlds ∙ (name_append t own_worlds j.new_worlds ∙ (λ i. apart i || none_new i))))

      stands : PackageStands own merged first left_out k p → listed_by merged (first.interfaces m) t (Some (first.packages k)) ≡ true
      stands (grown o d j a b) = by (interface_names o) (world_names o) (λ x c. let low = own_interface_low (first.packages k) o d x (first.interfaces m) c in let high =
          is.first_copies.new_interfaces m copy in absurd (omega (arith, low, high))) (a t (found_name t m (interface_names p) found)) j
      stands (brought high j fresh) = by [] [] (λ x c. none-in (x, first.interfaces m) c) refl j

  copy_world_listed : (m : ℕ) (c : first.carries_world m ≡ true) (t : Text) (k : ℕ) (p : Package) → package_at other k ≡ Some p → world_by other m t (Some k) ≡ true
      → world_by merged (first.worlds m) t (Some (first.packages k)) ≡ true
  copy_world_listed m c t k p e h = stands (is.packages_stand k p e)
    where
      found : is_id m (under_text t (world_names p)) ≡ true
      found = sym (world_in other m t k p e) ∙ h

      by : (own_interfaces own_worlds : List (Text × ℕ)) → ((x : Text) → Contains own_worlds (x, first.worlds m) → ⊥) → IsJoinedPackage merged first left_out k p own_interfaces own_worlds
          → world_by merged (first.worlds m) t (Some (first.packages k)) ≡ true
      by own_interfaces own_worlds fresh j =
          let there = copy_found first.worlds first.carries_world left_out own_worlds (world_names p) j.new_worlds j.joined_worlds t m fresh (is.not_left_out m c) found in
          world_in merged (first.worlds m) t (first.packages k) j.image j.at_image
          ∙ (ap (λ es. is_id (first.worlds m) (under_text t es)) j.worlds ∙ found_behind t (first.worlds m) own_worlds j.new_worlds there.0 there.1)

      stands : PackageStands own merged first left_out k p → world_by merged (first.worlds m) t (Some (first.packages k)) ≡ true
      stands (grown o d j a b) = by (interface_names o) (world_names o) (λ x y. let low = own_world_low (first.packages k) o d x (first.worlds m) y in let high = is.new_worlds m c in
          absurd (omega (arith, low, high))) j
      stands (brought high j fresh) = by [] [] (λ x y. none-in (x, first.worlds m) y) j

  -- ---- worlds

  own_world_place : (n : ℕ) (w : World) → world_at own n ≡ Some w → world_by merged n (text_of w.name) (package_number w.«package») ≡ true
  own_world_place n w e = by_package own (λ p. world_by own n (text_of w.name) p ≡ true → world_by merged n (text_of w.name) p ≡ true) (λ h. h) (own_world_listed n (text_of w.name))
      (package_number w.«package») (world_package own valid_own n w e) (sym (world_place own n w) ∙ world-passes places own valid_own.places n w e)

  copy_world_place : (m : ℕ) (c : first.carries_world m ≡ true) → places.world_ merged (first.worlds m) (is.first_worlds m c).joined.image ≡ true
  copy_world_place m c =
      let w = is.first_worlds m c in
      let j = w.joined in
      world_place merged (first.worlds m) j.image ∙ ((λ i. world_by merged (first.worlds m) (w.name i) (w.in_package i))
      ∙ by_package other (λ p. world_by other m (text_of j.old.name) p ≡ true → world_by merged (first.worlds m) (text_of j.old.name) (option_map first.packages p) ≡ true) (λ h. h)
      (copy_world_listed m c (text_of j.old.name)) (package_number j.old.«package») (world_package other valid_other m j.old j.found)
      (sym (world_place other m j.old) ∙ world-passes places other valid_other.places m j.old j.found))

  bound_place : places.world_ merged bound is.joined.image ≡ true
  bound_place = search (std_rules, world_place, own_world_place)

  -- ---- inline interfaces

  -- each world is an own one, the bound one or a copy
  abbrev pub WorldCase : ℕ → World → Type 0
  WorldCase k y = ((world_at own k ≡ Some y) × ((k == bound) ≡ false)) ⊎ (((k ≡ bound) × (is.joined.image ≡ y))
      ⊎ ((m : ℕ) × (c : first.carries_world m ≡ true) × (first.worlds m ≡ k) × ((is.first_worlds m c).joined.image ≡ y)))

  pub world_case : (k : ℕ) (y : World) → world_at merged k ≡ Some y → WorldCase k y
  world_case k y e = elim (low_or_high k (length own.worlds.items)) [
    | inl low ↦
        let x = found-in own.worlds.items k (lt-ltb k (length own.worlds.items) low) in
        by_number k bound (λ here. inr (inl (here, same-some is.joined.image y (sym is.joined.at_image ∙ (ap (world_at merged) (is.bound_there ∙ sym here) ∙ e)))))
        (λ apart. inl (x.1 ∙ ap Some (same-some x.0 y (sym (is.worlds k x.0 x.1 apart) ∙ e)), apart))
    | inr high ↦
        let c = is.world_from k high (slice_get_within merged.worlds.items k y e) in
        let j = (is.first_worlds c.0 c.1).joined in
        inr (inr (c.0, c.1, c.2, same-some j.image y (sym j.at_image ∙ (ap (world_at merged) c.2 ∙ e))))
  ]

  -- an inline interface that is shown anew is a copy
  shown_copy : (f : Renumbering) → AreCopies own other merged f → (a : ℕ) → f.carries_interface a ≡ true → (v : Interface) → interface_at merged (f.interfaces a) ≡ Some v → v.name ≡ None
      → f.copies_interface a ≡ true
  shown_copy f copies a c v e inline =
      let i = copies.carried.interfaces a c in
      let same : i.image ≡ v = same-some i.image v (sym i.at_image ∙ e) in
      copies.inline_copied a i.old c i.found (no_text i.old.name (sym i.name ∙ (ap (λ x. optional_text x.name) same ∙ some_text v.name inline)))

  not_among : (f : Renumbering) → AreCopies own other merged f → (own_part olds news : List (WorldKey × WorldItem)) → Joined f own_part olds news → (t : ℕ) (v : Interface)
      → interface_at merged t ≡ Some v → v.name ≡ None → ((a : ℕ) → f.copies_interface a ≡ true → f.interfaces a ≡ t → ⊥) → shown t news ≡ 0
  not_among f copies own_part olds news j t v e inline none_such = none_counted item_interface t (items news)
      (none_added f (interfaces_in f) own_part olds news j t (λ a c to. none_such a (shown_copy f copies a c v (ap (interface_at merged) to ∙ e) inline) to))

  -- a copy is shown as often as what it copies
  same_copies : (f : Renumbering) → AreCopies own other merged f → (m : ℕ) → f.copies_interface m ≡ true → (before : List (WorldKey × WorldItem))
      → has (filter_map item_interface (items before)) (f.interfaces m) ≡ false → (olds news : List (WorldKey × WorldItem)) → Joined f before olds news → shown (f.interfaces m) news ≡ shown m olds
  same_copies f copies m copy before fresh = same_times f (interfaces_in f) m before fresh
      (λ a c e. apart f.interfaces f.carries_interface f.copies_interface copies.carried.interfaces_rise copies.carried.copied_interfaces a m c copy e)

  joined_times : (f : Renumbering) (n : ℕ) (oi oe : List (WorldKey × WorldItem)) (j : IsJoined other merged f n oi oe) (t : ℕ)
      → times_shown t j.image ≡ (shown t oi + shown t j.new_imports) + (shown t oe + shown t j.new_exports)
  joined_times f n oi oe j t = search (std_rules, times_are t j.image, shown t, counted_append item_interface t oi j.new_imports, counted_append item_interface t oe j.new_exports)

  abbrev oi : List (WorldKey × WorldItem)
  oi = is.own_bound.imports.entries

  abbrev oe : List (WorldKey × WorldItem)
  oe = is.own_bound.exports.entries

  no_more : (f : Renumbering) → AreCopies own other merged f → (n : ℕ) (oi oe : List (WorldKey × WorldItem)) (j : IsJoined other merged f n oi oe) (t : ℕ) (v : Interface)
      → interface_at merged t ≡ Some v → v.name ≡ None → ((a : ℕ) → f.copies_interface a ≡ true → f.interfaces a ≡ t → ⊥) → times_shown t j.image ≡ shown t oi + shown t oe
  no_more f copies n oi oe j t v e inline none_such =
      let whole = joined_times f n oi oe j t in
      let a = not_among f copies oi j.old.imports.entries j.new_imports j.joined_imports t v e inline none_such in
      let b = not_among f copies oe j.old.exports.entries j.new_exports j.joined_exports t v e inline none_such in
      omega (arith, whole, a, b)

  copied_times : (f : Renumbering) → AreCopies own other merged f → (m : ℕ) → f.copies_interface m ≡ true → (n : ℕ) (oi oe : List (WorldKey × WorldItem)) (j : IsJoined other merged f n oi oe)
      → has (filter_map item_interface (items oi)) (f.interfaces m) ≡ false → has (filter_map item_interface (items oe)) (f.interfaces m) ≡ false
      → times_shown (f.interfaces m) j.image ≡ times_shown m j.old
  copied_times f copies m copy n oi oe j fresh_i fresh_e =
      let whole = joined_times f n oi oe j (f.interfaces m) in
      let a = same_copies f copies m copy oi fresh_i j.old.imports.entries j.new_imports j.joined_imports in
      let b = same_copies f copies m copy oe fresh_e j.old.exports.entries j.new_exports j.joined_exports in
      let c = none_counted item_interface (f.interfaces m) (items oi) fresh_i in
      let d = none_counted item_interface (f.interfaces m) (items oe) fresh_e in
      let all = times_are m j.old in
      omega (arith, whole, a, b, c, d, all)

  -- in the bound world
  bound_times : (t : ℕ) (v : Interface) → interface_at merged t ≡ Some v → v.name ≡ None → ((a : ℕ) → second.copies_interface a ≡ true → second.interfaces a ≡ t → ⊥)
      → times_shown t is.joined.image ≡ times_shown t is.own_bound
  bound_times t v e inline none_such = no_more second is.second_copies other_bound oi oe is.joined t v e inline none_such ∙ sym (times_are t is.own_bound)

  -- in a copy
  copy_times : (m : ℕ) (c : first.carries_world m ≡ true) (t : ℕ) (v : Interface) → interface_at merged t ≡ Some v → v.name ≡ None
      → ((a : ℕ) → first.copies_interface a ≡ true → first.interfaces a ≡ t → ⊥) → times_shown t (is.first_worlds m c).joined.image ≡ 0
  copy_times m c = no_more first is.first_copies m [] [] (is.first_worlds m c).joined

  -- an own world shows no copy
  past_times : (k : ℕ) (w : World) → world_at own k ≡ Some w → (t : ℕ) → length own.interfaces.items ≤ t → times_shown t w ≡ 0
  past_times k w e t high =
      let range = world_range own valid_own k w e in
      let a = times_are t w in
      let b = none_counted item_interface t (items w.imports.entries) (past_range own.interfaces.items _ t (range_interfaces own w.imports.entries range.0) high) in
      let c = none_counted item_interface t (items w.exports.entries) (past_range own.interfaces.items _ t (range_interfaces own w.exports.entries range.1) high) in
      omega (arith, a, b, c)

  -- what is shown is among the items
  among : (n : ℕ) (w : World) → times_shown n w ≡ 1 → has (filter_map item_interface (items_of w)) n ≡ true
  among n w one = numbers_append item_interface (items w.imports.entries) (items w.exports.entries) n ∙ not_neither _ _ (λ e d.
      let a = times_are n w in
      let x = none_counted item_interface n (items w.imports.entries) e in
      let y = none_counted item_interface n (items w.exports.entries) d in
      omega (arith, a, x, y, one))

  -- where no other own world, nor the bound one, nor a copy shows it, no other world does
  no_others : (t k : ℕ) → ((m : ℕ) (y : World) → world_at own m ≡ Some y → (m == k) ≡ false → times_shown t y ≡ 0) → ((bound == k) ≡ false → times_shown t is.joined.image ≡ 0)
      → ((m : ℕ) (c : first.carries_world m ≡ true) → (first.worlds m == k) ≡ false → times_shown t (is.first_worlds m c).joined.image ≡ 0)
      → (m : ℕ) (y : World) → world_at merged m ≡ Some y → (m == k) ≡ false → times_shown t y ≡ 0
  no_others t k ours at_bound copies m y d apart = search (std_rules, world_case m y d)

  -- own ones
  own_inline : (n : ℕ) (i : Interface) → interface_at own n ≡ Some i → i.name ≡ None → inline_by own n (package_number i.«package») ≡ true → inline_by merged n (package_number i.«package») ≡ true
  own_inline n i e inline h =
      let x = inline_found own n (package_number i.«package») h in
      let there_at = get_begin own.interfaces.items merged.interfaces.items is.interfaces n i e in
      let low = slice_get_within own.interfaces.items n i e in
      let bound_same = bound_times n i there_at inline (λ a c same. let high = is.second_copies.new_interfaces a c in omega (arith, high, low, same)) in
      let others = no_others n x.0 x.5 (λ apart. bound_same ∙ x.5 bound is.own_bound is.bound_at apart)
      (λ m c apart. copy_times m c n i there_at inline (λ a c same. let high = is.first_copies.new_interfaces a c in omega (arith, high, low, same))) in
      by_number x.0 bound (λ same.
      let w_is : is.own_bound ≡ x.1 = same-some is.own_bound x.1 (sym is.bound_at ∙ (ap (world_at own) (sym same) ∙ x.2)) in
      inline_holds merged n (package_number i.«package») x.0 is.joined.image (ap (world_at merged) (same ∙ sym is.bound_there) ∙ is.joined.at_image)
      (bound_same ∙ (ap (times_shown n) w_is ∙ x.3)) (ap package_number is.bound_package ∙ (ap (λ w. package_number w.«package») w_is ∙ x.4)) others)
      (λ apart. inline_holds merged n (package_number i.«package») x.0 x.1 (is.worlds x.0 x.1 x.2 apart) x.3 x.4 others)

  image_inline : (f : Renumbering) → AreCopies own other merged f → (m : ℕ) (i : IsInterface other merged f m) → i.old.name ≡ None → i.image.name ≡ None
  image_inline f copies m i inline = no_text i.image.name (i.name ∙ some_text i.old.name inline)

  -- those that are copied once
  first_inline : (m : ℕ) (copy : first.copies_interface m ≡ true) (i : IsInterface other merged first m) → i.old.name ≡ None → inline_by other m (package_number i.old.«package») ≡ true
      → inline_by merged (first.interfaces m) (option_map first.packages (package_number i.old.«package»)) ≡ true
  first_inline m copy i inline h =
      let x = inline_found other m (package_number i.old.«package») h in
      let w = is.first_worlds x.0 (is.first_copies.inline_shown m i.old x.0 x.1 copy i.found inline x.2 (among m x.1 x.3)) in
      let old_is : w.joined.old ≡ x.1 = same-some w.joined.old x.1 (sym w.joined.found ∙ x.2) in
      let high = is.first_copies.new_interfaces m copy in
      let same = λ (k : ℕ) (v : IsJoined other merged first k [] []). copied_times first is.first_copies m copy k [] [] v refl refl in
      inline_holds merged (first.interfaces m) (option_map first.packages (package_number i.old.«package»)) (first.worlds x.0) w.joined.image w.joined.at_image
      (same x.0 w.joined ∙ (ap (times_shown m) old_is ∙ x.3)) (w.in_package ∙ ap (option_map first.packages) (ap (λ y. package_number y.«package») old_is ∙ x.4))
      (no_others (first.interfaces m) (first.worlds x.0) (λ k y d apart. past_times k y d (first.interfaces m) high)
      (λ apart. bound_times (first.interfaces m) i.image i.at_image (image_inline first is.first_copies m i inline)
      (λ a d e. let less = is.second_behind m a copy d in omega (arith, less, e)) ∙ past_times bound is.own_bound is.bound_at (first.interfaces m) high)
      (λ k d apart. let u = (is.first_worlds k d).joined in same k u ∙ x.5 k u.old u.found (unequal k x.0 (λ e. differ (first.worlds k) (first.worlds x.0) apart (ap first.worlds e)))))

  -- those that are copied twice
  second_inline_holds : (m : ℕ) (copy : second.copies_interface m ≡ true) (i : IsInterface other merged second m) → i.old.name ≡ None → inline_by other m (package_number i.old.«package») ≡ true
      → inline_by merged (second.interfaces m) (package_number is.own_bound.«package») ≡ true
  second_inline_holds m copy i inline h =
      let x = inline_found other m (package_number i.old.«package») h in
      let here = is.second_worlds x.0 (is.second_copies.inline_shown m i.old x.0 x.1 copy i.found inline x.2 (among m x.1 x.3)) in
      let high = is.second_copies.new_interfaces m copy in
      let range = world_range own valid_own bound is.own_bound is.bound_at in
      let one = copied_times second is.second_copies m copy other_bound oi oe is.joined (past_range own.interfaces.items _ (second.interfaces m) (range_interfaces own oi range.0) high)
      (past_range own.interfaces.items _ (second.interfaces m) (range_interfaces own oe range.1) high)
      ∙ (ap (times_shown m) (same-some is.joined.old x.1 (sym is.joined.found ∙ (ap (world_at other) (sym here) ∙ x.2))) ∙ x.3) in
      inline_holds merged (second.interfaces m) (package_number is.own_bound.«package») bound is.joined.image (ap (world_at merged) (sym is.bound_there) ∙ is.joined.at_image) one
      (ap package_number is.bound_package) (no_others (second.interfaces m) bound (λ k y d apart. past_times k y d (second.interfaces m) high) (λ apart. no_true (sym apart ∙ same-number bound))
      (λ k d apart. copy_times k d (second.interfaces m) i.image i.at_image (image_inline second is.second_copies m i inline)
      (λ a d e. let less = is.second_behind a m d copy in omega (arith, less, e))))

  -- ---- interfaces

  own_place : (n : ℕ) (i : Interface) → interface_at own n ≡ Some i → places.interface_ merged n i ≡ true
  own_place n i e = interface_place merged n i ∙ place_kept own merged n n (optional_text i.name) (package_number i.«package») (package_number i.«package») (λ h. h)
      (λ t x. by_package own (λ p. listed_by own n t p ≡ true → listed_by merged n t p ≡ true) (λ h. refl) (own_listed n t) (package_number i.«package») (interface_package own valid_own n i e))
      (λ none. own_inline n i e (no_text i.name none)) (sym (interface_place own n i) ∙ interface-passes places own valid_own.places n i e)

  some_mapped : (g : ℕ → ℕ) (p : Option ℕ) → is_some p ≡ true → is_some (option_map g p) ≡ true
  some_mapped g x h = search std_rules

  first_place : (m : ℕ) (copy : first.copies_interface m ≡ true)
      → places.interface_ merged (first.interfaces m) (is.first_copies.carried.interfaces m (is.first_copies.carried.copied_interfaces m copy)).image ≡ true
  first_place m copy =
      let c = is.first_copies.carried.copied_interfaces m copy in
      let i = is.first_copies.carried.interfaces m c in
      let p = package_number i.old.«package» in
      interface_place merged (first.interfaces m) i.image ∙ ((λ j. place_by merged (first.interfaces m) (i.name j) (is.first_packages m c j))
      ∙ place_kept other merged m (first.interfaces m) (optional_text i.old.name) p (option_map first.packages p) (some_mapped first.packages p)
      (λ t x. by_package other (λ p. listed_by other m t p ≡ true → listed_by merged (first.interfaces m) t (option_map first.packages p) ≡ true) (λ h. refl) (copy_listed m copy t) p
      (interface_package other valid_other m i.old i.found)) (λ none. first_inline m copy i (no_text i.old.name none))
      (sym (interface_place other m i.old) ∙ interface-passes places other valid_other.places m i.old i.found))

  second_place : (m : ℕ) (copy : second.copies_interface m ≡ true)
      → places.interface_ merged (second.interfaces m) (is.second_copies.carried.interfaces m (is.second_copies.carried.copied_interfaces m copy)).image ≡ true
  second_place m copy =
      let c = is.second_copies.carried.copied_interfaces m copy in
      let i = is.second_copies.carried.interfaces m c in
      let inline = is.second_inline m i.old copy i.found in
      let none : optional_text i.old.name ≡ None = some_text i.old.name inline in
      interface_place merged (second.interfaces m) i.image ∙ ((λ j. place_by merged (second.interfaces m) (i.name j) (is.second_package m c copy j))
      ∙ place_kept other merged m (second.interfaces m) (optional_text i.old.name) (package_number i.old.«package») (package_number is.own_bound.«package»)
      (λ h. first_true _ _ (own_world_place bound is.own_bound is.bound_at)) (λ t named h. absurd cc) (λ x. second_inline_holds m copy i inline)
      (sym (interface_place other m i.old) ∙ interface-passes places other valid_other.places m i.old i.found))

  -- places
  pub places_kept : Keeps places merged
  places_kept = kept places merged
      (each_by_number (places.package_ merged) merged.packages.items (λ n q e. let h = all_stand own other merged bound other_bound first second left_out valid_own valid_other is n q e in
      places_hold merged n q h.0 h.1)) (each_interface_of_three own other merged bound other_bound first second left_out valid_own valid_other is (places.interface_ merged) own_place first_place
      second_place) (each_world own other merged bound other_bound first second left_out valid_own valid_other is (places.world_ merged) (λ n w e apart. world_place merged n w ∙ own_world_place n w e)
      copy_world_place bound_place) (types_free merged)
