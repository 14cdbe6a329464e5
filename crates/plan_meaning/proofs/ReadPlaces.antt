-- Packages, and the places of interfaces and worlds, that are read pass the tests of a plan on them.
use Rattle.std.proofs.Common.{rules as std_rules, ◌≡◌, refl, sym, ap, ◌∙◌, ℕ, ◌+◌, Bool, true, false, not, ◌&&◌, ◌||◌, ◌==◌, List, [], ◌∷◌, filter_map, flat_map, Option, Some, None, option_and_then, is_some, slice_get}
use Rattle.std.proofs.lemmas.{Bool.eq-eqb, Bool.and_from as both, Bool.not-true as not_true, Bool.or_right, Option.same_Some as same-some}
use Rattle.std.proofs.lemmas.{List.Folds.list_all-map, List.Sums.sum_by-cons, Slice.Eq.bytes_eq-Decides}
use Rattle.std.specs.{Prelude.sum_by, List.AllByRecursion, List.list_all, List.list_any, Option.option_map_or, Option.option_eq}
use Rattle.wit_model.specs.declared.model.TypeOwner.{TypeOwner}
use Rattle.wit_model.specs.{Text.Text, Text.text_eq, Parts.same_owner, Valid.as_interface}
use Rattle.wit_model.specs.{Names.path_in, Uses.has, Uses.owner_interface, Rules.are_distinct, Rules.in_list, Rules.is_id}
use Rattle.wit_model.proofs.{Elements.contains-flat, Elements.contains-has, Elements.has-contains, NameLaws.read_path_is_spelled, RulesLemmas.each_by_number}
use Rattle.wit_model.proofs.{VersionLaws.same_text, UsesLemmas.has_filter, PartsLemmas.owner_itself}
use Rattle.comp_meaning.specs.Same.{same_identity}
use Rattle.comp_meaning.proofs.{SameLaws.identities_decide, RulesLemmas.distinct_same}
use Rattle.plan_meaning.specs.Plan.{Plan, PlannedInterface, PlannedWorld, PlannedPackage, package_in, interface_in, world_in, number_under, numbers_of, item_interface, items_of}
use Rattle.plan_meaning.specs.PlanRules.{bears, has_name, is_placed, is_world_placed, lists_interface, lists_world, members_differ, names_of, times_shown}
use Rattle.plan_meaning.specs.NumberedViews.{Tables, path_at, AreTables}
use Rattle.plan_meaning.specs.{NumberedWorlds.HasPath, NumberedWorlds.are_once, NumberedMembers.Homes, NumberedMembers.HomesStand, NumberedMembers.home_at}
use Rattle.plan_meaning.specs.ReadPlaces.{inline_shown, IsPlacedInterface, under_path, inline, IsListedInterface, IsListedWorld, PlacesAreRead, PlaceTests, ReadPlacesPass}
use Rattle.plan_meaning.proofs.{Listed.in_range, Lists.no_true}
use Rattle.plan_meaning.proofs.ReadLists.{distinct_both, never, number_there, times, times_absent, times_both, times_filter, times_of, times_once}
use Rattle.base_lemmas.proofs.Bools.{left_of as first_true, right_of as second_true, or_true, second_false as none_second}
use Rattle.base_lemmas.proofs.{Elements.all_by_number, Elements.get-contains, Numbers.same-number}

pub one_interface : (m n : ℕ) → as_interface m ≡ as_interface n → m ≡ n
one_interface m n e = same-some m n (ap owner_interface e)

module _ (t : Tables) (tables : AreTables t) (h : Homes) (homes : HomesStand t h) where
  -- a place under a path is known by its package and its name
  pub one_home : (a b n : ℕ) (name : Text) → HasPath t a → HasPath t b → home_at h a ≡ Some (n, name) → home_at h b ≡ Some (n, name) → a ≡ b
  one_home a b n name pa pb ha hb =
      let first = homes.homes a pa.0 pa.1 in
      let second = homes.homes b pb.0 pb.1 in
      let fx = same-some (first.package_, first.name) (n, name) (sym first.home ∙ ha) in
      let sx = same-some (second.package_, second.name) (n, name) (sym second.home ∙ hb) in
      tables.paths a b pa.0 pa.1 (pb.1 ∙ ap Some (sym ((read_path_is_spelled pa.0 first.identity first.name first.reads).spelled
      ∙ ((λ i. path_in ((same-some first.identity second.identity (sym first.stands ∙ (ap (λ (x : ℕ × Text). slice_get h.packages x.0) (fx ∙ sym sx) ∙ second.stands))) i)
      ((ap (λ (x : ℕ × Text). x.1) (fx ∙ sym sx)) i)) ∙ sym (read_path_is_spelled pb.0 second.identity second.name second.reads).spelled))))

  module _ (p : Plan) (owners : ℕ → TypeOwner) (read : PlacesAreRead t h p owners) where
    -- ---- packages

    other_identity : (n : ℕ) (k : PlannedPackage) → package_in p n ≡ Some k → (m : ℕ) (other : PlannedPackage) → package_in p m ≡ Some other
        → ((m == n) || not (same_identity k.identity other.identity)) ≡ true
    other_identity n k e m other f = go (same_identity k.identity other.identity) refl
      where
        go : (b : Bool) → same_identity k.identity other.identity ≡ b → ((m == n) || not (same_identity k.identity other.identity)) ≡ true
        go false g = ap (λ b. (m == n) || not b) g ∙ or_true (m == n)
        go true g = ap (λ b. b || not (same_identity k.identity other.identity)) (eq-eqb m n
            (homes.apart m n other.identity (read.packages m other f).identity ((read.packages n k e).identity ∙ ap Some ((identities_decide k.identity other.identity).0 g))))

    all_interfaces : (n : ℕ) (es : List (Text × ℕ)) → AllByRecursion (IsListedInterface t h p owners n) es → list_all (lists_interface p n) es ≡ true
    all_interfaces n [] a = refl
    all_interfaces n (e ∷ es) a = both (lists_interface p n e) (list_all (lists_interface p n) es) (by (read.interfaces e.1 a.0.interface a.0.there)) (all_interfaces n es a.1)
      where
        by : IsPlacedInterface t h p owners e.1 a.0.interface → lists_interface p n e ≡ true
        by (under_path q k name package_ path owned home named of_package there listed) =
            let one = same-some _ _ (sym home ∙ (ap (home_at h) (read.apart q a.0.place (ap (same_owner (owners q)) (a.0.owned ∙ sym owned) ∙ owner_itself (owners q))) ∙ a.0.home)) in
            ap (λ o. option_map_or (λ (i : PlannedInterface). bears e.0 i.name && is_id n i.package_) o false) a.0.there
            ∙ ((λ j. bears e.0 (named j) && is_id n (of_package j)) ∙ both _ _ (same_text _ _ (ap (λ (x : ℕ × Text). x.1) one)) (eq-eqb k n (ap (λ (x : ℕ × Text). x.0) one)))
        by (inline q k w none owned unnamed there shown) =
            absurd (no_true (ap is_some (sym none ∙ (ap (path_at t) (read.apart q a.0.place (ap (same_owner (owners q)) (a.0.owned ∙ sym owned) ∙ owner_itself (owners q))) ∙ a.0.path.1))))

    all_worlds : (n : ℕ) (es : List (Text × ℕ)) → AllByRecursion (IsListedWorld t h p owners n) es → list_all (lists_world p n) es ≡ true
    all_worlds n [] a = refl
    all_worlds n (e ∷ es) a = search (std_rules, both, same_text, same-number, all_worlds n es a.1)

    -- names of interfaces differ, as their numbers do
    other_names : (n : ℕ) (e : Text × ℕ) → IsListedInterface t h p owners n e → (es : List (Text × ℕ)) → AllByRecursion (IsListedInterface t h p owners n) es → has (numbers_of es) e.1 ≡ false
        → list_any (text_eq e.0) (names_of es) ≡ false
    other_names n e is [] a none = refl
    other_names n e is (x ∷ es) a none = go (text_eq e.0 x.0) refl (other_names n e is es a.1)
      where
        go : (b : Bool) → text_eq e.0 x.0 ≡ b → (has (numbers_of es) e.1 ≡ false → list_any (text_eq e.0) (names_of es) ≡ false) → list_any (text_eq e.0) (names_of (x ∷ es)) ≡ false
        go true f more = search (std_rules, bytes_eq-Decides, one_home, one_interface, never, eq-eqb)
        go false f more = ap (λ b. b || list_any (text_eq e.0) (names_of es)) f ∙ more (none_second (x.1 == e.1) (has (numbers_of es) e.1) none)

    interface_names : (n : ℕ) (es : List (Text × ℕ)) → AllByRecursion (IsListedInterface t h p owners n) es → are_once (numbers_of es) ≡ true → are_distinct (names_of es) ≡ true
    interface_names n [] a once = refl
    interface_names n (e ∷ es) a once = both _ _ (ap not (other_names n e a.0 es a.1 (not_true _ (first_true _ _ once)))) (interface_names n es a.1 (second_true _ _ once))

    interfaces_differ : (n : ℕ) (k : PlannedPackage) → package_in p n ≡ Some k → are_distinct (names_of k.interfaces) ≡ true
    interfaces_differ n k e = let is = read.packages n k e in interface_names n k.interfaces is.interfaces is.once

    worlds_differ : (n : ℕ) (k : PlannedPackage) → package_in p n ≡ Some k → are_distinct (names_of k.worlds) ≡ true
    worlds_differ n k e = distinct_same (names_of k.worlds) ∙ (read.packages n k e).labels

    all_differ : (n : ℕ) (k : PlannedPackage) → package_in p n ≡ Some k → members_differ k ≡ true
    all_differ n k e = distinct_both (names_of k.interfaces) (names_of k.worlds) (interfaces_differ n k e) (worlds_differ n k e)
        (list_all-map (λ x. not (list_any (text_eq x) (names_of k.worlds))) (λ (y : Text × ℕ). y.0) k.interfaces ∙ (read.packages n k e).apart)

    -- ---- interfaces

    shown_times : (m : ℕ) → has_name p m ≡ false → (ws : List PlannedWorld) → sum_by (times_shown m) ws ≡ times m (flat_map (inline_shown p) ws)
    shown_times m unnamed [] = refl
    shown_times m unnamed (w ∷ ws) =
        sum_by-cons (times_shown m) w ws ∙ ((λ i. (times_of item_interface m (items_of w) ∙ sym (times_filter (λ k. not (has_name p k)) m (ap not unnamed) (filter_map item_interface (items_of w))))
        i + shown_times m unnamed ws i) ∙ sym (times_both m (inline_shown p w) (flat_map (inline_shown p) ws)))

    same_package : (a b : Option ℕ) → a ≡ b → option_eq ◌==◌ a b ≡ true
    same_package None b e = ap (option_eq ◌==◌ None) (sym e)
    same_package (Some a) b e = ap (option_eq ◌==◌ (Some a)) (sym e) ∙ same-number a

    world_is_home : (m : ℕ) (i : PlannedInterface) → interface_in p m ≡ Some i → i.name ≡ None → (n : ℕ) (w : PlannedWorld) → world_in p n ≡ Some w
        → ((times_shown m w == 0) || option_eq ◌==◌ w.package_ i.package_) ≡ true
    world_is_home m i e none n w at = go (has (filter_map item_interface (items_of w)) m) refl
      where
        go : (b : Bool) → has (filter_map item_interface (items_of w)) m ≡ b → ((times_shown m w == 0) || option_eq ◌==◌ w.package_ i.package_) ≡ true
        go false f = ap (λ k. (k == 0) || option_eq ◌==◌ w.package_ i.package_) (times_of item_interface m (items_of w) ∙ times_absent m (filter_map item_interface (items_of w)) f)
        go true f = search (std_rules, has-contains, or_right, same_package)

    placed : (m : ℕ) (i : PlannedInterface) → interface_in p m ≡ Some i → is_placed p m i ≡ true
    placed m i e = by (read.interfaces m i e)
      where
        by : IsPlacedInterface t h p owners m i → is_placed p m i ≡ true
        by (under_path q n name k path owned home named of_package there listed) =
            (λ j. option_map_or (λ x. option_map_or (λ (y : PlannedPackage). is_id m (number_under x y.interfaces)) (option_and_then (package_in p) (of_package j)) false) (named j)
            (option_map_or (in_list p.packages) i.package_ false
            && ((sum_by (times_shown m) p.worlds == 1) && list_all (λ w. (times_shown m w == 0) || option_eq ◌==◌ w.package_ i.package_) p.worlds)))
            ∙ (ap (λ o. option_map_or (λ (y : PlannedPackage). is_id m (number_under name y.interfaces)) o false) there ∙ number_there name m k.interfaces (interfaces_differ n k there) listed)
        by (inline q n w no_path_there owned none there shown) =
            let at = read.worlds n w there in
            let unnamed = (ap (λ o. option_map_or (λ (x : PlannedInterface). is_some x.name) o false) e ∙ ap is_some none) in
            ap (λ o. option_map_or (λ x. option_map_or (λ (y : PlannedPackage). is_id m (number_under x y.interfaces)) (option_and_then (package_in p) i.package_) false) o
            (option_map_or (in_list p.packages) i.package_ false
            && ((sum_by (times_shown m) p.worlds == 1) && list_all (λ w. (times_shown m w == 0) || option_eq ◌==◌ w.package_ i.package_) p.worlds))) none
            ∙ both _ _ (ap (λ o. option_map_or (in_list p.packages) o false) (read.inline_home n w m i there shown e none ∙ at.home) ∙ in_range p.packages at.number (ap is_some at.there))
            (both _ _ (ap (λ k. k == 1) (shown_times m unnamed p.worlds ∙ times_once m (flat_map (inline_shown p) p.worlds) read.inline_once
            (contains-has _ m (contains-flat (inline_shown p) p.worlds w m (get-contains _ n w there)
            (has-contains _ m (has_filter (λ k. not (has_name p k)) (filter_map item_interface (items_of w)) m (contains-has _ m shown) (ap not unnamed)))))))
            (all_by_number _ _ (λ k x f. world_is_home m i e none k x f)))

    -- ---- worlds

    world_placed : (m : ℕ) (w : PlannedWorld) → world_in p m ≡ Some w → is_world_placed p m w ≡ true
    world_placed m w e =
        let at = read.worlds m w e in
        ap (λ o. option_map_or (λ (k : PlannedPackage). is_id m (number_under w.name k.worlds)) (option_and_then (package_in p) o) false) at.home
        ∙ (ap (λ o. option_map_or (λ (k : PlannedPackage). is_id m (number_under w.name k.worlds)) o false) at.there
        ∙ number_there w.name m at.package_.worlds (worlds_differ at.number at.package_ at.there) at.listed)

    pass : PlaceTests p
    pass = record {
      identities = all_by_number _ _ (λ n k e.
          let is = read.packages n k e in (read_path_is_spelled is.path k.identity is.name is.reads).identity);
      alone = each_by_number _ _ (λ n k e. each_by_number _ _ (λ m other f. other_identity n k e m other f));
      members = each_by_number _ _ (λ n k e. let is = read.packages n k e in
          both _ _ (all_interfaces n k.interfaces is.interfaces) (all_worlds n k.worlds is.worlds));
      members_differ = all_by_number _ _ all_differ;
      interfaces_placed = each_by_number _ _ placed;
      worlds_placed = each_by_number _ _ world_placed;
      world_labels = all_by_number _ _ (λ m w e. (read.worlds m w e).label);
    }

pub read_places_pass : ReadPlacesPass
read_places_pass t tables h homes p owners read = pass t tables h homes p owners read
