-- Nothing stands without a reason in a plan that is read as a package or as one world.
use Rattle.std.proofs.Common.{rules as std_rules, ◌≡◌, ◌⊎◌, inl, inr, refl, sym, ap, subst, ◌∙◌, ℕ, zero, suc, ◌+◌, arith, Bool, true, false, not, ◌&&◌, ◌||◌, ◌==◌, cond, List, [], ◌∷◌, ◌++◌, map, filter_map, flat_map, Option, Some, None, option_to_list, is_some, is_none, slice_get, rules}
use Rattle.std.proofs.lemmas.{Bool.eqb-true, Bool.eq-eqb, Bool.or_right, Bool.not-true as not_true, Option.same_Some as same-some}
use Rattle.std.proofs.lemmas.List.Elements.{Contains-append_cases, Contains-append_left, Contains-append_right}
use Rattle.std.specs.{List.AllZip, List.Contains, List.list_any, Option.option_map_or}
use Rattle.wit_model.specs.declared.model.TypeOwner.{TypeOwner}
use Rattle.wit_model.specs.{Text.Text, Parts.same_owner, Uses.has, Uses.once, Rules.has_items, Rules.is_id, Valid.as_interface, Valid.as_world}
use Rattle.wit_model.proofs.{Chains.has_once, UsesLemmas.has_filter, PartsLemmas.owner_itself, RulesLemmas.each_by_number}
use Rattle.wit_model.proofs.Elements.{contains-filter_map, contains-get, contains-has, has-contains, none-in}
use Rattle.plan_meaning.specs.Plan.{Plan, PlannedKey, PlannedItem, PlannedType, PlannedFunction, PlannedInterface, PlannedPackage, package_in, interface_in, kind_numbers, part_number, function_numbers, function_parts, interfaces_used_by, item_interface, items_of}
use Rattle.plan_meaning.specs.PlanRules.{HoldsNoMore, IsWanted, shown, used, direct_uses, functions_of, is_foreign, is_part, is_shown_in, world_functions}
use Rattle.plan_meaning.specs.Renumbering.{IsPart, a_primitive, a_shape}
use Rattle.plan_meaning.specs.NumberedViews.{FunctionShape, Tables, AreTables, NumberedView, NumberedSight}
use Rattle.plan_meaning.specs.{NumberedWorlds.HasPath, NumberedWorlds.are_once, NumberedWorlds.are_reached, NumberedWorlds.used_by_view, ReadPlans.IsReadPlan}
use Rattle.plan_meaning.specs.{NumberedMembers.Homes, NumberedMembers.HomesStand, NumberedMembers.home_at, NumberedMembers.is_of_package, ReadFunctions.Beside}
use Rattle.plan_meaning.specs.GatheredPlan.{Becomes, FunctionBecomes, FunctionListed, functions_seen}
use Rattle.plan_meaning.specs.{ReadPlaces.IsPlacedInterface, ReadPlaces.under_path, ReadPlaces.inline, ReadWorlds.ReadItem, ReadWorlds.IsReadItem}
use Rattle.plan_meaning.specs.ReadWholes.{IsPartOfFunction, a_parameter, a_result, IsPartOfKept, of_type, of_interface, of_world, HasHomes, IsKeptForReasons, place_shown, IsShownByWorld, IsViewOf, IsSeenFor, in_world, in_member, ForeignIsRead, IsReadWorldPlan, ReadPackagePlanStands, ReadWorldPlanStands}
use Rattle.plan_meaning.proofs.{KeptParts.shape_parts, KeptParts.function_zip, ReadLists.never, ReadPlans.read_plan_stands, UsedInterfaces.interface_uses_back}
use Rattle.plan_meaning.proofs.{Lists.no_true, MetTypes.flat_among, ReadOrder.same_uses, Words.behind}
use Rattle.base_lemmas.proofs.Bools.{first_false as none_first, left_of as first_true, right_of as second_true, second_false as none_second}
use Rattle.base_lemmas.proofs.Elements.{all_at, all_both, all_by_number, any-at as contains_any, contains-later, contains-map, get-contains, last_of as one-contained, zip_at as zip_there}
use Rattle.base_lemmas.proofs.{Lists.append_of_map, Numbers.same-number}

module _ (t : Tables) (tables : AreTables t) (h : Homes) (homes : HomesStand t h) (kept : List ℕ) (p : Plan) (b : Beside) (views : ℕ → NumberedView) (read : IsReadPlan t h kept p b views) where
  one_place : (a c n : ℕ) → b.owners a ≡ as_interface n → b.owners c ≡ as_interface n → a ≡ c
  one_place a c n e f = read.owners.apart a c (ap (same_owner (b.owners a)) (f ∙ sym e) ∙ owner_itself (b.owners a))

  -- ---- types

  module _ (j k : ℕ) (at : slice_get kept j ≡ Some k) where
    part_there : (old new : ℕ) → old ≡ 14 + k → Becomes t kept p old new → part_number new ≡ Some j
    part_there old new is becomes = by becomes.part
      where
        by : IsPart kept old new → part_number new ≡ Some j
        by (a_primitive low same) = absurd (omega (arith, low, is))
        by (a_shape m i from stands to) = ap part_number to ∙ (behind i ∙ ap Some (read.types.once i j k (stands ∙ ap Some (omega (arith, from, is))) at))

    numbers_have : (olds news : List ℕ) → AllZip (Becomes t kept p) olds news → Contains olds (14 + k) → has (filter_map part_number news) j ≡ true
    numbers_have olds news z c =
        let index = contains-get olds (14 + k) c in
        let found = zip_there (Becomes t kept p) olds news z index.0 (14 + k) index.1 in
        (contains-has (filter_map part_number news) j (contains-filter_map part_number news found.0 j (get-contains news index.0 found.0 found.1)
        (subst (λ o. Contains (option_to_list o) j) (sym (part_there (14 + k) found.0 refl found.2)) (0, omega arith, refl))))

    of_function : (f : FunctionShape) (id : Option Text) (g : PlannedFunction) → FunctionBecomes t kept p f id g → IsPartOfFunction f (14 + k) → has (function_numbers g) j ≡ true
    of_function f id g is part = contains-has _ j (Contains-append_left _ _ j (has-contains _ j (numbers_have (shape_parts f) (function_parts g) (function_zip t kept p f id g is) (by part))))
      where
        by : IsPartOfFunction f (14 + k) → Contains (shape_parts f) (14 + k)
        by (a_parameter name c) = Contains-append_left (map (λ (x : Text × ℕ). x.1) f.params) (option_to_list f.result) (14 + k) (contains-map (λ (x : Text × ℕ). x.1) f.params (name, 14 + k) c)
        by (a_result e) = Contains-append_right _ _ _ (subst (λ o. Contains (option_to_list o) (14 + k)) (sym e) (0, omega arith, refl))

    abbrev in_interfaces : Bool
    in_interfaces = list_any (λ i. list_any (λ f. has (function_numbers f) j) (functions_of i)) p.interfaces

    abbrev in_worlds : Bool
    in_worlds = list_any (λ w. list_any (λ f. has (function_numbers f) j) (world_functions w)) p.worlds

    is_part_of : IsPartOfKept t h kept p b (14 + k) → is_part p j ≡ true
    is_part_of (of_type i x form olds news e kind z c) = ap (λ v. v || (in_interfaces || in_worlds))
        (contains_any (λ y. has (kind_numbers y.kind) j) p.types x (get-contains p.types i x e) (ap (λ y. has (kind_numbers y) j) kind ∙ numbers_have olds news z c))
    is_part_of (of_interface m i f id g e c is part) = or_right _ _ (ap (λ v. v || in_worlds) (contains_any _ _ i (get-contains _ m i e) (contains_any _ _ g c (of_function f id g is part))))
    is_part_of (of_world m w f id g e c is part) = or_right _ _ (or_right _ _ (contains_any _ _ w (get-contains _ m w e) (contains_any _ _ g c (of_function f id g is part))))

  module _ (reasons : IsKeptForReasons t h kept p b) where
    type_used : (j : ℕ) (x : PlannedType) → slice_get p.types j ≡ Some x → (is_some x.name || (is_part p j && is_none x.external_id)) ≡ true
    type_used j x e = by x.name refl
      where
        by : (o : Option Text) → x.name ≡ o → (is_some x.name || (is_part p j && is_none x.external_id)) ≡ true
        by (Some s) f = ap (λ o. is_some o || (is_part p j && is_none x.external_id)) f
        by None f =
            let is = read.types.each j x e in
            let used : is_part p j ≡ true = is_part_of j is.0 is.1 (reasons.types j is.0 x e is.1 f) in
            or_right (is_some x.name) (is_part p j && is_none x.external_id) (ap (λ v. v && is_none x.external_id) used ∙ ap is_none (reasons.ids j x e f))

    filled : {A : Type 0} (xs : List A) (x : A) → Contains xs x → has_items xs ≡ true
    filled [] x c = none-in x c
    filled (y ∷ ys) x c = refl

    package_used : (n : ℕ) (k : PlannedPackage) → package_in p n ≡ Some k → ((n == p.main) || has_items k.interfaces) ≡ true
    package_used n k e = by (reasons.packages n k e)
      where
        lists : (is : HasHomes t h kept p b n) → IsPlacedInterface t h p b.owners is.number is.interface → has_items k.interfaces ≡ true
        lists is (under_path q a name l path owned home named of_package there listed) = search (std_rules, one_place, same-some, filled)
        lists is (inline q a w none owned unnamed there shown_there) = search (std_rules, one_place, no_true, is_some)

        by : (n ≡ p.main) ⊎ HasHomes t h kept p b n → ((n == p.main) || has_items k.interfaces) ≡ true
        by (inl same) = ap (λ v. v || has_items k.interfaces) (eq-eqb n p.main same)
        by (inr is) = or_right (n == p.main) (has_items k.interfaces) (lists is (read.places.interfaces is.number is.interface is.there))

    pub no_more : HoldsNoMore p
    no_more = search (std_rules, each_by_number, is_some, is_none, type_used, package_used)

  -- ---- interfaces that a world shows

  item_shows : (o : TypeOwner) (home : ℕ) (q n : ℕ) → b.owners q ≡ as_interface n → (x : ReadItem) → IsReadItem t kept p b views o home x → place_shown x.seen.shown ≡ Some q
      → item_interface x.entry.1 ≡ Some n
  item_shows o home q n at x y e = search std_rules

  world_shows : (q n : ℕ) → b.owners q ≡ as_interface n → (is : IsShownByWorld t h kept p b views read q) → is_shown_in is.world n ≡ true
  world_shows q n at is =
      let w = is.world in
      let r = read.order.worlds is.number w is.there in
      contains-has _ n (contains-filter_map item_interface (items_of w) is.item.entry.1 n
      (subst (λ xs. Contains xs is.item.entry.1) (ap (map (λ (z : PlannedKey × PlannedItem). z.1)) (append_of_map _ _ _ ∙ (λ i. r.imports_listed i ++ r.exports_listed i)) ∙ append_of_map _ _ _)
      (contains-map _ _ _ (contains-map _ _ _ is.listed))) (subst (λ o. Contains (option_to_list o) n)
      (sym (item_shows (as_world is.number) r.scope.home q n at is.item (all_at _ _
      (all_both (IsReadItem t kept p b views (as_world is.number) r.scope.home) r.imports r.exports r.imports_read r.exports_read) is.item is.listed) is.shows)) (0, omega arith, refl)))

  -- ---- interfaces that another uses

  uses_it : (x : ℕ × NumberedView) → (is : IsViewOf t h kept p b views read x) → (q n : ℕ) → b.owners q ≡ as_interface n → Contains (used_by_view t x.1) q → (q ≡ x.0 → ⊥)
      → has (direct_uses p is.number) n ≡ true
  uses_it x is q n at c away =
      let m = is.number in
      let viewed = read.order.interfaces m is.interface is.there in
      let place : viewed.read.place ≡ x.0 = one_place viewed.read.place x.0 m viewed.read.owned is.owned in
      let same_view : used_by_view t viewed.read.view ≡ used_by_view t x.1 = ap (used_by_view t) (sym viewed.viewed ∙ ap views place) ∙ same_uses t (views x.0).types x.1.types is.agrees in
      let uses = interface_uses_back t tables kept p read.types b read.owners views m is.interface viewed q n (subst (λ ns. Contains ns q) (sym same_view) c) (λ e. away (e ∙ place)) at in
      let all = option_map_or (interfaces_used_by p) (interface_in p m) [] in
      let in_all : has all n ≡ true = ap (λ o. has (option_map_or (interfaces_used_by p) o []) n) is.there ∙ contains-has (interfaces_used_by p is.interface) n uses in
      has_filter (λ k. not (k == m)) (once all) n (has_once n all ∙ in_all) (other (n == m) refl)
    where
      other : (v : Bool) → (n == is.number) ≡ v → not (n == is.number) ≡ true
      other false e = ap not e
      other true e = absurd (away (one_place q x.0 n at (is.owned ∙ ap as_interface (sym (eqb-true n is.number e)))))

  -- the view, of the export or of a later import, that uses the import
  record IsUsedBy (exported : ℕ × NumberedView) (imports : List (ℕ × NumberedView)) (q : ℕ) : Type 0 where
    by_view : ℕ × NumberedView
    among : Contains (exported ∷ imports) by_view
    uses : Contains (used_by_view t by_view.1) q
    away : q ≡ by_view.0 → ⊥

  used_later : (exported : ℕ × NumberedView) (imports : List (ℕ × NumberedView)) (q : ℕ) → are_reached t imports exported.1 ≡ true → are_once (map (λ (i : ℕ × NumberedView). i.0) imports) ≡ true
      → has (map (λ (i : ℕ × NumberedView). i.0) imports) exported.0 ≡ false → has (map (λ (i : ℕ × NumberedView). i.0) imports) q ≡ true → IsUsedBy exported imports q
  used_later exported [] q reached apart away here = no_true here
  used_later exported (i ∷ later) q reached apart away here = go (i.0 == q) refl (λ f. used_later exported later q (second_true _ _ reached) (second_true _ _ apart) (none_second _ _ away) f)
    where
      at : i.0 ≡ q → Contains (flat_map (λ (l : ℕ × NumberedView). used_by_view t l.1) later) q ⊎ Contains (used_by_view t exported.1) q → IsUsedBy exported (i ∷ later) q
      at same (inl c) =
          let found = flat_among (λ (l : ℕ × NumberedView). used_by_view t l.1) later q c in
          let none = not_true (has (map (λ (l : ℕ × NumberedView). l.0) later) i.0)
          (first_true (not (has (map (λ (l : ℕ × NumberedView). l.0) later) i.0)) (are_once (map (λ (l : ℕ × NumberedView). l.0) later)) apart) in
          record {
            by_view = found.0;
            among = contains-later exported (i ∷ later) found.0 (contains-later i later found.0 found.1);
            uses = found.2;
            away = λ e. no_true (sym (sym (contains-has _ _ (contains-map _ _ found.0 found.1))
                ∙ (ap (has (map (λ (i : ℕ × NumberedView). i.0) later)) (sym e) ∙ (ap (has (map (λ (l : ℕ × NumberedView). l.0) later)) (sym same) ∙ none))));
          }
      at same (inr c) = record { by_view = exported; among = (0, omega arith, refl); uses = c; away = λ e. let other = none_first _ _ away in never _ (eq-eqb _ _ (same ∙ e)) other }

      go : (v : Bool) → (i.0 == q) ≡ v → (has (map (λ (l : ℕ × NumberedView). l.0) later) q ≡ true → IsUsedBy exported later q) → IsUsedBy exported (i ∷ later) q
      go true e more =
          let same : i.0 ≡ q = eqb-true i.0 q e in
          let all = flat_map (λ (l : ℕ × NumberedView). used_by_view t l.1) later ++ used_by_view t exported.1 in
          let there = first_true (has all i.0) (are_reached t later exported.1) reached in
          at same (Contains-append_cases (flat_map (λ (l : ℕ × NumberedView). used_by_view t l.1) later) (used_by_view t exported.1) q (has-contains all q (ap (has all) (sym same) ∙ there)))
      go false e more = widen (more (sym (ap (λ v. v || has (map (λ (l : ℕ × NumberedView). l.0) later) q) e) ∙ here))
        where
          wider : (x : ℕ × NumberedView) → Contains (exported ∷ later) x → Contains (exported ∷ i ∷ later) x
          wider x (zero, l, e) = (0, omega arith, e)
          wider x (suc k, l, e) = contains-later exported (i ∷ later) x (contains-later i later x (k, omega (arith, l), e))

          widen : IsUsedBy exported later q → IsUsedBy exported (i ∷ later) q
          widen is = record { by_view = is.by_view; among = wider is.by_view is.among; uses = is.uses; away = is.away }

  wanted_for : (q n : ℕ) → b.owners q ≡ as_interface n → IsSeenFor t h kept p b views read q → IsWanted p n
  wanted_for q n at (in_world is) = shown is.number is.world is.there (world_shows q n at is)
  wanted_for q n at (in_member exported imports reached apart are c) =
      let places = map (λ (i : ℕ × NumberedView). i.0) imports in
      let found = used_later exported imports q reached (second_true (not (has places exported.0)) (are_once places) apart)
      (not_true (has places exported.0) (first_true (not (has places exported.0)) (are_once places) apart)) (contains-has places q c) in
      let is = all_at (IsViewOf t h kept p b views read) (exported ∷ imports) are found.by_view found.among in
      used is.number (uses_it found.by_view is q n at found.uses found.away)

  -- ---- interfaces of other packages

  -- the place of an interface that has a name
  record HasPlace (n : ℕ) (i : PlannedInterface) : Type 0 where
    place : ℕ
    path : HasPath t place
    owned : b.owners place ≡ as_interface n
    package_ : ℕ
    name : Text
    home : home_at h place ≡ Some (package_, name)
    of_package : i.package_ ≡ Some package_

  place_of : (n : ℕ) (i : PlannedInterface) → interface_in p n ≡ Some i → is_some i.name ≡ true → HasPlace n i
  place_of n i e named = search std_rules

  not_main : (n : ℕ) (i : PlannedInterface) (at : HasPlace n i) → is_foreign p i ≡ true → is_of_package h p.main at.place ≡ false
  not_main n i at foreign = search rules

  no_functions : (q : ℕ) (seen : List NumberedSight) → ((s : NumberedSight) → Contains seen s → s.whole ≡ true → q ≡ s.place → ⊥) → functions_seen q seen ≡ []
  no_functions q [] none = refl
  no_functions q (s ∷ rest) none = go (s.place == q) refl s.whole refl (no_functions q rest (λ x c. none x (contains-later s rest x c)))
    where
      go : (v : Bool) → (s.place == q) ≡ v → (w : Bool) → s.whole ≡ w → functions_seen q rest ≡ [] → cond (v && w) s.view.functions (functions_seen q rest) ≡ []
      go true e true f more = absurd (none s (0, omega arith, refl) f (sym (eqb-true s.place q e)))
      go _ e _ f more = more

  zip_nothing : {A B : Type 0} (R : A → B → Type 0) (xs : List A) (ys : List B) → xs ≡ [] → AllZip R xs ys → ys ≡ []
  zip_nothing x y ys e z = search std_rules

  module _ (seen : List NumberedSight) (foreign_read : ForeignIsRead t h kept p b views read seen) where
    wanted : (n : ℕ) (i : PlannedInterface) → interface_in p n ≡ Some i → is_foreign p i ≡ true → IsWanted p n
    wanted n i e foreign =
        let at = place_of n i e (first_true (is_some i.name) (not (is_id p.main i.package_)) foreign) in
        wanted_for at.place n at.owned (foreign_read.reasons at.place n i at.path at.owned e (not_main n i at foreign))

    bare : (n : ℕ) (i : PlannedInterface) → interface_in p n ≡ Some i → is_foreign p i ≡ true → list_any (λ w. is_shown_in w n) p.worlds ≡ false → i.functions ≡ []
    bare n i e foreign hidden =
        let at = place_of n i e (first_true (is_some i.name) (not (is_id p.main i.package_)) foreign) in
        zip_nothing (FunctionListed t kept p) (functions_seen at.place seen) i.functions (no_functions at.place seen (λ s c w same. by at s same (foreign_read.whole s c w)))
        (foreign_read.functions n at.place i e at.owned foreign)
      where
        by : (at : HasPlace n i) (s : NumberedSight) → at.place ≡ s.place → IsShownByWorld t h kept p b views read s.place ⊎ (is_of_package h p.main s.place ≡ true) → ⊥
        by at s same (inl is) =
            let there = world_shows s.place n (ap b.owners (sym same) ∙ at.owned) is in
            never (list_any (λ w. is_shown_in w n) p.worlds) (contains_any (λ w. is_shown_in w n) p.worlds is.world (get-contains p.worlds is.number is.world is.there) there) hidden
        by at s same (inr own) = never (is_of_package h p.main at.place) (ap (is_of_package h p.main) same ∙ own) (not_main n i at foreign)

pub read_package_plan_stands : ReadPackagePlanStands
read_package_plan_stands t tables h homes kept p b views is = record {
  plan = read_plan_stands t tables h homes kept p b views is.read;
  no_more = no_more t tables h homes kept p b views is.read is.kept_for;
  main = ap is_some is.stands;
  worlds = all_by_number (λ w. is_id p.main w.package_) p.worlds (λ m w e. ap (is_id p.main) (is.worlds m w e) ∙ same-number p.main);
  wanted = wanted t tables h homes kept p b views is.read is.seen is.foreign;
  bare = bare t tables h homes kept p b views is.read is.seen is.foreign;
}

module _ (t : Tables) (tables : AreTables t) (h : Homes) (homes : HomesStand t h) (kept : List ℕ) (p : Plan) (b : Beside) (views : ℕ → NumberedView) (is : IsReadWorldPlan t h kept p b views) where
  shows : (n : ℕ) (i : PlannedInterface) → interface_in p n ≡ Some i → is_some i.name ≡ true → is_shown_in is.world n ≡ true
  shows n i e named =
      let at = place_of t tables h homes kept p b views is.read n i e named in
      let by_world = is.shown at.place n i at.path at.owned e in
      let there : Contains (is.world ∷ []) by_world.world = subst (λ ws. Contains ws by_world.world) is.alone (get-contains p.worlds by_world.number by_world.world by_world.there) in
      ap (λ w. is_shown_in w n) (one-contained is.world by_world.world there) ∙ world_shows t tables h homes kept p b views is.read at.place n at.owned by_world

pub read_world_plan_stands : ReadWorldPlanStands
read_world_plan_stands t tables h homes kept p b views is = search (
  std_rules,
  read_plan_stands t tables h homes kept p b views is.read,
  no_more t tables h homes kept p b views is.read is.kept_for,
  same-number p.main,
  shows t tables h homes kept p b views is,
)
