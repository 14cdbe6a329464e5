-- What is read stands in the order that a plan asks for.
use Rattle.std.proofs.Common.{rules as std_rules, ◌≡◌, ◌⊎◌, inl, inr, refl, sym, ap, subst, ◌∙◌, ◌<◌, ◌≤◌, ℕ, zero, suc, ◌+◌, arith, Bool, true, false, not, ◌||◌, ◌==◌, cond, List, [], ◌∷◌, ◌++◌, length, map, filter, filter_map, flat_map, Option, Some, None, option_and_then, option_to_list, slice_get, T, ltb→lt}
use Rattle.std.proofs.lemmas.Bool.{eqb-true, eq-eqb, leb-true, or_right, and_from as both, not-true as not_true}
use Rattle.std.proofs.lemmas.{List.Elements.Contains-append_cases, List.Elements.Contains-append_left, List.Elements.filter_map-append}
use Rattle.std.proofs.lemmas.Option.{slice_get_within, same_Some as same-some}
use Rattle.std.proofs.lemmas.List.Folds.{list_all-append, list_all-map, list_any-append}
use Rattle.std.specs.{Prelude.nat_lt, List.AllByRecursion, List.Contains, List.list_all, Cmp.Lexicographic.pointwise, Option.option_map_or, Map.lookup}
use Rattle.wit_model.specs.{Text.Text, Parts.same_owner, Valid.as_interface, Valid.as_world}
use Rattle.wit_model.specs.{Lookup.resource_of, Uses.has, Uses.once, Uses.owner_interface, Rules.each_after, Rules.each_from, Rules.in_list, Rules.is_id}
use Rattle.wit_model.proofs.{Chains.has_once, Elements.contains-has, Elements.has-contains, Elements.none-in, RulesLemmas.each_at, RulesLemmas.each_by_number}
use Rattle.wit_model.proofs.{UsesLemmas.filter_has, PartsLemmas.owner_itself}
use Rattle.plan_meaning.specs.{Shapes.named_shape, ReadOrder.IsViewedInterface, ReadOrder.OrderIsRead, ReadOrder.ReadOrderPasses}
use Rattle.plan_meaning.specs.Plan.{Plan, PlannedKey, PlannedItem, PlannedType, PlannedFunction, PlannedWorld, interface_in, world_in, has_owner, kind_numbers, function_numbers, function_parts, part_number, used_by_numbers, interface_used_by, interfaces_used_by, item_interface, item_type, items_of}
use Rattle.plan_meaning.specs.PlanRules.{direct_uses, is_listed, is_listed_in, is_under_label, uses_stand_before, used_types}
use Rattle.plan_meaning.specs.NumberedViews.{Tables, AreTables, NumberedType, NumberedView, same_number, same_shown}
use Rattle.plan_meaning.specs.NumberedWorlds.{NumberedSeen, others_than, path_seen, stand_earlier, used_by, used_by_view, uses_of}
use Rattle.plan_meaning.specs.{KeptTypes.IsKeptType, KeptTypes.unnamed, KeptTypes.declared, KeptTypes.TypesAreKept, KeptOwners.AreOwned, ReadFunctions.Beside}
use Rattle.plan_meaning.specs.ReadWorlds.{ReadItem, is_type_seen, types_follow, IsInterfaceOf, IsReadUnder, IsTypeUnder, IsReadItem, by_path, by_label, implementing_path, a_function, a_type}
use Rattle.plan_meaning.proofs.{KeptParts.shape_parts, KeptParts.all_parts, KeptParts.function_zip, KeptParts.part_from, ReadLists.never, ReadLists.or_nothing}
use Rattle.plan_meaning.proofs.{KeptFunctions.kept_functions_pass, KeptTypes.kept_types_pass, Lists.no_true, ListedTypes.listed, ListedTypes.types_are_listed}
use Rattle.plan_meaning.proofs.{MetTypes.used_among, ReadPlaces.one_interface, ReadWorlds.order_obeys}
use Rattle.plan_meaning.proofs.UsedInterfaces.{UsedBy, nothing, own, other, interface_uses, owned_by, type_uses, uses_are_low}
use Rattle.base_lemmas.proofs.{Bools.left_of as first_true, Bools.right_of as second_true, Lists.append_of_map, Lists.within_there as slice_there}
use Rattle.base_lemmas.proofs.Elements.{all-contained, all_at, all_both, all_pass as all_among, all_weaker, contains-later, last_of as one-contained}
use Rattle.wit_model.specs.declared.model.TypeOwner.TheVariants as owner
use Rattle.plan_meaning.specs.Plan as plan

-- ---- places

others_have : (q r : ℕ) (ps : List ℕ) → (r == q) ≡ false → has ps r ≡ true → has (others_than q ps) r ≡ true
others_have q r [] apart h = h
others_have q r (x ∷ ps) apart h = go (x == q) refl (x == r) refl (others_have q r ps apart)
  where
    go : (b : Bool) → (x == q) ≡ b → (c : Bool) → (x == r) ≡ c → (has ps r ≡ true → has (others_than q ps) r ≡ true) → has (cond b (others_than q ps) (x ∷ others_than q ps)) r ≡ true
    go true e true f rest = never (r == q) (ap (λ n. n == q) (sym (eqb-true x r f)) ∙ e) apart
    go true e false f rest = rest (sym (ap (λ v. v || has ps r) f) ∙ h)
    go false e true f rest = ap (λ v. v || has (others_than q ps) r) f
    go false e false f rest = or_right (x == r) (has (others_than q ps) r) (rest (sym (ap (λ v. v || has ps r) f) ∙ h))

pub same_declared : (a c : Option ℕ) → same_number a c ≡ true → a ≡ c
same_declared z u h = search std_rules

pub same_uses : (t : Tables) (xs ys : List NumberedType) → pointwise same_shown xs ys ≡ true
    → flat_map (λ (x : NumberedType). used_by t x.declared) xs ≡ flat_map (λ (x : NumberedType). used_by t x.declared) ys
same_uses t [] [] h = refl
same_uses t (x ∷ xs) (y ∷ ys) h = search (std_rules, first_true, same_declared, second_true, same_uses t xs ys (second_true (same_shown x y) (pointwise same_shown xs ys) h))
same_uses t _ _ h = no_true h

pub has_front : (xs ys : List ℕ) (n : ℕ) → has xs n ≡ true → has (xs ++ ys) n ≡ true
has_front xs ys n h = list_any-append (λ m. m == n) xs ys ∙ ap (λ v. v || has ys n) h

pub has_end : (xs ys : List ℕ) (n : ℕ) → has ys n ≡ true → has (xs ++ ys) n ≡ true
has_end xs ys n h = list_any-append (λ m. m == n) xs ys ∙ or_right (has xs n) (has ys n) h

module _ (t : Tables) (tables : AreTables t) (kept : List ℕ) (p : Plan) (are : TypesAreKept t kept p) (b : Beside) (owned : AreOwned t kept p b.owners) (views : ℕ → NumberedView) (read : OrderIsRead t kept p b views) where
  -- ---- numbers that are kept

  kept_order : (i j a c : ℕ) → slice_get kept i ≡ Some a → slice_get kept j ≡ Some c → i < j → a < c
  kept_order i j a c at_i at_j less = search std_rules

  fall : each_from (λ n x. list_all (λ m. nat_lt m n) (kind_numbers x.kind)) 0 p.types ≡ true
  fall = (kept_types_pass t tables kept p are).1.types_fall

  part_below : (n : ℕ) (x : PlannedType) → slice_get p.types n ≡ Some x → (i : ℕ) → Contains (kind_numbers x.kind) i → i < n
  part_below n x e i c = ltb→lt i n (subst T (sym (all-contained _ _ i (each_at (λ n x. list_all (λ m. nat_lt m n) (kind_numbers x.kind)) p.types n x fall e) c)) tt)

  -- ---- one world

  module _ (m home : ℕ) (owned_home : b.owners home ≡ as_world m) where
    abbrev Item : ReadItem → Type 0
    Item x = IsReadItem t kept p b views (as_world m) home x

    abbrev Of : (q : ℕ) (v : NumberedView) (n : ℕ) → Type 0
    Of q v n = IsInterfaceOf t kept p b views (as_world m) home q v n

    -- the type of this number is one of the world
    record IsWorldType (j : ℕ) : Type 0 where
      type_ : PlannedType
      there : slice_get p.types j ≡ Some type_
      number : ℕ
      stands : slice_get kept j ≡ Some number
      name : Text
      called : type_.name ≡ Some name
      shape : slice_get t.shapes number ≡ Some (named_shape home name)

    world_type : (j : ℕ) → has_owner p (as_world m) j ≡ true → IsWorldType j
    world_type j h = go (slice_get p.types j) refl h
      where
        by : (x : PlannedType) → slice_get p.types j ≡ Some x → (k : ℕ) → slice_get kept j ≡ Some k → same_owner x.owner (as_world m) ≡ true → IsKeptType t kept p k x → IsWorldType j
        by x e k at h (unnamed place form olds news there z none unowned kind part low) = no_true (sym (ap (λ o. same_owner o (as_world m)) unowned) ∙ h)
        by x e k at h (declared q name d there called place kind before good obeys) =
            let place_is : q ≡ home = owned.apart q home ((λ i. same_owner (sym (owned.owned j k x q name e at there) i) (owned_home i)) ∙ h) in
            record { type_ = x; there = e; number = k; stands = at; name = name; called = called; shape = there ∙ ap (λ r. Some (named_shape r name)) place_is }

        go : (o : Option PlannedType) → slice_get p.types j ≡ o → option_map_or (λ (x : PlannedType). same_owner x.owner (as_world m)) o false ≡ true → IsWorldType j
        go None e h = no_true h
        go (Some x) e h = let is = are.each j x e in by x e is.0 is.1 h is.2

    -- ---- as far as it has been followed

    abbrev Waits : List ReadItem → ℕ → Type 0
    Waits rest k = (y : ReadItem) × Contains rest y × (is_type_seen y.seen.shown ≡ true) × (y.count ≡ k + 1)

    record Before (earlier : List ℕ) (before : List PlannedItem) (rest : List ReadItem) : Type 0 where
      interfaces : (r u : ℕ) → has earlier r ≡ true → b.owners r ≡ as_interface u → has (filter_map item_interface before) u ≡ true
      types : (j : ℕ) (w : IsWorldType j) → (has (filter_map item_type before) j ≡ true) ⊎ Waits rest w.number

    -- ---- interfaces

    uses_there : (q n : ℕ) (v : NumberedView) → Of q v n → (earlier : List ℕ) (found : List ℕ) → ((r u : ℕ) → has earlier r ≡ true → b.owners r ≡ as_interface u → has found u ≡ true)
        → list_all (has earlier) (others_than q (used_by_view t v)) ≡ true → list_all (has found) (direct_uses p n) ≡ true
    uses_there q n v is earlier found inv h = all_among (has found) (direct_uses p n) each
      where
        viewed : IsViewedInterface t kept p b views n is.interface
        viewed = read.interfaces n is.interface is.there

        place : viewed.read.place ≡ q
        place = owned.apart viewed.read.place q (ap (same_owner (b.owners viewed.read.place)) (is.owned ∙ sym viewed.read.owned) ∙ owner_itself (b.owners viewed.read.place))

        by : (u : ℕ) → (u == n) ≡ false → (u ≡ n) ⊎ ((r : ℕ) × Contains (used_by_view t viewed.read.view) r × (b.owners r ≡ as_interface u)) → has found u ≡ true
        by u apart (inl same) = never (u == n) (eq-eqb u n same) apart
        by u apart (inr (r, c, at)) = inv r u (all-contained (has earlier) (others_than q (used_by_view t v)) r h (has-contains (others_than q (used_by_view t v)) r there)) at
          where
            other_place : (d : Bool) → (r == q) ≡ d → (r == q) ≡ false
            other_place false e = e
            other_place true e = never (u == n) (eq-eqb u n (one_interface u n (sym at ∙ (ap b.owners (eqb-true r q e) ∙ is.owned)))) apart

            there : has (others_than q (used_by_view t v)) r ≡ true
            there = others_have q r (used_by_view t v) (other_place (r == q) refl)
                (contains-has (used_by_view t v) r (subst (λ ns. Contains ns r) (ap (used_by_view t) (sym viewed.viewed ∙ ap views place) ∙ same_uses t (views q).types v.types is.agrees) c))

        each : (u : ℕ) → Contains (direct_uses p n) u → has found u ≡ true
        each u c =
            let all = option_map_or (interfaces_used_by p) (interface_in p n) [] in
            let kept_u = filter_has (λ k. not (k == n)) (once all) u (contains-has (direct_uses p n) u c) in
            by u (not_true (u == n) kept_u.1) (interface_uses t tables kept p are b owned views n is.interface viewed u
            (has-contains (interfaces_used_by p is.interface) u (sym (ap (λ o. has (option_map_or (interfaces_used_by p) o []) u) is.there) ∙ (sym (has_once u all) ∙ kept_u.0))))

    type_uses_there : (key : Text) (count : ℕ) (d : Option ℕ) (id : Option Text) (n : ℕ) → IsTypeUnder t kept p b views (as_world m) home key count d id n → (earlier found : List ℕ)
        → ((r u : ℕ) → has earlier r ≡ true → b.owners r ≡ as_interface u → has found u ≡ true) → list_all (has earlier) (used_by t d) ≡ true
        → list_all (has found) (option_to_list (interface_used_by p n)) ≡ true
    type_uses_there key count d id n is earlier found inv h = by (type_uses t tables kept p are b owned n is.number home key d id is.stands is.shape is.becomes)
      where
        given : (o : Option ℕ) → (r : ℕ) → Contains (used_by t d) r → o ≡ owner_interface (b.owners r) → list_all (has found) (option_to_list o) ≡ true
        given None r c e = refl
        given (Some u) r c e = both (has found u) true (inv r u (all-contained (has earlier) (used_by t d) r h c) (owned_by (b.owners r) u (sym e))) refl

        by : UsedBy t tables kept p are b owned home d (interface_used_by p n) → list_all (has found) (option_to_list (interface_used_by p n)) ≡ true
        by (nothing e nowhere) = ap (λ o. list_all (has found) (option_to_list o)) e
        by (own e only) = ap (λ o. list_all (has found) (option_to_list o)) (e ∙ ap owner_interface owned_home)
        by (other r all e) = given (interface_used_by p n) r (subst (λ ns. Contains ns r) (sym all) (0, omega arith, refl)) e

    -- ---- types

    stands_first : (x : ReadItem) (rest : List ReadItem) (j : ℕ) (w : IsWorldType j) → list_all (λ (y : ReadItem). not (is_type_seen y.seen.shown) || nat_lt x.count y.count) rest ≡ true
        → w.number < x.count → (is_type_seen x.seen.shown ≡ true → x.count ≡ w.number + 1 → ⊥) → (found : List ℕ) → (has found j ≡ true) ⊎ Waits (x ∷ rest) w.number → has found j ≡ true
    stands_first x rest j w follow low here found (inl h) = h
    stands_first x rest j w follow low here found (inr (y, (zero, l, e), seen, count)) = search std_rules
    stands_first x rest j w follow low here found (inr (y, (suc i, l, e), seen, count)) =
        absurd (omega (arith, low, (ltb→lt x.count y.count (subst T (sym (sym (ap (λ v. not v || nat_lt x.count y.count) seen) ∙ (all-contained _ _ y follow (i, omega (arith, l), e)))) tt)), count))

    -- the named types of the world that numbers use
    used_stand : (x : ReadItem) (rest : List ReadItem) (ns : List ℕ) → ((n : ℕ) → Contains ns n → (k : ℕ) × (slice_get kept n ≡ Some k) × (k < x.count) × (n < length p.types))
        → list_all (λ (y : ReadItem). not (is_type_seen y.seen.shown) || nat_lt x.count y.count) rest ≡ true
        → ((j : ℕ) (w : IsWorldType j) → Contains (used_by_numbers p ns) j → is_type_seen x.seen.shown ≡ true → x.count ≡ w.number + 1 → ⊥)
        → (found : List ℕ) → ((j : ℕ) (w : IsWorldType j) → (has found j ≡ true) ⊎ Waits (x ∷ rest) w.number) → list_all (has found) (filter (has_owner p (as_world m)) (used_by_numbers p ns)) ≡ true
    used_stand x rest ns low follow here found inv = all_among (has found) (filter (has_owner p (as_world m)) (used_by_numbers p ns)) each
      where
        each : (j : ℕ) → Contains (filter (has_owner p (as_world m)) (used_by_numbers p ns)) j → has found j ≡ true
        each j c =
            let kept_j = filter_has (has_owner p (as_world m)) (used_by_numbers p ns) j (contains-has (filter (has_owner p (as_world m)) (used_by_numbers p ns)) j c) in
            let w = world_type j kept_j.1 in
            let used = has-contains (used_by_numbers p ns) j kept_j.0 in
            let from = used_among p fall ns (λ n d. (low n d).3) j used in
            let at = low from.0 from.1 in
            let le : w.number ≤ at.0 = (search std_rules) in
            let less = at.2 in
            stands_first x rest j w follow (omega (arith, le, less)) (here j w used) found (inv j w)

    -- the numbers of a function
    function_low : (key : Text) (count : ℕ) (g : PlannedFunction) → IsReadUnder t kept p b views (as_world m) home key count g → (n : ℕ) → Contains (function_numbers g) n
        → (k : ℕ) × (slice_get kept n ≡ Some k) × (k < count) × (n < length p.types)
    function_low key count g is n c = by (Contains-append_cases (filter_map part_number (function_parts g)) (option_to_list (resource_of g.kind)) n c)
      where
        range : n < length p.types
        range = ltb→lt n (length p.types) (subst T (sym (all-contained (in_list p.types) (function_numbers g) n
            (kept_functions_pass t tables b.known kept p are (as_world m) is.read.place is.read.name is.read.shape is.read.external_id g is.read.kept_function).in_range c)) tt)

        held : (o : Option ℕ) → Contains (option_to_list o) n → o ≡ Some n
        held None d = none-in n d
        held (Some k) d = ap Some (one-contained k n d)

        by : Contains (filter_map part_number (function_parts g)) n ⊎ Contains (option_to_list (resource_of g.kind)) n → (k : ℕ) × (slice_get kept n ≡ Some k) × (k < count) × (n < length p.types)
        by (inl d) =
            let from = part_from t kept p (shape_parts is.read.shape) (function_parts g) (function_zip t kept p is.read.shape is.read.external_id g is.read.kept_function.becomes) n d in
            (from.2, from.4, omega (arith, (all_at (λ k. k < 14 + count) (shape_parts is.read.shape) (all_parts (λ k. k < 14 + count) is.read.shape is.parts) from.0 from.1), from.3), from.5)
        by (inr d) =
            let found = slice_there p.types n range in
            let at = are.each n found.0 found.1 in
            (at.0, at.1, is.resource n at.0 (held (resource_of g.kind) d) at.1, range)

    -- ---- one item

    -- a type of the world is last in the table, and its parts were there before
    numbers_low : (count n k : ℕ) (x : PlannedType) → slice_get p.types n ≡ Some x → slice_get kept n ≡ Some k → count ≡ k + 1 → (i : ℕ) → Contains (kind_numbers x.kind) i
        → (a : ℕ) × (slice_get kept i ≡ Some a) × (a < count) × (i < length p.types)
    numbers_low count n k x e at last i c =
        let less = part_below n x e i c in
        let range : i < length p.types = omega (arith, less, slice_get_within p.types n x e) in
        let found = slice_there p.types i range in
        let is = are.each i found.0 found.1 in
        (is.0, is.1, omega (arith, kept_order i n is.0 k is.1 at less, last), range)

    own_number : (n k : ℕ) (x : PlannedType) → slice_get p.types n ≡ Some x → slice_get kept n ≡ Some k → (j : ℕ) (w : IsWorldType j) → Contains (used_by_numbers p (kind_numbers x.kind)) j
        → k + 1 ≡ w.number + 1 → ⊥
    own_number n k x e at j w c same =
        let from = used_among p fall (kind_numbers x.kind) (λ i d. let less = part_below n x e i d in omega (arith, less, slice_get_within p.types n x e)) j c in
        omega (arith, kept_order j n w.number k w.stands at (omega (arith, leb-true j from.0 from.2, part_below n x e from.0 from.1)), same)

    stands : (x : ReadItem) (rest : List ReadItem) → Item x → (earlier : List ℕ) (before : List PlannedItem) → Before earlier before (x ∷ rest) → list_all (has earlier) (uses_of t x.seen.shown) ≡ true
        → list_all (λ (y : ReadItem). not (is_type_seen y.seen.shown) || nat_lt x.count y.count) rest ≡ true → uses_stand_before p m before x.entry.1 ≡ true
    stands x rest (by_path q n v id path shown key entry is) earlier before inv h follow = ap (λ (e : PlannedKey × PlannedItem). uses_stand_before p m before e.1) entry
        ∙ both (list_all (has (filter_map item_interface before)) (direct_uses p n)) true
        (uses_there q n v is earlier (filter_map item_interface before) inv.interfaces (sym (ap (λ s. list_all (has earlier) (uses_of t s)) shown) ∙ h)) refl
    stands x rest (by_label q n v id shown good entry is) earlier before inv h follow = ap (λ (e : PlannedKey × PlannedItem). uses_stand_before p m before e.1) entry
        ∙ both (list_all (has (filter_map item_interface before)) (direct_uses p n)) true
        (uses_there q n v is earlier (filter_map item_interface before) inv.interfaces (sym (ap (λ s. list_all (has earlier) (uses_of t s)) shown) ∙ h)) refl
    stands x rest (implementing_path q n v id path shown good entry is) earlier before inv h follow = ap (λ (e : PlannedKey × PlannedItem). uses_stand_before p m before e.1) entry
        ∙ both (list_all (has (filter_map item_interface before)) (direct_uses p n)) true
        (uses_there q n v is earlier (filter_map item_interface before) inv.interfaces (sym (ap (λ s. list_all (has earlier) (uses_of t s)) shown) ∙ h)) refl
    stands x rest (a_function f g shown entry is) earlier before inv h follow = ap (λ (e : PlannedKey × PlannedItem). uses_stand_before p m before e.1) entry
        ∙ used_stand x rest (function_numbers g) (function_low x.seen.key x.count g is) follow (λ j w c seen count. no_true (sym (ap is_type_seen shown) ∙ seen))
        (filter_map item_type before) inv.types
    stands x rest (a_type d n shown entry is) earlier before inv h follow = ap (λ (e : PlannedKey × PlannedItem). uses_stand_before p m before e.1) entry
        ∙ both (list_all (has (filter_map item_interface before)) (option_to_list (interface_used_by p n))) (list_all (has (filter_map item_type before)) (used_types p m (plan.declares n)))
        (type_uses_there x.seen.key x.count d x.seen.external_id n is earlier (filter_map item_interface before) inv.interfaces (sym (ap (λ s. list_all (has earlier) (uses_of t s)) shown) ∙ h))
        (ap (λ o. list_all (has (filter_map item_type before)) (filter (has_owner p (as_world m)) (option_map_or (λ (y : PlannedType). used_by_numbers p (kind_numbers y.kind)) o [])))
        is.becomes.stands ∙ used_stand x rest (kind_numbers is.becomes.type_.kind) (numbers_low x.count n is.number is.becomes.type_ is.becomes.stands is.stands is.last) follow
        (λ j w c seen count. own_number n is.number is.becomes.type_ is.becomes.stands is.stands j w c (sym is.last ∙ count)) (filter_map item_type before) inv.types)

    -- ---- from item to item

    next : (x : ReadItem) (rest : List ReadItem) → Item x → (earlier : List ℕ) (before : List PlannedItem) → Before earlier before (x ∷ rest)
        → Before (earlier ++ path_seen x.seen.shown) (before ++ x.entry.1 ∷ []) rest
    next x rest is earlier before inv = record {
      interfaces = λ r u h at. seen_interface r u at is (either (has earlier r) (has (path_seen x.seen.shown) r) (sym (list_any-append (λ k. k == r) earlier (path_seen x.seen.shown)) ∙ h));
      types = λ j w. seen_type j w (inv.types j w);
    }
      where
        either : (a c : Bool) → (a || c) ≡ true → (a ≡ true) ⊎ (c ≡ true)
        either true c h = inl refl
        either false c h = inr h

        interface_last : (u n : ℕ) (id : Option Text) → x.entry.1 ≡ plan.interface n id → u ≡ n → has (filter_map item_interface (before ++ x.entry.1 ∷ [])) u ≡ true
        interface_last u n id e same = ap (λ ns. has ns u) (filter_map-append item_interface before (x.entry.1 ∷ []))
            ∙ has_end (filter_map item_interface before) (filter_map item_interface (x.entry.1 ∷ [])) u
            (ap (λ i. has (filter_map item_interface (i ∷ [])) u) e ∙ (ap (λ v. v || false) (eq-eqb n u (sym same))))

        one_place : (q r : ℕ) → ((q == r) || false) ≡ true → q ≡ r
        one_place q r h = eqb-true q r (or_nothing (q == r) h)

        seen_interface : (r u : ℕ) → b.owners r ≡ as_interface u → Item x → (has earlier r ≡ true) ⊎ (has (path_seen x.seen.shown) r ≡ true)
            → has (filter_map item_interface (before ++ x.entry.1 ∷ [])) u ≡ true
        seen_interface r u at it (inl h) = ap (λ ns. has ns u) (filter_map-append item_interface before (x.entry.1 ∷ []))
            ∙ has_front (filter_map item_interface before) (filter_map item_interface (x.entry.1 ∷ [])) u (inv.interfaces r u h at)
        seen_interface r u at (by_path q n v id path shown key entry is) (inr h) =
            let same = one_place q r (sym (ap (λ s. has (path_seen s) r) shown) ∙ h) in
            interface_last u n id (ap (λ (e : PlannedKey × PlannedItem). e.1) entry) (one_interface u n (sym at ∙ (ap b.owners (sym same) ∙ is.owned)))
        seen_interface r u at (implementing_path q n v id path shown good entry is) (inr h) =
            let same = one_place q r (sym (ap (λ s. has (path_seen s) r) shown) ∙ h) in
            interface_last u n id (ap (λ (e : PlannedKey × PlannedItem). e.1) entry) (one_interface u n (sym at ∙ (ap b.owners (sym same) ∙ is.owned)))
        seen_interface r u at (by_label q n v id shown good entry is) (inr h) = no_true (sym (ap (λ s. has (path_seen s) r) shown) ∙ h)
        seen_interface r u at (a_function f g shown entry is) (inr h) = no_true (sym (ap (λ s. has (path_seen s) r) shown) ∙ h)
        seen_interface r u at (a_type d n shown entry is) (inr h) = no_true (sym (ap (λ s. has (path_seen s) r) shown) ∙ h)

        type_last : (j : ℕ) (w : IsWorldType j) → is_type_seen x.seen.shown ≡ true → x.count ≡ w.number + 1 → Item x → has (filter_map item_type (before ++ x.entry.1 ∷ [])) j ≡ true
        type_last j w seen count (by_path q n v id path shown key entry is) = no_true (sym (ap is_type_seen shown) ∙ seen)
        type_last j w seen count (by_label q n v id shown good entry is) = no_true (sym (ap is_type_seen shown) ∙ seen)
        type_last j w seen count (implementing_path q n v id path shown good entry is) = no_true (sym (ap is_type_seen shown) ∙ seen)
        type_last j w seen count (a_function f g shown entry is) = no_true (sym (ap is_type_seen shown) ∙ seen)
        type_last j w seen count (a_type d n shown entry is) = ap (λ ns. has ns j) (filter_map-append item_type before (x.entry.1 ∷ []))
            ∙ has_end (filter_map item_type before) (filter_map item_type (x.entry.1 ∷ [])) j
            (ap (λ (e : PlannedKey × PlannedItem). has (filter_map item_type (e.1 ∷ [])) j) entry
            ∙ ap (λ v. v || false) (eq-eqb n j (are.once n j w.number (is.stands ∙ ap Some (omega (arith, is.last, count))) w.stands)))

        seen_type : (j : ℕ) (w : IsWorldType j) → (has (filter_map item_type before) j ≡ true) ⊎ Waits (x ∷ rest) w.number → (has (filter_map item_type (before ++ x.entry.1 ∷ [])) j ≡ true)
            ⊎ Waits rest w.number
        seen_type j w (inl h) = inl (ap (λ ns. has ns j) (filter_map-append item_type before (x.entry.1 ∷ [])) ∙ has_front (filter_map item_type before) (filter_map item_type (x.entry.1 ∷ [])) j h)
        seen_type j w (inr (y, (zero, l, e), seen, count)) = inl (type_last j w (ap (λ (z : ReadItem). is_type_seen z.seen.shown) e ∙ seen) (ap (λ (z : ReadItem). z.count) e ∙ count) is)
        seen_type j w (inr (y, (suc i, l, e), seen, count)) = inr (y, (i, omega (arith, l), e), seen, count)

    in_order : (xs : List ReadItem) → AllByRecursion Item xs → types_follow xs ≡ true → (earlier : List ℕ) (before : List PlannedItem) → Before earlier before xs
        → stand_earlier t earlier (map (λ (x : ReadItem). x.seen) xs) ≡ true
        → each_after (uses_stand_before p m) before (map (λ (e : PlannedKey × PlannedItem). e.1) (map (λ (x : ReadItem). x.entry) xs)) ≡ true
    in_order [] a follow earlier before inv h = refl
    in_order (x ∷ xs) a follow earlier before inv h = both _ _ (stands x xs a.0 earlier before inv (first_true _ _ h) (first_true _ _ follow))
        (in_order xs a.1 (second_true _ _ follow) (earlier ++ path_seen x.seen.shown) (before ++ x.entry.1 ∷ []) (next x xs a.0 earlier before inv) (second_true _ _ h))

    -- ---- all items

    -- the type of the world that stands under a label
    waits_there : (j : ℕ) (w : IsWorldType j) (test : PlannedKey → Bool) (xs : List ReadItem) → AllByRecursion Item xs
        → is_id j (option_and_then item_type (lookup test (map (λ (x : ReadItem). x.entry) xs))) ≡ true → Waits xs w.number
    waits_there j w test [] a h = no_true h
    waits_there j w test (x ∷ xs) a h = go (test x.entry.0) h (waits_there j w test xs a.1)
      where
        by : Item x → is_id j (item_type x.entry.1) ≡ true → Waits (x ∷ xs) w.number
        by (by_path q n v id path shown key entry is) h = no_true (sym (ap (λ (e : PlannedKey × PlannedItem). is_id j (item_type e.1)) entry) ∙ h)
        by (by_label q n v id shown good entry is) h = no_true (sym (ap (λ (e : PlannedKey × PlannedItem). is_id j (item_type e.1)) entry) ∙ h)
        by (implementing_path q n v id path shown good entry is) h = no_true (sym (ap (λ (e : PlannedKey × PlannedItem). is_id j (item_type e.1)) entry) ∙ h)
        by (a_function f g shown entry is) h = no_true (sym (ap (λ (e : PlannedKey × PlannedItem). is_id j (item_type e.1)) entry) ∙ h)
        by (a_type d n shown entry is) h = (
          x,
          (0, omega arith, refl),
          ap is_type_seen shown,
          is.last ∙ ap (λ k. k + 1) (same-some _ _ (sym is.stands ∙ (ap (slice_get kept) (eqb-true n j (sym (ap (λ (e : PlannedKey × PlannedItem). is_id j (item_type e.1)) entry) ∙ h)) ∙ w.stands))),
        )

        go : (c : Bool) → is_id j (option_and_then item_type (cond c (Some x.entry.1) (lookup test (map (λ (y : ReadItem). y.entry) xs)))) ≡ true
            → (is_id j (option_and_then item_type (lookup test (map (λ (y : ReadItem). y.entry) xs))) ≡ true → Waits xs w.number) → Waits (x ∷ xs) w.number
        go true h more = by a.0 h
        go false h more = let found = more h in (found.0, contains-later x xs found.0 found.1, found.2, found.3)

    all_follow : (xs ys : List ReadItem) → types_follow xs ≡ true → list_all (λ (y : ReadItem). not (is_type_seen y.seen.shown)) ys ≡ true → types_follow (xs ++ ys) ≡ true
    all_follow [] [] h none = refl
    all_follow [] (y ∷ ys) h none = both _ _ (all_weaker _ _ (λ z e. ap (λ v. v || nat_lt y.count z.count) e) ys (second_true _ _ none)) (all_follow [] ys refl (second_true _ _ none))
    all_follow (x ∷ xs) ys h none =
        let later : ReadItem → Bool = λ z. not (is_type_seen z.seen.shown) || nat_lt x.count z.count in
        both _ _ (list_all-append later xs ys ∙ both _ _ (first_true (list_all later xs) (types_follow xs) h)
        (all_weaker (λ (z : ReadItem). not (is_type_seen z.seen.shown)) later (λ z e. ap (λ v. v || nat_lt x.count z.count) e) ys none))
        (all_follow xs ys (second_true (list_all later xs) (types_follow xs) h) none)

  world_in_order : (m : ℕ) (w : PlannedWorld) → world_in p m ≡ Some w → each_after (uses_stand_before p m) [] (items_of w) ≡ true
  world_in_order m w e =
      let is = read.worlds m w e in
      let xs = is.imports in
      let ys = is.exports in
      ap (each_after (uses_stand_before p m) []) (sym (ap (map (λ (z : PlannedKey × PlannedItem). z.1))
      (append_of_map (λ (x : ReadItem). x.entry) xs ys ∙ (λ i. is.imports_listed i ++ is.exports_listed i)) ∙ append_of_map (λ (z : PlannedKey × PlannedItem). z.1) w.imports w.exports))
      ∙ in_order m is.scope.home is.owned (xs ++ ys) (all_both (Item m is.scope.home is.owned) xs ys is.imports_read is.exports_read)
      (all_follow m is.scope.home is.owned xs ys is.follow (sym (list_all-map (λ (s : NumberedSeen). not (is_type_seen s.shown)) (λ (y : ReadItem). y.seen) ys)
      ∙ (ap (list_all (λ (s : NumberedSeen). not (is_type_seen s.shown))) is.exports_seen ∙ is.no_types))) [] [] (record { interfaces = λ r u h at. no_true h; types = λ j v. inr (waiting m w e j v) })
      (ap (stand_earlier t []) (append_of_map (λ (x : ReadItem). x.seen) xs ys ∙ (λ i. is.imports_seen i ++ is.exports_seen i)) ∙ order_obeys t tables kept p are b owned views m w is)
    where
      waiting : (m : ℕ) (w : PlannedWorld) (e : world_in p m ≡ Some w) → let is = read.worlds m w e in (j : ℕ) (v : IsWorldType m is.scope.home is.owned j)
          → Waits m is.scope.home is.owned (is.imports ++ is.exports) v.number
      waiting m w e j v =
          let is = read.worlds m w e in
          let found = waits_there m is.scope.home is.owned j v (is_under_label v.name) is.imports is.imports_read
          (ap (λ es. is_id j (option_and_then item_type (lookup (is_under_label v.name) es))) is.imports_listed
          ∙ (sym (ap (λ o. option_map_or (λ (y : PlannedWorld). is_id j (option_and_then item_type (lookup (is_under_label v.name) y.imports))) o false) e) ∙ by v.type_ v.name (v.called)
          (owned.owned j v.number v.type_ is.scope.home v.name v.there v.stands v.shape ∙ is.owned) (listed t tables kept p are b owned views read j v.type_ v.there))) in
          (found.0, Contains-append_left is.imports is.exports found.0 found.1, found.2, found.3)
        where
          by : (x : PlannedType) (name : Text) → x.name ≡ Some name → x.owner ≡ as_world m → is_listed p j x ≡ true → is_listed_in p j name (as_world m) ≡ true
          by x name called at h = (λ i. is_listed_in p j name (sym at i)) ∙ (sym (ap (λ o. option_map_or (λ s. is_listed_in p j s x.owner) o (same_owner x.owner owner.None)) called) ∙ h)

  pub world_items : each_from (λ n w. each_after (uses_stand_before p n) [] (items_of w)) 0 p.worlds ≡ true
  world_items = each_by_number (λ n w. each_after (uses_stand_before p n) [] (items_of w)) p.worlds world_in_order

pub read_order_passes : ReadOrderPasses
read_order_passes t tables kept p are b owned views read = search (std_rules, types_are_listed, uses_are_low, world_items)
