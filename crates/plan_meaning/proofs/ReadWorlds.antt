-- Worlds that are read pass the tests of a plan on each world by itself.
use Rattle.std.proofs.Common.{◌≡◌, refl, sym, ap, subst, ◌∙◌, ◌<◌, ℕ, arith, Bool, true, false, not, ◌&&◌, ◌||◌, ◌==◌, List, [], ◌∷◌, ◌++◌, map, filter_map, Option, Some, is_none, is_some, slice_get, T, ltb→lt, rules}
use Rattle.std.proofs.lemmas.Bool.{eqb-true, eq-eqb, lt-ltb, and_from as both, not-true as not_true, or_from as neither}
use Rattle.std.proofs.lemmas.Option.{same_Some as same-some}
use Rattle.std.specs.{Prelude.codes, Prelude.nat_lt, List.AllByRecursion, List.cons_option, List.list_all, List.list_any, Option.option_map_or}
use Rattle.wit_model.specs.declared.model.{TypeOwner.TypeOwner, FunctionKind.FunctionKind}
use Rattle.wit_model.specs.{Text.Text, Text.text_eq, Rules.in_list, Rules.is_freestanding, Uses.owner_interface, Valid.as_interface, Valid.as_world}
use Rattle.wit_model.specs.{Names.is_label, Parts.same_owner}
use Rattle.wit_model.proofs.{VersionLaws.same_text, PartsLemmas.owner_itself, RulesLemmas.each_by_number}
use Rattle.comp_meaning.specs.Rules.{distinct, is_label_behind}
use Rattle.plan_meaning.specs.{Shapes.named_shape, ReadFunctions.Beside, NumberedRules.Fact, KeptOwners.AreOwned, KeptOwners.of_interface}
use Rattle.plan_meaning.specs.Plan.{Plan, PlannedKey, PlannedItem, PlannedType, PlannedFunction, PlannedInterface, PlannedWorld, interface_in, item_type, world_types}
use Rattle.plan_meaning.specs.PlanRules.{are_rising, bears, has_name, import_stands, export_stands, is_function_key, is_type_of, keys_differ, same_key}
use Rattle.plan_meaning.specs.NumberedViews.{Tables, path_text, AreTables, NumberedView, FunctionShape}
use Rattle.plan_meaning.specs.NumberedWorlds.{HasPath, NumberedSeen, are_imports, is_item, stand_earlier}
use Rattle.plan_meaning.specs.KeptTypes.{IsKeptType, unnamed, declared, TypesAreKept}
use Rattle.plan_meaning.specs.KeptFunctions.{IsKindOf, of_none, a_constructor, a_method, an_async_method, a_static, an_async_static}
use Rattle.plan_meaning.specs.ReadWorlds.{ReadItem, is_type_seen, types_follow, IsInterfaceOf, IsReadUnder, IsTypeUnder, IsReadItem, by_path, by_label, implementing_path, a_function, a_type, IsReadWorld, ReadWorldsPass}
use Rattle.plan_meaning.proofs.{Listed.in_range, Lists.no_true, NumberedRules.no_name, ReadInterfaces.bears_name, ReadLists.never, ReadLists.or_nothing}
use Rattle.base_lemmas.proofs.Bools.{first_false as none_first, left_of as first_true, right_of as second_true, second_false as none_second}
use Rattle.base_lemmas.proofs.{Elements.all_by_number, Numbers.same-number}
use Rattle.plan_meaning.specs.Plan as plan

-- ---- a function whose name is a label

behind_bracket : (ps name : Text) → is_label_behind (91 ∷ ps) name ≡ true → is_label name ≡ false
behind_bracket ps y h = search rules

module _ (t : Tables) (known : ℕ → Fact) (kept : List ℕ) (p : Plan) (o : TypeOwner) (q : ℕ) where
  stands_free : (name : Text) (f : FunctionShape) (kind : FunctionKind) → IsKindOf t known kept p o q name f kind → is_label name ≡ true → is_freestanding kind ≡ true
  stands_free name f kind (of_none good none) h = ap (λ (o : Option ℕ). is_none o) none
  stands_free name f kind (a_constructor id r e is named makes) h = no_true (sym (ap is_label named) ∙ h)
  stands_free name f kind (a_method id r e is named self) h = never (is_label name) h (behind_bracket (codes "method]" ++ (r ++ 46 ∷ [])) name named)
  stands_free name f kind (an_async_method id r e is named self) h = never (is_label name) h (behind_bracket (codes "method]" ++ (r ++ 46 ∷ [])) name named)
  stands_free name f kind (a_static id r e is named) h = never (is_label name) h (behind_bracket (codes "static]" ++ (r ++ 46 ∷ [])) name named)
  stands_free name f kind (an_async_static id r e is named) h = never (is_label name) h (behind_bracket (codes "static]" ++ (r ++ 46 ∷ [])) name named)

-- ---- the items of one world

module _ (t : Tables) (tables : AreTables t) (kept : List ℕ) (p : Plan) (are : TypesAreKept t kept p) (b : Beside) (owned : AreOwned t kept p b.owners) (views : ℕ → NumberedView) where
  -- the interface of a place with a path has a name
  named_there : (q m : ℕ) → HasPath t q → b.owners q ≡ as_interface m → (i : PlannedInterface) → interface_in p m ≡ Some i → has_name p m ≡ true
  named_there q m path is i standing =
      let named = owned.outside q path (of_interface m i is standing) in
      ap (has_name p) (same-some m named.id.0 (ap owner_interface (sym is ∙ named.is))) ∙ named.named

  module _ (m home : ℕ) (owned_home : b.owners home ≡ as_world m) where
    abbrev Item : ReadItem → Type 0
    Item x = IsReadItem t kept p b views (as_world m) home x

    there : (q n : ℕ) (v : NumberedView) → IsInterfaceOf t kept p b views (as_world m) home q v n → in_list p.interfaces n ≡ true
    there q n v is = in_range p.interfaces n (ap is_some is.there)

    function_stands : (key : Text) (count : ℕ) (g : PlannedFunction) → IsReadUnder t kept p b views (as_world m) home key count g → is_function_key key g ≡ true
    function_stands key count g is = search rules

    type_there : (key : Text) (count : ℕ) (d : Option ℕ) (id : Option Text) (n : ℕ) → IsTypeUnder t kept p b views (as_world m) home key count d id n
        → (is_label key ≡ true) × (is_type_of p (as_world m) (key, n) ≡ true)
    type_there key count d id n is =
        let x = is.becomes.type_ in
        let from = are.each n x is.becomes.stands in
        let kept_type : IsKeptType t kept p is.number x = subst (λ k. IsKeptType t kept p k x) (same-some _ _ (sym from.1 ∙ is.stands)) from.2 in
        let owner_is = owned.owned n is.number x home key is.becomes.stands is.stands is.shape ∙ owned_home in (
          labelled is.number x is.shape kept_type,
          ap (λ o. option_map_or (λ (y : PlannedType). bears key y.name && same_owner y.owner (as_world m)) o false) is.becomes.stands
              ∙ both _ _ (bears_name t kept p are home is.number key x is.shape kept_type) (ap (λ o. same_owner o (as_world m)) owner_is ∙ owner_itself (as_world m)),
        )
      where
        labelled : (k : ℕ) (x : PlannedType) → slice_get t.shapes k ≡ Some (named_shape home key) → IsKeptType t kept p k x → is_label key ≡ true
        labelled k x at (declared r other d at_other called home_x kind before good obeys) = search (rules, same-some)
        labelled k x at (unnamed place form olds news at_form z none unowned kind part low) = search (rules, same-some, no_true, no_name, eq-eqb)

    imports_itself : (x : ReadItem) → Item x → import_stands p m x.entry ≡ true
    imports_itself x (by_path q n v id path shown key entry is) = ap (import_stands p m) entry ∙ both (n == n) (has_name p n) (same-number n) (named_there q n path is.owned is.interface is.there)
    imports_itself x (by_label q n v id shown good entry is) = ap (import_stands p m) entry ∙ both (is_label x.seen.key) (in_list p.interfaces n) good (there q n v is)
    imports_itself x (implementing_path q n v id path shown good entry is) = ap (import_stands p m) entry ∙ both (is_label x.seen.key) (in_list p.interfaces n) good (there q n v is)
    imports_itself x (a_function f g shown entry is) = ap (import_stands p m) entry ∙ function_stands x.seen.key x.count g is
    imports_itself x (a_type d n shown entry is) = search (rules, type_there x.seen.key x.count d x.seen.external_id n is, both)

    all_imports : (xs : List ReadItem) → AllByRecursion Item xs → list_all (import_stands p m) (map (λ (x : ReadItem). x.entry) xs) ≡ true
    all_imports [] a = refl
    all_imports (x ∷ xs) a = both (import_stands p m x.entry) (list_all (import_stands p m) (map (λ (y : ReadItem). y.entry) xs)) (imports_itself x a.0) (all_imports xs a.1)

    exports_itself : (x : ReadItem) → Item x → is_item t b.known home [] x.seen.key x.seen.shown ≡ true → not (is_type_seen x.seen.shown) ≡ true → export_stands p x.entry ≡ true
    exports_itself x (by_path q n v id path shown key entry is) obeys none = search (rules, both, same-number, named_there)
    exports_itself x (by_label q n v id shown good entry is) obeys none = ap (export_stands p) entry ∙ both (is_label x.seen.key) (in_list p.interfaces n) good (there q n v is)
    exports_itself x (implementing_path q n v id path shown good entry is) obeys none = ap (export_stands p) entry ∙ both (is_label x.seen.key) (in_list p.interfaces n) good (there q n v is)
    exports_itself x (a_function f g shown entry is) obeys none = search (rules, or_nothing, second_true, both, function_stands, stands_free)
    exports_itself x (a_type d n shown entry is) obeys none = no_true (sym (ap (λ s. not (is_type_seen s)) shown) ∙ none)

    all_exports : (xs : List ReadItem) → AllByRecursion Item xs → list_all (λ s. is_item t b.known home [] s.key s.shown) (map (λ (x : ReadItem). x.seen) xs) ≡ true
        → list_all (λ s. not (is_type_seen s.shown)) (map (λ (x : ReadItem). x.seen) xs) ≡ true → list_all (export_stands p) (map (λ (x : ReadItem). x.entry) xs) ≡ true
    all_exports [] a h k = refl
    all_exports (x ∷ xs) a h k = both _ _ (exports_itself x a.0 (first_true _ _ h) (first_true _ _ k)) (all_exports xs a.1 (second_true _ _ h) (second_true _ _ k))

    -- ---- keys

    -- the key of an item: its text as a label, or the interface of the place whose path the text is
    data KeyOf (x : ReadItem) : Type 0 where
      labelled_key : x.entry.0 ≡ plan.label x.seen.key → KeyOf x
      path_key : (q n : ℕ) → x.entry.0 ≡ plan.path_of n → x.seen.key ≡ path_text t q → b.owners q ≡ as_interface n → KeyOf x

    key_is : (x : ReadItem) → Item x → KeyOf x
    key_is x (by_path q n v id path shown key entry is) = path_key q n (ap (λ (e : PlannedKey × PlannedItem). e.0) entry) key is.owned
    key_is x (by_label q n v id shown good entry is) = labelled_key (ap (λ (e : PlannedKey × PlannedItem). e.0) entry)
    key_is x (implementing_path q n v id path shown good entry is) = labelled_key (ap (λ (e : PlannedKey × PlannedItem). e.0) entry)
    key_is x (a_function f g shown entry is) = labelled_key (ap (λ (e : PlannedKey × PlannedItem). e.0) entry)
    key_is x (a_type d n shown entry is) = labelled_key (ap (λ (e : PlannedKey × PlannedItem). e.0) entry)

    same_keys : (x y : ReadItem) → KeyOf x → KeyOf y → same_key x.entry.0 y.entry.0 ≡ true → text_eq x.seen.key y.seen.key ≡ true
    same_keys x y (labelled_key e) (labelled_key f) h = sym (λ i. same_key (e i) (f i)) ∙ h
    same_keys x y (labelled_key e) (path_key q n f text is) h = no_true (sym (λ i. same_key (e i) (f i)) ∙ h)
    same_keys x y (path_key q n e text is) (labelled_key f) h = no_true (sym (λ i. same_key (e i) (f i)) ∙ h)
    same_keys x y (path_key q n e text is) (path_key r k f other at) h = search (rules, eqb-true, owner_itself (b.owners q), same_text)

    no_other_key : (x : ReadItem) → Item x → (ys : List ReadItem) → AllByRecursion Item ys
        → list_any (text_eq x.seen.key) (map (λ (s : NumberedSeen). s.key) (map (λ (y : ReadItem). y.seen) ys)) ≡ false
        → list_any (λ (other : PlannedKey × PlannedItem). same_key x.entry.0 other.0) (map (λ (y : ReadItem). y.entry) ys) ≡ false
    no_other_key x is [] a h = refl
    no_other_key x is (y ∷ ys) a h = neither (same_key x.entry.0 y.entry.0) (list_any (λ (other : PlannedKey × PlannedItem). same_key x.entry.0 other.0) (map (λ (z : ReadItem). z.entry) ys))
        (differs (same_key x.entry.0 y.entry.0) refl) (no_other_key x is ys a.1 (none_second _ _ h))
      where
        differs : (v : Bool) → same_key x.entry.0 y.entry.0 ≡ v → same_key x.entry.0 y.entry.0 ≡ false
        differs false e = e
        differs true e = search (rules, never, same_keys, key_is, none_first)

    all_keys : (xs : List ReadItem) → AllByRecursion Item xs → distinct (map (λ (s : NumberedSeen). s.key) (map (λ (x : ReadItem). x.seen) xs)) ≡ true
        → keys_differ (map (λ (x : ReadItem). x.entry) xs) ≡ true
    all_keys [] a h = refl
    all_keys (x ∷ xs) a h = both _ _ (ap not (no_other_key x a.0 xs a.1 (not_true _ (first_true _ _ h)))) (all_keys xs a.1 (second_true _ _ h))

    -- ---- types

    abbrev types_in : List ReadItem → List ℕ
    types_in xs = filter_map item_type (map (λ (e : PlannedKey × PlannedItem). e.1) (map (λ (x : ReadItem). x.entry) xs))

    abbrev Later : ℕ → List ReadItem → PlannedItem → Type 0
    Later n ys e = list_all (nat_lt n) (cons_option (item_type e) (types_in ys)) ≡ true

    abbrev Rise : List ReadItem → PlannedItem → Type 0
    Rise xs e = are_rising (cons_option (item_type e) (types_in xs)) ≡ true

    -- the number of a type of the world, with its number in the table behind this, if the item is one
    later_types : (n k low : ℕ) → slice_get kept n ≡ Some k → k < low → (xs : List ReadItem) → AllByRecursion Item xs
        → list_all (λ (y : ReadItem). not (is_type_seen y.seen.shown) || nat_lt low y.count) xs ≡ true → list_all (nat_lt n) (types_in xs) ≡ true
    later_types n k low at less [] a h = refl
    later_types n k low at less (y ∷ ys) a h =
        let rest = later_types n k low at less ys a.1 (second_true (not (is_type_seen y.seen.shown) || nat_lt low y.count)
        (list_all (λ (z : ReadItem). not (is_type_seen z.seen.shown) || nat_lt low z.count) ys) h) in
        by a.0 (first_true (not (is_type_seen y.seen.shown) || nat_lt low y.count) (list_all (λ (z : ReadItem). not (is_type_seen z.seen.shown) || nat_lt low z.count) ys) h) rest
      where
        by : Item y → (not (is_type_seen y.seen.shown) || nat_lt low y.count) ≡ true → list_all (nat_lt n) (types_in ys) ≡ true → Later n ys y.entry.1
        by (by_path q j v id path shown key entry is) low_h rest = subst (λ (e : PlannedKey × PlannedItem). Later n ys e.1) (sym entry) rest
        by (by_label q j v id shown good entry is) low_h rest = subst (λ (e : PlannedKey × PlannedItem). Later n ys e.1) (sym entry) rest
        by (implementing_path q j v id path shown good entry is) low_h rest = subst (λ (e : PlannedKey × PlannedItem). Later n ys e.1) (sym entry) rest
        by (a_function f g shown entry is) low_h rest = subst (λ (e : PlannedKey × PlannedItem). Later n ys e.1) (sym entry) rest
        by (a_type d j shown entry is) low_h rest =
            let above : low < y.count = ltb→lt low y.count (subst T (sym (sym (ap (λ s. not (is_type_seen s) || nat_lt low y.count) shown) ∙ low_h)) tt) in
            let last = is.last in
            let before : n < j = are.rise n j k is.number at is.stands (omega (arith, less, above, last)) in
            subst (λ (e : PlannedKey × PlannedItem). Later n ys e.1) (sym entry) (both (nat_lt n j) (list_all (nat_lt n) (types_in ys)) (lt-ltb n j before) rest)

    all_types : (xs : List ReadItem) → AllByRecursion Item xs → types_follow xs ≡ true → are_rising (types_in xs) ≡ true
    all_types [] a h = refl
    all_types (x ∷ xs) a h =
        let behind = list_all (λ (y : ReadItem). not (is_type_seen y.seen.shown) || nat_lt x.count y.count) xs in
        by a.0 (first_true behind (types_follow xs) h) (all_types xs a.1 (second_true behind (types_follow xs) h))
      where
        by : Item x → list_all (λ (y : ReadItem). not (is_type_seen y.seen.shown) || nat_lt x.count y.count) xs ≡ true → are_rising (types_in xs) ≡ true → Rise xs x.entry.1
        by (by_path q j v id path shown key entry is) later rest = subst (λ (e : PlannedKey × PlannedItem). Rise xs e.1) (sym entry) rest
        by (by_label q j v id shown good entry is) later rest = subst (λ (e : PlannedKey × PlannedItem). Rise xs e.1) (sym entry) rest
        by (implementing_path q j v id path shown good entry is) later rest = subst (λ (e : PlannedKey × PlannedItem). Rise xs e.1) (sym entry) rest
        by (a_function f g shown entry is) later rest = subst (λ (e : PlannedKey × PlannedItem). Rise xs e.1) (sym entry) rest
        by (a_type d n shown entry is) later rest = subst (λ (e : PlannedKey × PlannedItem). Rise xs e.1) (sym entry)
            (both (list_all (nat_lt n) (types_in xs)) (are_rising (types_in xs)) (later_types n is.number x.count is.stands (omega (arith, is.last)) xs a.1 later) rest)

  -- ---- the rules on worlds

  module _ (m : ℕ) (w : PlannedWorld) (is : IsReadWorld t kept p b views m w) where
    abbrev imported : Bool
    imported = are_imports t b.known is.scope.home [] is.scope.imports

    abbrev exported : Bool
    exported = list_all (λ (s : NumberedSeen). is_item t b.known is.scope.home [] s.key s.shown) is.scope.exports

    abbrev import_keys : Bool
    import_keys = distinct (map (λ (s : NumberedSeen). s.key) is.scope.imports)

    abbrev export_keys : Bool
    export_keys = distinct (map (λ (s : NumberedSeen). s.key) is.scope.exports)

    front : (((imported && exported) && import_keys) && export_keys) ≡ true
    front = first_true (((imported && exported) && import_keys) && export_keys) (stand_earlier t [] (is.scope.imports ++ is.scope.exports)) is.obeys

    pub order_obeys : stand_earlier t [] (is.scope.imports ++ is.scope.exports) ≡ true
    order_obeys = second_true (((imported && exported) && import_keys) && export_keys) (stand_earlier t [] (is.scope.imports ++ is.scope.exports)) is.obeys

    all_import : list_all (import_stands p m) w.imports ≡ true
    all_import = ap (list_all (import_stands p m)) (sym is.imports_listed) ∙ all_imports m is.scope.home is.owned is.imports is.imports_read

    all_export : list_all (export_stands p) w.exports ≡ true
    all_export = ap (list_all (export_stands p)) (sym is.exports_listed) ∙ all_exports m is.scope.home is.owned is.exports is.exports_read
        (ap (list_all (λ (s : NumberedSeen). is_item t b.known is.scope.home [] s.key s.shown)) is.exports_seen ∙ (second_true _ _ (first_true _ _ (first_true _ _ front))))
        (ap (list_all (λ (s : NumberedSeen). not (is_type_seen s.shown))) is.exports_seen ∙ is.no_types)

    pub import_keys_differ : keys_differ w.imports ≡ true
    import_keys_differ = ap keys_differ (sym is.imports_listed) ∙ all_keys m is.scope.home is.owned is.imports is.imports_read
        (ap (λ ss. distinct (map (λ (s : NumberedSeen). s.key) ss)) is.imports_seen ∙ (second_true _ _ (first_true _ _ front)))

    export_keys_differ : keys_differ w.exports ≡ true
    export_keys_differ = ap keys_differ (sym is.exports_listed) ∙ all_keys m is.scope.home is.owned is.exports is.exports_read
        (ap (λ ss. distinct (map (λ (s : NumberedSeen). s.key) ss)) is.exports_seen ∙ (second_true ((imported && exported) && import_keys) export_keys front))

    types_rise : are_rising (world_types w) ≡ true
    types_rise = search (rules, all_types m is.scope.home is.owned is.imports is.imports_read is.follow)

pub read_worlds_pass : ReadWorldsPass
read_worlds_pass t tables kept p are b owned views read = record {
  imports_stand = each_by_number _ _ (λ m w e. all_import t tables kept p are b owned views m w (read m w e));
  exports_stand = all_by_number _ _ (λ m w e. all_export t tables kept p are b owned views m w (read m w e));
  keys_differ = all_by_number _ _ (λ m w e. both _ _ (import_keys_differ t tables kept p are b owned views m w (read m w e)) (export_keys_differ t tables kept p are b owned views m w (read m w e)));
  world_types_rise = all_by_number _ _ (λ m w e. types_rise t tables kept p are b owned views m w (read m w e));
}
