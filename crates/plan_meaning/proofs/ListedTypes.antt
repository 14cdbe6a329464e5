-- Each named type of a plan that is read stands in its owner's list.
use Rattle.std.proofs.Common.{rules as std_rules, ◌≡◌, refl, sym, ap, subst, ◌∙◌, ℕ, zero, suc, ◌+◌, arith, Bool, true, false, not, ◌||◌, cond, List, [], ◌∷◌, ◌++◌, Some, option_and_then, slice_get}
use Rattle.std.proofs.lemmas.{Bool.or_right, Bool.and_from as both, Bool.not-true as not_true, List.Folds.list_any-append, Option.same_Some as same-some}
use Rattle.std.specs.{List.AllZip, List.Contains, List.list_any, Option.option_map_or, Map.lookup}
use Rattle.wit_model.specs.{Text.Text, Text.text_eq, Rules.are_distinct, Rules.each_from, Rules.is_id, Valid.as_interface, Valid.as_world, Parts.same_owner}
use Rattle.wit_model.proofs.{RulesLemmas.each_by_number}
use Rattle.plan_meaning.specs.{Shapes.Shape, Shapes.first_label, Shapes.named_shape, ReadInterfaces.IsNumberOf, ReadInterfaces.IsKeptAs, ReadInterfaces.HasName}
use Rattle.plan_meaning.specs.Plan.{Plan, PlannedKey, PlannedItem, PlannedType, PlannedInterface, PlannedWorld, interface_in, world_in, number_under, item_type}
use Rattle.plan_meaning.specs.PlanRules.{is_listed, is_listed_in, is_under_label, keys_differ, names_of, same_key}
use Rattle.plan_meaning.specs.{NumberedViews.Tables, NumberedViews.AreTables, NumberedViews.NumberedType, NumberedViews.NumberedView, ReadFunctions.Beside}
use Rattle.plan_meaning.specs.KeptTypes.{IsKeptType, unnamed, declared, TypesAreKept}
use Rattle.plan_meaning.specs.{KeptOwners.AreOwned, ReadOrder.IsShownThere, ReadOrder.in_interface, ReadOrder.in_world, ReadOrder.OrderIsRead}
use Rattle.plan_meaning.specs.ReadWorlds.{ReadItem, is_type_seen, IsReadItem, by_path, by_label, implementing_path, a_function, a_type}
use Rattle.plan_meaning.proofs.{Lists.no_true, ReadInterfaces.has_labels, ReadLists.never, ReadLists.number_there, ReadWorlds.import_keys_differ}
use Rattle.base_lemmas.proofs.{Bools.first_false as none_first, Bools.left_of as first_true, Bools.right_of as second_true, Numbers.same-number}
use Rattle.base_lemmas.proofs.Elements.{all_at, contains-later, contains-map}
use Rattle.wit_model.specs.declared.model.TypeOwner.TheVariants as owner
use Rattle.plan_meaning.specs.Plan as plan

-- ---- lists

pub distinct_front : (xs ys : List Text) → are_distinct (xs ++ ys) ≡ true → are_distinct xs ≡ true
distinct_front [] ys h = refl
distinct_front (x ∷ xs) ys h =
    search (std_rules, both, none_first, list_any-append, not_true, first_true, second_true, distinct_front xs ys (second_true (not (list_any (text_eq x) (xs ++ ys))) (are_distinct (xs ++ ys)) h))

no_key : (key : PlannedKey) (name : Text) (item : PlannedItem) → same_key key (plan.label name) ≡ true → (es : List (PlannedKey × PlannedItem)) → Contains es (plan.label name, item)
    → list_any (λ (other : PlannedKey × PlannedItem). same_key key other.0) es ≡ true
no_key key name item h [] (i, low, e) = absurd (omega (arith, low))
no_key key name item h (x ∷ es) (zero, low, e) = ap (λ b. b || list_any (λ (other : PlannedKey × PlannedItem). same_key key other.0) es) (ap (λ (y : PlannedKey × PlannedItem). same_key key y.0) e ∙ h)
no_key key name item h (x ∷ es) (suc i, low, e) = search (std_rules, or_right, no_key key name item h es (i, omega (arith, low), e))

-- what stands under a label where keys differ
pub key_there : (name : Text) (item : PlannedItem) (es : List (PlannedKey × PlannedItem)) → keys_differ es ≡ true → Contains es (plan.label name, item) → lookup (is_under_label name) es ≡ Some item
key_there name item [] d (i, low, e) = absurd (omega (arith, low))
key_there name item (x ∷ es) d (zero, low, e) = search std_rules
key_there name item (x ∷ es) d (suc i, low, e) =
    let later : Contains es (plan.label name, item) = (i, omega (arith, low), e) in
    let others = list_any (λ (other : PlannedKey × PlannedItem). same_key x.0 other.0) es in
    go (is_under_label name x.0) refl later (not_true others (first_true (not others) (keys_differ es) d)) (key_there name item es (second_true (not others) (keys_differ es) d) later)
  where
    go : (b : Bool) → is_under_label name x.0 ≡ b → Contains es (plan.label name, item) → list_any (λ (other : PlannedKey × PlannedItem). same_key x.0 other.0) es ≡ false
        → lookup (is_under_label name) es ≡ Some item → cond b (Some x.1) (lookup (is_under_label name) es) ≡ Some item
    go true f later absent rest = never (list_any (λ (other : PlannedKey × PlannedItem). same_key x.0 other.0) es) (no_key x.0 name item (search std_rules) es later) absent
    go false f later absent rest = rest

module _ (t : Tables) (tables : AreTables t) (kept : List ℕ) (p : Plan) (are : TypesAreKept t kept p) (b : Beside) (owned : AreOwned t kept p b.owners) (views : ℕ → NumberedView) (read : OrderIsRead t kept p b views) where
  same_name : (q r k : ℕ) (a c : Text) → slice_get t.shapes k ≡ Some (named_shape q a) → slice_get t.shapes k ≡ Some (named_shape r c) → a ≡ c
  same_name q r k a c e f = ap (λ (s : Shape). first_label s.labels) (same-some (named_shape q a) (named_shape r c) (sym e ∙ f))

  -- ---- in an interface

  -- the entry of the type whose name has this number
  record IsEntry (q k : ℕ) (es : List (Text × ℕ)) : Type 0 where
    entry : Text × ℕ
    listed : Contains es entry
    stands : slice_get kept entry.1 ≡ Some k
    shape : slice_get t.shapes k ≡ Some (named_shape q entry.0)

  entry_of : (q k : ℕ) (xs : List NumberedType) (ns : List ℕ) (es : List (Text × ℕ)) → AllZip (IsNumberOf t q) xs ns → AllZip (IsKeptAs kept p) ns es → AllZip HasName xs es → Contains ns k
      → IsEntry q k es
  entry_of q k xs [] es y z names (i, low, e) = absurd (omega (arith, low))
  entry_of q k [] (n ∷ ns) es y z names c = absurd y
  entry_of q k (x ∷ xs) (n ∷ ns) [] y z names c = absurd z
  entry_of q k (x ∷ xs) (n ∷ ns) (a ∷ es) y z names (zero, low, e) = search std_rules
  entry_of q k (x ∷ xs) (n ∷ ns) (a ∷ es) y z names (suc i, low, e) = search (std_rules, contains-later, entry_of q k xs ns es y.1 z.1 names.1 (i, omega (arith, low), e))

  interface_lists : (j k q : ℕ) (name : Text) (m : ℕ) (i : PlannedInterface) (e : interface_in p m ≡ Some i) → slice_get kept j ≡ Some k → slice_get t.shapes k ≡ Some (named_shape q name)
      → Contains (read.interfaces m i e).read.numbers k → is_listed_in p j name (as_interface m) ≡ true
  interface_lists j k q name m i e at there c =
      let is = (read.interfaces m i e).read in
      let found = entry_of is.place k is.view.types is.numbers i.types is.shapes is.kept_there is.names c in
      ap (λ o. option_map_or (λ (y : PlannedInterface). is_id j (number_under name y.types)) o false) e
      ∙ number_there name j i.types (distinct_front (names_of i.types) (names_of i.functions) (second_true _ _ (has_labels t kept p are b m i is)))
      (subst (Contains i.types) (λ x. ((same_name is.place q k found.entry.0 name found.shape there) x, (are.once found.entry.1 j k found.stands at) x)) found.listed)

  -- ---- in a world

  world_lists : (j k q : ℕ) (name : Text) (m : ℕ) (w : PlannedWorld) (e : world_in p m ≡ Some w) (x : ReadItem) → slice_get kept j ≡ Some k → slice_get t.shapes k ≡ Some (named_shape q name)
      → Contains (read.worlds m w e).imports x → is_type_seen x.seen.shown ≡ true → x.count ≡ k + 1 → is_listed_in p j name (as_world m) ≡ true
  world_lists j k q name m w e x at there c seen last =
      let is = read.worlds m w e in
      by (all_at (IsReadItem t kept p b views (as_world m) is.scope.home) is.imports is.imports_read x c) (contains-map (λ (y : ReadItem). y.entry) is.imports x c)
      is.imports_listed (import_keys_differ t tables kept p are b owned views m w is)
    where
      by : {home : ℕ} {es : List (PlannedKey × PlannedItem)} → IsReadItem t kept p b views (as_world m) home x → Contains es x.entry → es ≡ w.imports → keys_differ w.imports ≡ true
          → is_listed_in p j name (as_world m) ≡ true
      by (by_path a n v id path shown key entry is) d f h = no_true (sym (ap is_type_seen shown) ∙ seen)
      by (by_label a n v id shown good entry is) d f h = no_true (sym (ap is_type_seen shown) ∙ seen)
      by (implementing_path a n v id path shown good entry is) d f h = no_true (sym (ap is_type_seen shown) ∙ seen)
      by (a_function g n shown entry is) d f h = no_true (sym (ap is_type_seen shown) ∙ seen)
      by {home = home} (a_type g n shown entry is) d f h =
          let shape_number : is.number ≡ k = omega (arith, is.last, last) in
          ap (λ o. option_map_or (λ (y : PlannedWorld). is_id j (option_and_then item_type (lookup (is_under_label name) y.imports))) o false) e
          ∙ (ap (λ o. is_id j (option_and_then item_type o)) (key_there name (plan.declares j) w.imports h (subst (Contains w.imports) (entry ∙ (λ y. (
            plan.label ((same_name home q k x.seen.key name (ap (slice_get t.shapes) (sym shape_number) ∙ is.shape) there) y),
            plan.declares ((are.once n j k (is.stands ∙ ap Some shape_number) at) y),
          ))) (subst (λ es. Contains es x.entry) f d))) ∙ same-number j)

  -- ---- each type

  pub listed : (j : ℕ) (x : PlannedType) → slice_get p.types j ≡ Some x → is_listed p j x ≡ true
  listed j x e = let is = are.each j x e in by is.0 is.1 is.2
    where
      by_place : (k q : ℕ) (name : Text) → slice_get kept j ≡ Some k → slice_get t.shapes k ≡ Some (named_shape q name) → IsShownThere t kept p b views read.interfaces read.worlds q k
          → is_listed_in p j name (b.owners q) ≡ true
      by_place k q name at there (in_interface m i f is c) = ap (is_listed_in p j name) is ∙ interface_lists j k q name m i f at there c
      by_place k q name at there (in_world m w f y is c seen last) = ap (is_listed_in p j name) is ∙ world_lists j k q name m w f y at there c seen last

      by : (k : ℕ) → slice_get kept j ≡ Some k → IsKeptType t kept p k x → is_listed p j x ≡ true
      by k at (unnamed place form olds news there z none unowned kind part low) =
          ap (λ o. option_map_or (λ name. is_listed_in p j name x.owner) o (same_owner x.owner owner.None)) none ∙ ap (λ o. same_owner o owner.None) unowned
      by k at (declared q name d there called home kind before good obeys) = ap (λ o. option_map_or (λ name. is_listed_in p j name x.owner) o (same_owner x.owner owner.None)) called
          ∙ (ap (is_listed_in p j name) (owned.owned j k x q name e at there) ∙ by_place k q name at there (read.names j k q x name e at there))

  pub types_are_listed : each_from (is_listed p) 0 p.types ≡ true
  types_are_listed = each_by_number (is_listed p) p.types listed
