-- Types refer to smaller ones, and stand with their owners in order.
use Rattle.std.proofs.Common.{rules as std_rules, ◌≡◌, refl, sym, ap, ◌∙◌, ℕ, Bool, true, false, ◌&&◌, ◌||◌, ◌==◌, cond, nat_lt, List, [], ◌∷◌, map, filter_map, option_map, option_and_then, option_to_list, Option, Some, None, is_some, String}
use Rattle.std.proofs.lemmas.{Bool.or_left, Bool.or_right, Bool.and_from as both, List.Folds.list_all-map, Option.slice_get-map as get_of_map}
use Rattle.std.specs.declared.alloc.Global.{Global}
use Rattle.std.specs.{List.list_all, Option.option_map_or, Map.lookup, HashMap.get_by}
use Rattle.indexmap.specs.IndexMap.{values}
use Rattle.wit_model.specs.declared.model.{Resolve.Resolve, Interface.Interface, WorldKey.WorldKey, WorldItem.WorldItem, TypeId.TypeId, TypeOwner.TypeOwner}
use Rattle.wit_model.specs.declared.model.World.{World}
use Rattle.wit_model.specs.{Text.Text, Text.text_of, Text.text_eq, Text.optional_text, Valid.Keeps, Valid.order_of_types, Valid.as_interface, Valid.as_world}
use Rattle.wit_model.specs.{Lookup.world_at, Parts.same_owner, Uses.has}
use Rattle.wit_model.specs.Rules.{passes, is_id, is_name_key, is_named_of, are_in_order, interface_type_numbers, world_type_numbers, is_listed_in_interface, is_listed_in_world, used_by_number}
use Rattle.wit_model.proofs.{Lists.list_all_filter_map, Checks.keeps_three, InOrder.found_stands, TextLemmas.named_too, RulesLemmas.each_by_number}
use Rattle.plan_meaning.specs.{Plan.number_under, Plan.numbers_of, PlanRules.IsPlan, PlanRules.are_rising, PlanRules.is_under_label}
use Rattle.plan_meaning.specs.Built.{planned_type, planned_interface, planned_world, planned_key, planned_item}
use Rattle.plan_meaning.proofs.Lists.{then_of_map, same_then, all_built, no_true, each_there, all_there}
use Rattle.plan_meaning.proofs.{Words.plan_of, Words.kind_numbers_are, FunctionRules.values_are, Rising.stands_once, Rising.in_order, Rising.used_low}
use Rattle.plan_meaning.proofs.{Listed.passes_weaker, WorldItems.own_type}
use Rattle.base_lemmas.proofs.{Bools.left_of as first_true, Bools.right_of as second_true, Lists.filter_of_map, Lists.map_of_map, Maps.lookup_of_map}
use Rattle.base_lemmas.proofs.Elements.{all_get}
use Rattle.wit_model.specs.declared.model.TypeOwner.TheVariants as owner
use Rattle.wit_model.specs.Rules as rules
use Rattle.plan_meaning.specs.Plan as plan
use Rattle.plan_meaning.specs.PlanRules as planned

-- ---- the lists of types

pub type_numbers_are : (i : Interface) → numbers_of (planned_interface i).types ≡ interface_type_numbers i
type_numbers_are i = map_of_map (λ (e : Text × ℕ). e.1) (λ e. (text_of e.0, e.1.0)) i.types.entries ∙ sym (map_of_map (λ (id : TypeId). id.0) (λ e. e.1) i.types.entries)

pub item_type_is : (x : WorldItem) → plan.item_type (planned_item x) ≡ rules.item_type x
item_type_is x = search std_rules

pub item_types_are : (xs : List WorldItem) → filter_map plan.item_type (map planned_item xs) ≡ filter_map rules.item_type xs
item_types_are xs = filter_of_map plan.item_type planned_item xs ∙ ap (λ h. filter_map h xs) (λ i x. item_type_is x i)

pub world_types_are : (w : World) → plan.world_types (planned_world w) ≡ world_type_numbers w
world_types_are w = ap (filter_map plan.item_type) (values_are w.imports.entries) ∙ item_types_are (values w.imports)

-- a number that stands under a name stands in the list
pub under_has : (name : Text) (n : ℕ) (es : List (Text × ℕ)) → is_id n (number_under name es) ≡ true → has (numbers_of es) n ≡ true
under_has name n [] h = no_true h
under_has name n (e ∷ es) h = go (text_eq name e.0) h (under_has name n es)
  where
    go : (b : Bool) → is_id n (cond b (Some e.1) (number_under name es)) ≡ true → (is_id n (number_under name es) ≡ true → has (numbers_of es) n ≡ true) → ((e.1 == n) || has (numbers_of es) n) ≡ true
    go true h rest = or_left (e.1 == n) (has (numbers_of es) n) h
    go false h rest = or_right (e.1 == n) (has (numbers_of es) n) (rest h)

key_is : (name : Text) (k : WorldKey) → is_under_label name (planned_key k) ≡ is_name_key name k
key_is name x = search std_rules

module _ (r : Resolve) (m : ℕ) (is : IsPlan (plan_of r m)) where
  named_of : (o : TypeOwner) (t : Text) (n : ℕ) → planned.is_type_of (plan_of r m) o (t, n) ≡ true → is_named_of r o n ≡ true
  named_of o t n h = search (std_rules, passes_weaker, is_some, both, named_too, first_true, second_true, own_type r m is o t n h)

  ordered : (ns : List ℕ) → are_rising ns ≡ true → are_in_order r ns ≡ true
  ordered ns rise = in_order (used_by_number r) (used_low r m is.types_fall) ns [] ns (λ k. refl) rise

  -- ---- interfaces and worlds

  interface_passes : (n : ℕ) (i : Interface) → list_all (planned.is_type_of (plan_of r m) (as_interface n)) (planned_interface i).types ≡ true
      → are_rising (numbers_of (planned_interface i).types) ≡ true → (list_all (is_named_of r (as_interface n)) (interface_type_numbers i) && are_in_order r (interface_type_numbers i)) ≡ true
  interface_passes n i own rise = search (std_rules, both, list_all-map, all_built, plan_of, named_of, ordered, type_numbers_are)

  world_passes : (n : ℕ) (w : World) → list_all (planned.import_stands (plan_of r m) n) (planned_world w).imports ≡ true → are_rising (plan.world_types (planned_world w)) ≡ true
      → (list_all (is_named_of r (as_world n)) (world_type_numbers w) && are_in_order r (world_type_numbers w)) ≡ true
  world_passes n w imports rise = both _ _ (list_all_filter_map (is_named_of r (as_world n)) rules.item_type (values w.imports)
      ∙ (list_all-map (λ x. list_all (is_named_of r (as_world n)) (option_to_list (rules.item_type x))) (λ e. e.1) w.imports.entries
      ∙ all_built (λ e. (planned_key e.0, planned_item e.1)) (planned.import_stands (plan_of r m) n) (λ e. list_all (is_named_of r (as_world n)) (option_to_list (rules.item_type e.1)))
      (λ x h. search (std_rules, no_true, both, named_of, second_true)) w.imports.entries imports)) (ordered (world_type_numbers w) (ap are_rising (sym (world_types_are w)) ∙ rise))

  -- ---- types

  in_interface : (n : ℕ) (name : Text) (i : Interface) → are_rising (interface_type_numbers i) ≡ true → is_id n (number_under name (planned_interface i).types) ≡ true
      → is_listed_in_interface n name i ≡ true
  in_interface n name i rise h = both _ _ (ap (is_id n) (sym (lookup_of_map (text_eq name) text_of (λ (id : TypeId). id.0) i.types.entries)) ∙ h)
      (stands_once n (interface_type_numbers i) rise (ap (λ ns. has ns n) (sym (type_numbers_are i)) ∙ under_has name n (planned_interface i).types h))

  in_world : (n : ℕ) (name : Text) (w : World) → are_rising (world_type_numbers w) ≡ true → is_id n (option_and_then plan.item_type (lookup (is_under_label name) (planned_world w).imports)) ≡ true
      → is_listed_in_world n name w ≡ true
  in_world n name w rise h = both _ _ found (stands_once n (world_type_numbers w) rise (found_stands (is_name_key name) rules.item_type n w.imports.entries found))
    where
      found : is_id n (option_and_then rules.item_type (get_by (is_name_key name) w.imports)) ≡ true
      found = ap (is_id n) (sym (ap (option_and_then plan.item_type) (lookup_of_map (is_under_label name) planned_key planned_item w.imports.entries ∙ ap
          (λ test. option_map planned_item (lookup test w.imports.entries)) (λ i k. key_is name k i))
          ∙ (then_of_map plan.item_type planned_item (lookup (is_name_key name) w.imports.entries) ∙ same_then (λ x. plan.item_type (planned_item x)) rules.item_type item_type_is
          (lookup (is_name_key name) w.imports.entries)))) ∙ h

  listed_in : (n : ℕ) (name : Text) (o : TypeOwner) → planned.is_listed_in (plan_of r m) n name o ≡ true → rules.is_listed r n name o ≡ true
  listed_in n name (owner.Interface id) h = search (std_rules, get_of_map, no_true, in_interface, type_numbers_are, all_there)
  listed_in n name (owner.World id) h = go (world_at r id.0) refl (sym (ap (λ o. option_map_or (λ w. is_id n (option_and_then plan.item_type (lookup (is_under_label name) w.imports))) o false)
      (get_of_map planned_world r.worlds.items id.0)) ∙ h)
    where
      go : (o : Option World) → world_at r id.0 ≡ o → option_map_or (λ w. is_id n (option_and_then plan.item_type (lookup (is_under_label name) w.imports))) (option_map planned_world o) false ≡ true
          → passes (is_listed_in_world n name) (world_at r id.0) ≡ true
      go None e h = no_true h
      go (Some w) e h = ap (passes (is_listed_in_world n name)) e ∙ in_world n name w (search (std_rules, world_types_are w, all_get, get_of_map planned_world r.worlds.items id.0)) h
  listed_in n name owner.None h = no_true h

  listed_by : (n : ℕ) (name : Option (String Global)) (o : TypeOwner) → option_map_or (λ t. planned.is_listed_in (plan_of r m) n t o) (optional_text name) (same_owner o owner.None) ≡ true
      → option_map_or (λ s. rules.is_listed r n (text_of s) o) name (same_owner o owner.None) ≡ true
  listed_by n x o h = search (std_rules, listed_in)

  pub order_of_types_kept : Keeps order_of_types r
  unfolding order_of_types
  order_of_types_kept = keeps_three order_of_types r refl (each_by_number _ _
      (λ n i e. interface_passes n i (each_there planned_interface (λ n i. list_all (planned.is_type_of (plan_of r m) (as_interface n)) i.types) r.interfaces.items is.interface_types n i e)
      (all_there planned_interface (λ i. are_rising (numbers_of i.types)) r.interfaces.items is.types_rise n i e)))
      (each_by_number _ _ (λ n w e. world_passes n w (each_there planned_world (λ n w. list_all (planned.import_stands (plan_of r m) n) w.imports) r.worlds.items is.imports_stand n w e)
      (all_there planned_world (λ w. are_rising (plan.world_types w)) r.worlds.items is.world_types_rise n w e)))
      (each_by_number _ _ (λ n def e. both _ _ (ap (list_all (λ j. nat_lt j n)) (sym (kind_numbers_are def.kind))
      ∙ each_there planned_type (λ n t. list_all (λ j. nat_lt j n) (plan.kind_numbers t.kind)) r.types.items is.types_fall n def e)
      (listed_by n def.name def.owner (each_there planned_type (planned.is_listed (plan_of r m)) r.types.items is.types_listed n def e))))
