-- The functions of a plan's interfaces and worlds are those of the `Resolve`, and so are its items.
use Rattle.std.proofs.Common.{rules as std_rules, ◌≡◌, refl, sym, ap, ◌∙◌, ℕ, Bool, true, List, [], ◌∷◌, ◌++◌, map, filter_map, option_to_list, Option, Some}
use Rattle.std.proofs.lemmas.List.Folds.{list_all-append, list_all-map}
use Rattle.std.specs.List.{list_all, cons_option}
use Rattle.indexmap.specs.IndexMap.{values}
use Rattle.wit_model.specs.declared.model.{Resolve.Resolve, World.World, WorldKey.WorldKey, Function.Function}
use Rattle.wit_model.specs.declared.model.{Interface.Interface, WorldItem.WorldItem, TypeDefKind.TypeDefKind, TypeOwner.TypeOwner, «Type».«Type» as ValueType}
use Rattle.wit_model.specs.{Uses.items_of, Rules.each_from, Rules.passes, Lookup.interface_at, Lookup.world_at}
use Rattle.wit_model.specs.{Parts.member_types, Valid.as_interface, Valid.as_world, Valid.functions_of_interface, Valid.functions_of_world, Valid.item_function}
use Rattle.wit_model.proofs.{Lists.list_all_filter_map, RulesLemmas.each_by_number}
use Rattle.plan_meaning.specs.Plan.{PlannedKind, PlannedFunction, formed}
use Rattle.plan_meaning.specs.PlanRules.{FunctionsPass, functions_of, world_functions, IsPlan, import_stands, export_stands}
use Rattle.plan_meaning.specs.Built.{part_of, given_parts, planned_kind, planned_function, planned_interface, planned_item, planned_entries, planned_world, planned_key}
use Rattle.plan_meaning.proofs.{Lists.all_built, Lists.same_all, Lists.each_there, Lists.all_there, Words.plan_of, Words.given_all}
use Rattle.base_lemmas.proofs.{Bools.left_of as first_true, Bools.right_of as second_true, Lists.append_of_map, Lists.map_of_map}
use Rattle.plan_meaning.specs.Plan as plan

-- ---- functions and items

pub functions_are : (i : Interface) → functions_of (planned_interface i) ≡ map planned_function (functions_of_interface i)
functions_are i = search (std_rules, map_of_map)

pub values_are : (es : List (WorldKey × WorldItem)) → map (λ e. e.1) (planned_entries es) ≡ map planned_item (map (λ e. e.1) es)
values_are [] = refl
values_are (e ∷ es) = ap (λ xs. planned_item e.1 ∷ xs) (values_are es)

pub items_are : (w : World) → plan.items_of (planned_world w) ≡ map planned_item (items_of w)
items_are w = (λ i. values_are w.imports.entries i ++ values_are w.exports.entries i) ∙ sym (append_of_map planned_item (values w.imports) (values w.exports))

pub item_functions_are : (xs : List WorldItem) → filter_map plan.item_function (map planned_item xs) ≡ map planned_function (filter_map item_function xs)
item_functions_are [] = refl
item_functions_are (x ∷ xs) = ap (cons_option (plan.item_function (planned_item x))) (item_functions_are xs) ∙ (search std_rules)

pub world_functions_are : (w : World) → world_functions (planned_world w) ≡ map planned_function (functions_of_world w)
world_functions_are w = ap (filter_map plan.item_function) (items_are w) ∙ item_functions_are (items_of w)

module _ (r : Resolve) (m : ℕ) (test : TypeOwner → PlannedFunction → Bool) (rule : TypeOwner → Function → Bool)
    (weaker : (o : TypeOwner) (f : Function) → test o (planned_function f) ≡ true → rule o f ≡ true) (pass : FunctionsPass (plan_of r m) test) where
  pub interface_holds : (n : ℕ) (i : Interface) → interface_at r n ≡ Some i → list_all (rule (as_interface n)) (functions_of_interface i) ≡ true
  interface_holds n i e = search (std_rules, all_built, functions_are, each_there)

  pub world_holds : (n : ℕ) (w : World) → world_at r n ≡ Some w → list_all (rule (as_world n)) (functions_of_world w) ≡ true
  world_holds n w e = search (std_rules, all_built, world_functions_are, each_there)

  pub interfaces_pass : each_from (λ n i. list_all (rule (as_interface n)) (functions_of_interface i)) 0 r.interfaces.items ≡ true
  interfaces_pass = each_by_number (λ n i. list_all (rule (as_interface n)) (functions_of_interface i)) r.interfaces.items interface_holds

  pub worlds_pass : each_from (λ n w. list_all (rule (as_world n)) (functions_of_world w)) 0 r.worlds.items ≡ true
  worlds_pass = each_by_number (λ n w. list_all (rule (as_world n)) (functions_of_world w)) r.worlds.items world_holds

-- the items of a world stand as the plan asks
module _ (r : Resolve) (m : ℕ) (is : IsPlan (plan_of r m)) where
  pub imports_there : (n : ℕ) (w : World) → world_at r n ≡ Some w → list_all (λ e. import_stands (plan_of r m) n (planned_key e.0, planned_item e.1)) w.imports.entries ≡ true
  imports_there n w e = sym (list_all-map (import_stands (plan_of r m) n) (λ e. (planned_key e.0, planned_item e.1)) w.imports.entries)
      ∙ each_there planned_world (λ n w. list_all (import_stands (plan_of r m) n) w.imports) r.worlds.items is.imports_stand n w e

  pub exports_there : (n : ℕ) (w : World) → world_at r n ≡ Some w → list_all (λ e. export_stands (plan_of r m) (planned_key e.0, planned_item e.1)) w.exports.entries ≡ true
  exports_there n w e = search (std_rules, list_all-map, plan_of, all_there)

-- ---- the parts of a kind

-- each part of a form passes
abbrev pub formed_pass : (ℕ → Bool) → PlannedKind → Bool
formed_pass p (formed form ks) = list_all p ks
formed_pass p _ = true

module _ (p : ℕ → Bool) (q : ValueType → Bool) (weaker : (t : ValueType) → p (part_of t) ≡ true → q t ≡ true) where
  pub parts_pass : (ts : List ValueType) → list_all p (map part_of ts) ≡ true → list_all q ts ≡ true
  parts_pass ts h = all_built part_of p q weaker ts h

  result_pass : (ok err : Option ValueType) → list_all p (given_parts (ok ∷ err ∷ [])) ≡ true → list_all q (option_to_list ok ++ option_to_list err) ≡ true
  result_pass x y h = search std_rules

  option_pass : (o : Option ValueType) → list_all p (given_parts (o ∷ [])) ≡ true → list_all q (option_to_list o) ≡ true
  option_pass x h = search std_rules

  pub members_pass : (k : TypeDefKind) → formed_pass p (planned_kind k) ≡ true → list_all q (member_types k) ≡ true
  members_pass x h = search (std_rules, parts_pass, map_of_map, given_all, result_pass, option_pass)

-- ---- the functions among the entries of a world

module _ (p : Function → Bool) where
  given_passes : (o : Option Function) → list_all p (option_to_list o) ≡ passes p o
  given_passes x = search std_rules

  pub entries_pass : (w : World) → list_all p (functions_of_world w) ≡ true
      → (list_all (λ e. passes p (item_function e.1)) w.imports.entries ≡ true) × (list_all (λ e. passes p (item_function e.1)) w.exports.entries ≡ true)
  entries_pass w h = search (std_rules, list_all-append, list_all_filter_map, same_all, given_passes, list_all-map, first_true, second_true)
