-- Every number is in range of its list, and no list is too long.
use Rattle.std.proofs.Common.{rules as std_rules, ◌≡◌, sym, ap, ◌∙◌, ℕ, ◌<◌, Bool, true, false, ◌&&◌, nat_lt, nat_le, List, length, map, option_map, option_and_then, Option, Some, slice_get, is_some, String, arith}
use Rattle.std.proofs.lemmas.{Bool.eqb-true, Bool.and_from as both, Bool.Decides.nat_tests, List.Folds.list_all-map, Option.slice_get_within}
use Rattle.std.specs.declared.alloc.Global.{Global}
use Rattle.std.specs.{List.list_all, Option.option_map_or}
use Rattle.indexmap.specs.IndexMap.{values}
use Rattle.wit_model.specs.declared.model.{Resolve.Resolve, PackageId.PackageId, WorldKey.WorldKey, WorldItem.WorldItem, TypeOwner.TypeOwner, Function.Function}
use Rattle.wit_model.specs.{Text.Text, Text.text_of, Text.optional_text, Parts.same_owner}
use Rattle.wit_model.specs.Rules.{in_list, passes, each_from, is_id, package_number, key_in_range, item_in_range, entries_in_range, owner_in_range}
use Rattle.wit_model.specs.Valid.{Keeps, numbers_in_range, is_place, as_interface, item_function}
use Rattle.wit_model.proofs.{Checks.keeps_lists, RulesLemmas.each_at, RulesLemmas.each_by_number}
use Rattle.plan_meaning.specs.{Plan.PlannedPackage, Plan.package_in, PlanRules.IsPlan, PlanRules.fits, PlanRules.bears}
use Rattle.plan_meaning.specs.Built.{planned_type, planned_function, planned_interface, planned_world, planned_package, planned_key, planned_item}
use Rattle.plan_meaning.proofs.{Lists.all_built, Lists.no_true, Lists.each_there, Words.plan_of, Words.kind_numbers_are, Words.function_numbers_are}
use Rattle.plan_meaning.proofs.FunctionRules.{entries_pass, interface_holds, world_holds, imports_there, exports_there}
use Rattle.plan_meaning.proofs.Listed.{in_range, interface_listed, world_listed, members_pass}
use Rattle.base_lemmas.proofs.{Bools.left_of as first_true, Bools.right_of as second_true, Lists.given-some as some_given, Lists.length_of_map}
use Rattle.base_lemmas.proofs.Elements.{all_two, all_weaker}
use Rattle.wit_model.specs.declared.model.TypeOwner.TheVariants as owner
use Rattle.wit_model.specs.Parts as parts
use Rattle.wit_model.specs.Rules as rules
use Rattle.plan_meaning.specs.Plan as plan
use Rattle.plan_meaning.specs.PlanRules as planned

-- ---- lists that fit

place_there : {A B : Type 0} (g : A → B) (xs : List A) → fits (map g xs) ≡ true → (n : ℕ) (x : A) → slice_get xs n ≡ Some x → is_place n ≡ true
place_there g xs h n x e = grind (arith, nat_tests, (slice_get_within xs n x e), (ap (λ l. nat_le l 4294967295) (sym (length_of_map g xs)) ∙ h))

-- ---- what has to stand there

mapped_range : {A B : Type 0} (g : A → B) (xs : List A) (n : ℕ) → in_list (map g xs) n ≡ true → in_list xs n ≡ true
mapped_range g xs n h = ap (nat_lt n) (sym (length_of_map g xs)) ∙ h

found_range : {A B : Type 0} (g : A → B) (xs : List A) (n : ℕ) (test : B → Bool) → option_map_or test (slice_get (map g xs) n) false ≡ true → in_list xs n ≡ true
found_range g xs n test h = mapped_range g xs n (in_range (map g xs) n (some_given test (slice_get (map g xs) n) h))

-- a number of a smaller one
below : (n l : ℕ) → n < l → (ns : List ℕ) → list_all (λ k. nat_lt k n) ns ≡ true → list_all (λ k. nat_lt k l) ns ≡ true
below n l less ns h = all_weaker (λ k. nat_lt k n) (λ k. nat_lt k l) (λ k e. grind (arith, nat_tests, less, e)) ns h

module _ (r : Resolve) (m : ℕ) (is : IsPlan (plan_of r m)) where
  package_found : (test : PlannedPackage → Bool) (o : Option PackageId) → option_map_or test (option_and_then (package_in (plan_of r m)) (option_map (λ id. id.0) o)) false ≡ true
      → passes (in_list r.packages.items) (package_number o) ≡ true
  package_found test x h = search (std_rules, found_range)

  package_inline : (o : Option PackageId) → option_map_or (in_list (map planned_package r.packages.items)) (option_map (λ id. id.0) o) false ≡ true
      → passes (in_list r.packages.items) (package_number o) ≡ true
  package_inline x h = search (std_rules, mapped_range)

  interface_package : (test : Text → PlannedPackage → Bool) (rest : Bool) (name : Option (String Global)) (o : Option PackageId)
      → option_map_or (λ t. option_map_or (test t) (option_and_then (package_in (plan_of r m)) (option_map (λ id. id.0) o)) false) (optional_text name)
      (option_map_or (in_list (map planned_package r.packages.items)) (option_map (λ id. id.0) o) false && rest) ≡ true → passes (in_list r.packages.items) (package_number o) ≡ true
  interface_package test rest x o h = search (std_rules, package_found, package_inline, first_true)

  type_found : (o : TypeOwner) (t : Text) (n : ℕ) → planned.is_type_of (plan_of r m) o (t, n) ≡ true → in_list r.types.items n ≡ true
  type_found o t n h = found_range planned_type r.types.items n (λ x. bears t x.name && same_owner x.owner o) h

  function_range : (o : TypeOwner) (f : Function) → planned.function_in_range (plan_of r m) (planned_function f) ≡ true → rules.function_in_range r f ≡ true
  function_range o f h = search (std_rules, all_weaker, mapped_range, function_numbers_are)

  -- ---- packages and interfaces

  packages_range : each_from (λ n p. is_place n && (list_all (λ id. in_list r.interfaces.items id.0) (values p.interfaces) && list_all (λ id. in_list r.worlds.items id.0) (values p.worlds))) 0
      r.packages.items ≡ true
  packages_range = each_by_number _ _ (λ n p e. both _ _ (place_there planned_package r.packages.items is.packages_fit n p e)
      ((λ j. list_all-map (λ id. in_list r.interfaces.items id.0) (λ e. e.1) p.interfaces.entries j && list_all-map (λ id. in_list r.worlds.items id.0) (λ e. e.1) p.worlds.entries j)
      ∙ each_at (λ n p. list_all (λ e. in_list r.interfaces.items e.1.0) p.interfaces.entries && list_all (λ e. in_list r.worlds.items e.1.0) p.worlds.entries) r.packages.items n p
      (members_pass r m is (λ n e. in_list r.interfaces.items e.1.0) (λ n e. in_list r.worlds.items e.1.0) (λ n e h. (interface_listed r m is n e h).0) (λ n e h. (world_listed r m is n e h).0)) e))

  interfaces_range : each_from (λ n i. is_place n && (passes (in_list r.packages.items) (package_number i.package)
      && (list_all (λ id. in_list r.types.items id.0) (values i.types) && list_all (rules.function_in_range r) (values i.functions)))) 0 r.interfaces.items ≡ true
  interfaces_range = each_by_number _ _ (λ n i e. both _ _ (place_there planned_interface r.interfaces.items is.interfaces_fit n i e)
      (both _ _ (interface_package (λ t k. is_id n (plan.number_under t k.interfaces)) _ i.name i.package
      (each_there planned_interface (planned.is_placed (plan_of r m)) r.interfaces.items is.interfaces_placed n i e))
      (both _ _ (list_all-map (λ id. in_list r.types.items id.0) (λ e. e.1) i.types.entries
      ∙ all_built (λ e. (text_of e.0, e.1.0)) (planned.is_type_of (plan_of r m) (as_interface n)) (λ e. in_list r.types.items e.1.0) (λ e k. type_found (as_interface n) (text_of e.0) e.1.0 k)
      i.types.entries (each_there planned_interface (λ n i. list_all (planned.is_type_of (plan_of r m) (as_interface n)) i.types) r.interfaces.items is.interface_types n i e))
      (interface_holds r m (λ o f. planned.function_in_range (plan_of r m) f) (λ o f. rules.function_in_range r f) function_range is.functions_in_range n i e))))

  -- ---- worlds

  key_found : (n : ℕ) (x : WorldItem) → (is_id n (plan.item_interface (planned_item x)) && planned.has_name (plan_of r m) n) ≡ true → in_list r.interfaces.items n ≡ true
  key_found n x h = found_range planned_interface r.interfaces.items n (λ i. is_some i.name) (second_true (is_id n (plan.item_interface (planned_item x))) _ h)

  under_path : (n : ℕ) (x : WorldItem) → (is_id n (plan.item_interface (planned_item x)) && planned.has_name (plan_of r m) n) ≡ true → passes (rules.function_in_range r) (item_function x) ≡ true
      → item_in_range r x ≡ true
  under_path n x h f = search (std_rules, eqb-true, first_true, key_found, no_true)

  import_range : (n : ℕ) (e : WorldKey × WorldItem) → planned.import_stands (plan_of r m) n (planned_key e.0, planned_item e.1) ≡ true → passes (rules.function_in_range r) (item_function e.1) ≡ true
      → (key_in_range r e.0 && item_in_range r e.1) ≡ true
  import_range n y h f = search (std_rules, both, key_found, under_path, mapped_range, second_true, type_found)

  export_range : (e : WorldKey × WorldItem) → planned.export_stands (plan_of r m) (planned_key e.0, planned_item e.1) ≡ true → passes (rules.function_in_range r) (item_function e.1) ≡ true
      → (key_in_range r e.0 && item_in_range r e.1) ≡ true
  export_range y h f = search (std_rules, both, key_found, under_path, mapped_range, second_true, no_true)

  worlds_range : each_from (λ n w. is_place n && (passes (in_list r.packages.items) (package_number w.package) && (entries_in_range r w.imports.entries && entries_in_range r w.exports.entries))) 0
      r.worlds.items ≡ true
  worlds_range = each_by_number _ _ (λ n w e.
      let fs = entries_pass (rules.function_in_range r) w
      (world_holds r m (λ o f. planned.function_in_range (plan_of r m) f) (λ o f. rules.function_in_range r f) function_range is.functions_in_range n w e) in
      both _ _ (place_there planned_world r.worlds.items is.worlds_fit n w e)
      (both _ _ (package_found (λ k. is_id n (plan.number_under (text_of w.name) k.worlds)) w.package
      (each_there planned_world (planned.is_world_placed (plan_of r m)) r.worlds.items is.worlds_placed n w e))
      (both _ _ (all_two (λ x. planned.import_stands (plan_of r m) n (planned_key x.0, planned_item x.1)) (λ x. passes (rules.function_in_range r) (item_function x.1))
      (λ x. key_in_range r x.0 && item_in_range r x.1) (import_range n) w.imports.entries (imports_there r m is n w e) fs.0)
      (all_two (λ x. planned.export_stands (plan_of r m) (planned_key x.0, planned_item x.1)) (λ x. passes (rules.function_in_range r) (item_function x.1))
      (λ x. key_in_range r x.0 && item_in_range r x.1) export_range w.exports.entries (exports_there r m is n w e) fs.1))))

  -- ---- types

  owned : (n : ℕ) (name : Text) (o : TypeOwner) → planned.is_listed_in (plan_of r m) n name o ≡ true → owner_in_range r o ≡ true
  owned n name x h = search (std_rules, found_range, no_true)

  unowned : (o : TypeOwner) → same_owner o owner.None ≡ true → owner_in_range r o ≡ true
  unowned x h = search std_rules

  owner_by : (n : ℕ) (name : Option (String Global)) (o : TypeOwner) → option_map_or (λ t. planned.is_listed_in (plan_of r m) n t o) (optional_text name) (same_owner o owner.None) ≡ true
      → owner_in_range r o ≡ true
  owner_by n x o h = search (std_rules, unowned, owned)

  types_range : each_from (λ n def. is_place n && (list_all (in_list r.types.items) (parts.kind_numbers def.kind) && owner_in_range r def.owner)) 0 r.types.items ≡ true
  types_range = each_by_number _ _ (λ n def e. both _ _ (place_there planned_type r.types.items is.types_fit n def e)
      (both _ _ (below n (length r.types.items) (slice_get_within _ n _ e) (parts.kind_numbers def.kind)
      (ap (list_all (λ k. nat_lt k n)) (sym (kind_numbers_are def.kind)) ∙ each_there planned_type (λ j t. list_all (λ k. nat_lt k j) (plan.kind_numbers t.kind)) r.types.items is.types_fall n def e))
      (owner_by n def.name def.owner (each_there planned_type (planned.is_listed (plan_of r m)) r.types.items is.types_listed n def e))))

  pub numbers_kept : Keeps numbers_in_range r
  unfolding numbers_in_range
  numbers_kept = keeps_lists numbers_in_range r packages_range interfaces_range worlds_range types_range
