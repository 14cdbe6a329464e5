-- Nothing stands in what is built from a plan but what the plan means.
use Rattle.std.proofs.Common.{rules as std_rules, ◌≡◌, refl, sym, ap, ◌∙◌, ℕ, Bool, true, false, ◌&&◌, ◌||◌, ◌==◌, List, [], ◌∷◌, map, filter_map, option_map, option_and_then, Option, Some, None, slice_get, unwrap_or, zero, suc, is_some, subst, String}
use Rattle.std.proofs.lemmas.Option.{slice_get-map as get_of_map}
use Rattle.std.specs.{Prelude.sum_by, List.list_all, List.list_any, Option.option_map_or, Option.option_eq}
use Rattle.std.specs.declared.alloc.Global.{Global}
use Rattle.wit_model.specs.declared.model.{Resolve.Resolve, Package.Package, Interface.Interface, World.World, Function.Function}
use Rattle.wit_model.specs.{Text.Text, Text.optional_text, Uses.has, Uses.items_of, Rules.is_id, Rules.in_list}
use Rattle.wit_model.specs.{Lookup.package_at, Lookup.interface_at, Lookup.world_at, Valid.IsValid, Valid.functions_of_interface, Valid.functions_of_world}
use Rattle.plan_meaning.specs.Plan.{Plan, PlannedWorld, number_under, package_in}
use Rattle.plan_meaning.specs.PlanRules.{HoldsNoMore, IsPackagePlan, IsWorldPlan}
use Rattle.plan_meaning.specs.Built.{IsBuilt, planned_function, planned_interface, planned_world, planned_package}
use Rattle.plan_meaning.specs.NothingElse.{is_part_of, TypesAreUsed, PackagesAreUsed, HoldsPackageAlone, HoldsWorldAlone}
use Rattle.plan_meaning.proofs.{Lists.any_get, Lists.each_there, FunctionRules.functions_are, FunctionRules.world_functions_are, PackageMeans.no_functions}
use Rattle.plan_meaning.proofs.{Words.plan_of, Words.kind_numbers_are, Words.function_numbers_are, KindRules.has_text, FunctionNames.unnamed as lacks_text}
use Rattle.plan_meaning.proofs.{Reaching.shown_somewhere, Reaching.shows_is, Reaching.world_among, Reaching.all_reached, Valid.plan_is, Valid.built_is_valid}
use Rattle.base_lemmas.proofs.{Bools.left_of as first_true, Bools.right_of as second_true, Elements.any_of_map, Lists.get_back}
use Rattle.wit_model.proofs.RulesLemmas.{items_of_map as some_items}
use Rattle.wit_model.specs.Parts as parts
use Rattle.wit_model.specs.Uses as uses
use Rattle.plan_meaning.specs.Plan as plan
use Rattle.plan_meaning.specs.PlanRules as planned

module _ (r : Resolve) (m : ℕ) where
  -- ---- types and packages

  same_any : {A : Type 0} (p q : A → Bool) → ((x : A) → p x ≡ q x) → (xs : List A) → list_any p xs ≡ list_any q xs
  same_any p q same xs = ap (λ test. list_any test xs) (λ i x. same x i)

  functions_have : (n : ℕ) (fs : List Function) → list_any (λ f. has (plan.function_numbers f) n) (map planned_function fs) ≡ list_any (λ f. has (parts.function_numbers f) n) fs
  functions_have n fs = search (std_rules, any_of_map, same_any, function_numbers_are)

  interfaces_have : (n : ℕ) → list_any (λ i. list_any (λ f. has (plan.function_numbers f) n) (planned.functions_of i)) (map planned_interface r.interfaces.items)
      ≡ list_any (λ i. list_any (λ f. has (parts.function_numbers f) n) (functions_of_interface i)) r.interfaces.items
  interfaces_have n = search (std_rules, any_of_map, same_any, functions_are, functions_have)

  worlds_have : (n : ℕ) → list_any (λ w. list_any (λ f. has (plan.function_numbers f) n) (planned.world_functions w)) (map planned_world r.worlds.items)
      ≡ list_any (λ w. list_any (λ f. has (parts.function_numbers f) n) (functions_of_world w)) r.worlds.items
  worlds_have n = search (std_rules, any_of_map, same_any, world_functions_are, functions_have)

  part_is : (n : ℕ) → planned.is_part (plan_of r m) n ≡ is_part_of r n
  part_is n = search (std_rules, any_of_map, same_any, kind_numbers_are, interfaces_have, worlds_have)

  pub types_used : HoldsNoMore (plan_of r m) → TypesAreUsed r
  types_used more k def e = search (std_rules, has_text, part_is, lacks_text, each_there, plan_of)

  pub packages_used : HoldsNoMore (plan_of r m) → PackagesAreUsed r m
  packages_used more k q e = search (std_rules, some_items, each_there)

  -- ---- one world

  module _ (is : IsWorldPlan (plan_of r m)) (w : World) (there : world_at r 0 ≡ Some w) (same : planned_world w ≡ is.world) where
    one_world : r.worlds.items ≡ w ∷ []
    one_world = go r.worlds.items is.alone there
      where
        go : (xs : List World) → map planned_world xs ≡ is.world ∷ [] → slice_get xs 0 ≡ Some w → xs ≡ w ∷ []
        go (x ∷ []) e h = ap (λ o. unwrap_or o x ∷ []) h
        go _ e h = absurd (let wrong : ⊥ = cc in wrong)

    item_by : (n : ℕ) (i : Interface) → interface_at r n ≡ Some i → (name : Option (String Global)) → i.name ≡ name → (test : Text → Bool) (rest : Bool) →
        option_map_or test (optional_text name) (rest && ((sum_by (planned.times_shown n) (map planned_world r.worlds.items) == 1)
        && list_all (λ x. (planned.times_shown n x == 0) || option_eq ◌==◌ x.package_ (option_map (λ id. id.0) i.package)) (map planned_world r.worlds.items))) ≡ true
        → planned.is_shown_in is.world n ≡ true
    item_by n i e None unnamed test rest h =
        let somewhere = any_get (λ x. planned.is_shown_in x n) (map planned_world r.worlds.items) (shown_somewhere n (map planned_world r.worlds.items) (first_true _ _ (second_true rest _ h))) in
        only somewhere.0 somewhere.1 (ap (λ xs. slice_get xs somewhere.0) (sym is.alone) ∙ somewhere.2) somewhere.3
      where
        only : (j : ℕ) (x : PlannedWorld) → slice_get (is.world ∷ []) j ≡ Some x → planned.is_shown_in x n ≡ true → planned.is_shown_in is.world n ≡ true
        only zero x e h = let one : is.world ≡ x = ap (λ o. unwrap_or o is.world) e in ap (λ y. planned.is_shown_in y n) one ∙ h
        only (suc j) x e h = absurd (let wrong : ⊥ = cc in wrong)
    item_by n i e (Some s) is_named test rest h = is.shows n (planned_interface i) (get_of_map planned_interface r.interfaces.items n ∙ ap (option_map planned_interface) e)
        (ap (λ o. is_some (optional_text o)) is_named)

    is_item : (n : ℕ) (i : Interface) → interface_at r n ≡ Some i → has (filter_map uses.item_interface (items_of w)) n ≡ true
    is_item n i e = sym (shows_is n w) ∙ (ap (λ y. planned.is_shown_in y n) same
        ∙ item_by n i e i.name refl (λ t. option_map_or (λ k. is_id n (number_under t k.interfaces)) (option_and_then (package_in (plan_of r m)) (option_map (λ id. id.0) i.package)) false)
        (option_map_or (in_list (map planned_package r.packages.items)) (option_map (λ id. id.0) i.package) false)
        (each_there planned_interface (planned.is_placed (plan_of r m)) r.interfaces.items is.plan.interfaces_placed n i e))

    pub world_alone : HoldsWorldAlone r m w
    world_alone = record { one = one_world; interfaces = is_item; packages = packages_used is.no_more; types = types_used is.no_more }

package_alone : (r : Resolve) (m : ℕ) → IsPackagePlan (plan_of r m) → IsValid r → (q : Package) → package_at r m ≡ Some q → HoldsPackageAlone r m q
package_alone r m is v q at = search (std_rules, all_reached, world_among, no_functions, packages_used, types_used)

pub package_holds_alone : (p : Plan) (r : Resolve) → IsPackagePlan p → IsBuilt p r → (q : Package) → package_at r p.main ≡ Some q → HoldsPackageAlone r p.main q
package_holds_alone p r is built = package_alone r p.main (subst IsPackagePlan (sym (plan_is p r built)) is) (built_is_valid p r is.plan built)

world_by : (r : Resolve) (m : ℕ) → IsWorldPlan (plan_of r m) → (w : World) → world_at r 0 ≡ Some w → HoldsWorldAlone r m w
world_by r m is w there =
    let first = get_back planned_world r.worlds.items 0 is.world (ap (λ xs. slice_get xs 0) is.alone) in
    world_alone r m is w there (ap planned_world (sym (ap (λ o. unwrap_or o first.0) (sym first.1 ∙ there))) ∙ first.2)

pub world_holds_alone : (p : Plan) (r : Resolve) → IsWorldPlan p → IsBuilt p r → (w : World) → world_at r 0 ≡ Some w → HoldsWorldAlone r p.main w
world_holds_alone p r is built = world_by r p.main (subst IsWorldPlan (sym (plan_is p r built)) is)
