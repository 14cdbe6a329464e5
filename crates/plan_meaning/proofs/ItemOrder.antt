-- What an item of a world uses stands before it.
use Rattle.std.proofs.Common.{rules as std_rules, ◌≡◌, refl, ap, ◌∙◌, ℕ, ◌&&◌, List, [], map, filter, filter_map, Option}
use Rattle.std.specs.List.{list_all}
use Rattle.wit_model.specs.declared.model.{Resolve.Resolve, World.World, WorldItem.WorldItem}
use Rattle.wit_model.specs.{Uses.has, Uses.items_of, Rules.each_after, Valid.Keeps, Valid.order_of_items, Valid.as_world}
use Rattle.wit_model.proofs.{Entries.worlds_keep, RulesLemmas.after_of_map}
use Rattle.plan_meaning.specs.{Plan.used_by_numbers, Built.planned_world, Built.planned_item, PlanRules.IsPlan}
use Rattle.plan_meaning.proofs.{Lists.each_built, Lists.or_there, FunctionRules.items_are, WorldItems.item_interface_is, TypeOrder.item_types_are}
use Rattle.plan_meaning.proofs.Words.{plan_of, function_numbers_are, has_owner_is, used_are, used_by_kind_is, interface_used_is, direct_uses_are}
use Rattle.base_lemmas.proofs.Lists.{filter_of_map}
use Rattle.wit_model.specs.declared.model.WorldItem.TheVariants as item
use Rattle.wit_model.specs.Parts as parts
use Rattle.wit_model.specs.Uses as uses
use Rattle.wit_model.specs.Rules as rules
use Rattle.plan_meaning.specs.Plan as plan
use Rattle.plan_meaning.specs.PlanRules as planned

pub item_interfaces_are : (xs : List WorldItem) → filter_map plan.item_interface (map planned_item xs) ≡ filter_map uses.item_interface xs
item_interfaces_are xs = filter_of_map plan.item_interface planned_item xs ∙ ap (λ (h : WorldItem → Option ℕ). filter_map h xs) (λ i x. item_interface_is x i)

module _ (r : Resolve) (m : ℕ) where
  interfaces_are : (x : WorldItem) → planned.used_interfaces (plan_of r m) (planned_item x) ≡ rules.used_interfaces r x
  interfaces_are x = search (std_rules, direct_uses_are, interface_used_is)

  types_are : (w : ℕ) (x : WorldItem) → planned.used_types (plan_of r m) w (planned_item x) ≡ rules.used_types r w x
  types_are w (item.Interface id stability docs external_id) = refl
  types_are w (item.Function f) = ap (λ ns. filter (plan.has_owner (plan_of r m) (as_world w)) (used_by_numbers (plan_of r m) ns)) (function_numbers_are f)
      ∙ (λ i. filter (λ n. has_owner_is r m (as_world w) n i) (used_are r m (parts.function_numbers f) i))
  types_are w (item.Type_ id) = search (std_rules, has_owner_is, or_there, plan_of, used_by_kind_is)

  before_is : (w : ℕ) (before : List WorldItem) (x : WorldItem) → planned.uses_stand_before (plan_of r m) w (map planned_item before) (planned_item x) ≡ rules.uses_stand_before r w before x
  before_is w before x = λ i. list_all (has (item_interfaces_are before i)) (interfaces_are x i) && list_all (has (item_types_are before i)) (types_are w x i)

  world_is : (n : ℕ) (w : World) → each_after (planned.uses_stand_before (plan_of r m) n) [] (plan.items_of (planned_world w)) ≡ each_after (rules.uses_stand_before r n) [] (items_of w)
  world_is n w = search (std_rules, plan_of r m, plan_of r m, items_are w, after_of_map (planned.uses_stand_before (plan_of r m) n) planned_item [] (items_of w), before_is)

  pub order_of_items_kept : IsPlan (plan_of r m) → Keeps order_of_items r
  unfolding order_of_items
  order_of_items_kept is = search (std_rules, worlds_keep, each_built, plan_of, world_is)
