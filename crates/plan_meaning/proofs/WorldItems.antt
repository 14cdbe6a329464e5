-- Items of worlds stand under their keys.
use Rattle.std.proofs.Common.{rules as std_rules, ◌≡◌, refl, ℕ, true, ◌&&◌}
use Rattle.std.proofs.lemmas.{Bool.and_from as both, Option.slice_get-map as get_of_map}
use Rattle.std.specs.{List.list_all}
use Rattle.wit_model.specs.declared.model.{Resolve.Resolve, WorldKey.WorldKey, WorldItem.WorldItem, TypeOwner.TypeOwner}
use Rattle.wit_model.specs.{Text.Text, Text.text_of, Lookup.type_at, Valid.Keeps, Valid.world_items, Valid.as_world}
use Rattle.wit_model.specs.{Parts.same_owner, Rules.passes, Rules.is_id, Rules.text_is}
use Rattle.wit_model.proofs.{Entries.worlds_keep, RulesLemmas.each_by_number}
use Rattle.plan_meaning.specs.{PlanRules.IsPlan, Built.planned_key, Built.planned_item}
use Rattle.plan_meaning.proofs.{Lists.no_true, Listed.there, Listed.passes_weaker, Listed.bears_is, FunctionRules.imports_there, FunctionRules.exports_there}
use Rattle.plan_meaning.proofs.{Words.plan_of, KindRules.has_text}
use Rattle.base_lemmas.proofs.{Bools.left_of as first_true, Bools.right_of as second_true, Elements.all_weaker}
use Rattle.wit_model.specs.declared.model.WorldKey.TheVariants as key
use Rattle.wit_model.specs.declared.model.WorldItem.TheVariants as item
use Rattle.wit_model.specs.Uses as uses
use Rattle.wit_model.specs.Rules as rules
use Rattle.plan_meaning.specs.Plan as plan
use Rattle.plan_meaning.specs.PlanRules as planned

pub item_interface_is : (x : WorldItem) → plan.item_interface (planned_item x) ≡ uses.item_interface x
item_interface_is x = search std_rules

module _ (r : Resolve) (m : ℕ) (is : IsPlan (plan_of r m)) where
  key_stands : (n : ℕ) (x : WorldItem) → (is_id n (plan.item_interface (planned_item x)) && planned.has_name (plan_of r m) n) ≡ true → rules.is_interface_key r n x ≡ true
  key_stands n x h = search (std_rules, both, item_interface_is, first_true, passes_weaker, has_text, there, get_of_map, second_true)

  -- a type of the owner, under its name
  pub own_type : (o : TypeOwner) (t : Text) (n : ℕ) → planned.is_type_of (plan_of r m) o (t, n) ≡ true → passes (λ def. text_is def.name t && same_owner def.owner o) (type_at r n) ≡ true
  own_type o t n h = search (std_rules, passes_weaker, bears_is, there, get_of_map)

  import_passes : (w : ℕ) (k : WorldKey) (x : WorldItem) → planned.import_stands (plan_of r m) w (planned_key k, planned_item x) ≡ true → rules.import_stands r w k x ≡ true
  import_passes w (key.Interface id) x h = key_stands id.0 x h
  import_passes w (key.Name name) (item.Type_ id) h = own_type (as_world w) (text_of name) id.0 (second_true _ _ h)
  import_passes w (key.Name name) _ h = refl

  pub world_items_kept : Keeps world_items r
  unfolding world_items
  world_items_kept = worlds_keep (λ r n w. list_all (λ e. rules.import_stands r n e.0 e.1) w.imports.entries && list_all (λ e. rules.export_stands r e.0 e.1) w.exports.entries) r
      (each_by_number _ _ (λ n w at. both _ _ (all_weaker _ _ (λ e k. import_passes n e.0 e.1 k) w.imports.entries (imports_there r m is n w at))
      (all_weaker _ _ (λ e k. (search (std_rules, key_stands, second_true, no_true))) w.exports.entries (exports_there r m is n w at))))
