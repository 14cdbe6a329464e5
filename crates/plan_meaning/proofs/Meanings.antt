-- What a plan means, part by part, is what the `Resolve` means that is built from it.
use Rattle.std.proofs.Common.{rules as std_rules, ◌≡◌, ap, ◌∙◌, ℕ, List, map, option_map, Option, unwrap_or, String}
use Rattle.std.specs.declared.alloc.Global.{Global}
use Rattle.wit_model.specs.declared.model.{TypeId.TypeId, Resolve.Resolve, World.World, TypeDef.TypeDef}
use Rattle.wit_model.specs.declared.model.{Interface.Interface, WorldKey.WorldKey, WorldItem.WorldItem, «Type».«Type» as ValueType, Function.Function}
use Rattle.std.specs.{FinMap.from_entries}
use Rattle.wit_model.specs.{Text.Text, Text.text_of, Text.optional_text, Types.trees_of, Types.type_tree, Meant.no_type, Meant.no_interface, Meant.no_world}
use Rattle.wit_model.specs.{Meaning.FunctionMeaning}
use Rattle.plan_meaning.specs.{Shapes.part_tree, Plan.PlannedFunction, Plan.trees_in}
use Rattle.plan_meaning.specs.Built.{part_of, planned_type, planned_function, planned_interface, planned_world, planned_key, planned_item, planned_entries}
use Rattle.plan_meaning.proofs.{Lists.map_there, Lists.or_there, Words.plan_of, Words.part_tree_is, Words.trees_are, Words.declared_is, Words.path_is}
use Rattle.wit_model.specs.Lookup as lookup
use Rattle.wit_model.specs.Meant as meant
use Rattle.plan_meaning.specs.PlanMeaning as planned

-- what stands under names
module _ {X Y M : Type 0} (g : X → Y) (mean : Y → M) (meant : X → M) (same : (x : X) → mean (g x) ≡ meant x) where
  pub named_means : (es : List (String Global × X)) → map {B = Text × M} (λ (e : Text × Y). (e.0, mean e.1)) (map (λ e. (text_of e.0, g e.1)) es) ≡ map (λ e. (text_of e.0, meant e.1)) es
  named_means = map_there (λ (e : Text × Y). (e.0, mean e.1)) (λ (e : String Global × X). (text_of e.0, g e.1)) (λ e. (text_of e.0, meant e.1)) (λ e i. (text_of e.0, same e.1 i))

module _ (r : Resolve) (m : ℕ) where
  part_is : (t : ValueType) → part_tree (trees_in (plan_of r m)) (part_of t) ≡ type_tree r t
  part_is t = ap (λ trees. part_tree trees (part_of t)) (trees_are r m) ∙ part_tree_is (trees_of r) t

  result_is : (o : Option ValueType) → option_map (part_tree (trees_in (plan_of r m))) (option_map part_of o) ≡ option_map (type_tree r) o
  result_is x = search (std_rules, part_is)

  pub signature_is : (f : Function) → planned.signature_of (plan_of r m) (planned_function f) ≡ meant.signature_of r f
  signature_is f = search (std_rules, map_there, plan_of, part_is, result_is)

  pub function_is : (f : Function) → planned.function_meaning (plan_of r m) (planned_function f) ≡ meant.function_meaning r f
  function_is f = λ i. record { signature = signature_is f i; external_id = optional_text f.external_id }

  type_is : (def : TypeDef) → planned.type_meaning (plan_of r m) (planned_type def) ≡ meant.type_meaning r def
  type_is def = search (std_rules, trees_are, declared_is)

  pub type_at_is : (n : ℕ) → planned.type_meaning_in (plan_of r m) n ≡ meant.type_meaning_at r n
  type_at_is = or_there (planned.type_meaning (plan_of r m)) planned_type (meant.type_meaning r) no_type type_is r.types.items

  -- ---- interfaces

  abbrev pub planned_function_entry : Text × PlannedFunction → Text × FunctionMeaning
  planned_function_entry e = (e.0, planned.function_meaning (plan_of r m) e.1)

  abbrev pub meant_function_entry : String Global × Function → Text × FunctionMeaning
  meant_function_entry e = (text_of e.0, meant.function_meaning r e.1)

  pub functions_are : (i : Interface) → map planned_function_entry (planned_interface i).functions ≡ map meant_function_entry i.functions.entries
  functions_are i = named_means planned_function (planned.function_meaning (plan_of r m)) (meant.function_meaning r) function_is i.functions.entries

  pub interface_is : (i : Interface) → planned.interface_meaning (plan_of r m) (planned_interface i) ≡ meant.interface_meaning r i
  interface_is i =
      let types = named_means (λ (id : TypeId). id.0) (planned.type_meaning_in (plan_of r m)) (λ id. meant.type_meaning_at r id.0) (λ id. type_at_is id.0) i.types.entries in
      λ j. record { types = types j; functions = from_entries (functions_are i j) }

  pub interface_at_is : (n : ℕ) → planned.interface_meaning_in (plan_of r m) n ≡ meant.interface_meaning_at r n
  interface_at_is = or_there (planned.interface_meaning (plan_of r m)) planned_interface (meant.interface_meaning r) no_interface interface_is r.interfaces.items

  -- ---- worlds

  item_is : (x : WorldItem) → planned.item_meaning (plan_of r m) (planned_item x) ≡ meant.item_meaning r x
  item_is x = search (std_rules, path_is, interface_at_is, signature_is, type_at_is)

  external_is : (x : WorldItem) → planned.item_external_id (plan_of r m) (planned_item x) ≡ meant.item_external_id r x
  external_is x = search (std_rules, type_at_is)

  key_is : (k : WorldKey) → planned.key_text (plan_of r m) (planned_key k) ≡ lookup.key_text r k
  key_is x = search (std_rules, unwrap_or, path_is)

  entries_are : (es : List (WorldKey × WorldItem)) → planned.entries_meaning (plan_of r m) (planned_entries es) ≡ meant.entries_meaning r es
  entries_are = search (std_rules, map_there, plan_of, key_is, item_is, external_is)

  pub world_is : (w : World) → planned.world_meaning (plan_of r m) (planned_world w) ≡ meant.world_meaning r w
  world_is w = λ i. record { imports = entries_are w.imports.entries i; exports = entries_are w.exports.entries i }

  pub world_at_is : (n : ℕ) → planned.world_meaning_in (plan_of r m) n ≡ meant.world_meaning_at r n
  world_at_is = or_there (planned.world_meaning (plan_of r m)) planned_world (meant.world_meaning r) no_world world_is r.worlds.items
