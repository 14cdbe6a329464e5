-- Functions stand under their names, and those of a resource are named and shaped after it.
use Rattle.std.proofs.Common.{rules as std_rules, ◌≡◌, refl, sym, ap, ◌∙◌, ℕ, Bool, true, false, ◌&&◌, [], ◌∷◌, ◌++◌, Option, Some, None, is_none, is_some, String, codes}
use Rattle.std.proofs.lemmas.{List.Folds.list_all-append, List.Folds.list_all-map, Bool.and_from as both}
use Rattle.std.specs.{List.list_all, Option.option_map_or}
use Rattle.std.specs.declared.alloc.Global.{Global}
use Rattle.wit_model.specs.declared.model.{Resolve.Resolve, WorldItem.WorldItem, TypeDefKind.TypeDefKind, «Type».«Type» as ValueType, FunctionKind.FunctionKind}
use Rattle.wit_model.specs.declared.model.{World.World, WorldKey.WorldKey, TypeDef.TypeDef, TypeOwner.TypeOwner, Function.Function}
use Rattle.wit_model.specs.{Text.Text, Text.text_of, Text.text_eq, Text.optional_text, Tree.Form, Lookup.type_at, Lookup.world_at}
use Rattle.wit_model.specs.{Rules.passes, Rules.is_name_key}
use Rattle.wit_model.specs.{Types.number_of, Valid.Keeps, Valid.function_names, Valid.as_interface, Valid.as_world, Valid.item_function}
use Rattle.wit_model.proofs.{Checks.keeps_two, RulesLemmas.each_by_number}
use Rattle.plan_meaning.specs.{Plan.PlannedType, Plan.PlannedFunction, Plan.type_in, PlanRules.IsPlan}
use Rattle.plan_meaning.specs.Built.{part_of, given_parts, planned_kind, planned_type, planned_function, planned_interface, planned_key, planned_item}
use Rattle.plan_meaning.proofs.Lists.{then_there, or_there, or_of_map, same_or, all_built, all_there}
use Rattle.plan_meaning.proofs.{Words.plan_of, Words.number_part, Listed.passes_both}
use Rattle.plan_meaning.proofs.FunctionRules.{entries_pass, interface_holds, world_holds, imports_there, exports_there}
use Rattle.base_lemmas.proofs.{Elements.all_two}
use Rattle.wit_model.specs.Rules as rules
use Rattle.plan_meaning.specs.Plan as plan
use Rattle.plan_meaning.specs.PlanRules as planned

pub unnamed : (o : Option (String Global)) → is_none (optional_text o) ≡ is_none o
unnamed x = search std_rules

own_is : (n : ℕ) (k : TypeDefKind) → planned.is_own_kind n (planned_kind k) ≡ rules.is_own_kind n k
own_is n x = search std_rules

borrow_is : (n : ℕ) (k : TypeDefKind) → planned.is_borrow_kind n (planned_kind k) ≡ rules.is_borrow_kind n k
borrow_is n x = search std_rules

resource_itself : (k : TypeDefKind) → planned.is_resource_kind (planned_kind k) ≡ rules.is_resource_itself k
resource_itself x = search std_rules

own_of_is : (n : ℕ) (def : TypeDef) → planned.is_own_of n (planned_type def) ≡ rules.is_own_of n def
own_of_is n def = λ i. unnamed def.name i && own_is n def.kind i

borrow_of_is : (n : ℕ) (def : TypeDef) → planned.is_borrow_of n (planned_type def) ≡ rules.is_borrow_of n def
borrow_of_is n def = λ i. unnamed def.name i && borrow_is n def.kind i

module _ (r : Resolve) (m : ℕ) where
  -- a test of the type that a part is
  module _ (test : PlannedType → Bool) (rule : TypeDef → Bool) (same : (def : TypeDef) → test (planned_type def) ≡ rule def) where
    part_is : (t : ValueType) → planned.part_is (plan_of r m) test (part_of t) ≡ rules.type_is r rule t
    part_is t = ap (λ o. option_map_or (λ n. option_map_or test (type_in (plan_of r m) n) false) o false) (number_part t)
        ∙ same_or (λ n. option_map_or test (type_in (plan_of r m) n) false) (λ n. option_map_or rule (type_at r n) false) false (or_there test planned_type rule false same r.types.items) (number_of t)

  own_ok : (n : ℕ) (ok err : Option ValueType)
      → planned.has_own_ok (plan_of r m) n (plan.formed (Form.result_of (is_some ok) (is_some err)) (given_parts (ok ∷ err ∷ []))) ≡ option_map_or (rules.type_is r (rules.is_own_of n)) ok false
  own_ok n None err = refl
  own_ok n (Some t) err = part_is (planned.is_own_of n) (rules.is_own_of n) (own_of_is n) t

  has_own_ok_is : (n : ℕ) (k : TypeDefKind) → planned.has_own_ok (plan_of r m) n (planned_kind k) ≡ rules.has_own_ok r n k
  has_own_ok_is n x = search (std_rules, own_ok)

  result_of_own_is : (n : ℕ) (def : TypeDef) → planned.is_result_of_own (plan_of r m) n (planned_type def) ≡ rules.is_result_of_own r n def
  result_of_own_is n def = λ i. unnamed def.name i && has_own_ok_is n def.kind i

  constructs_is : (n : ℕ) (f : Function) → planned.constructs (plan_of r m) n (planned_function f) ≡ rules.constructs r n f
  constructs_is n f = search (std_rules, or_of_map, plan_of, same_or, part_is, own_of_is, result_of_own_is)

  takes_self_is : (n : ℕ) (f : Function) → planned.takes_self (plan_of r m) n (planned_function f) ≡ rules.takes_self r n f
  takes_self_is n f = search (std_rules, or_there, codes, plan_of, part_is, borrow_of_is)

  member_of_is : (n : ℕ) (name : Text) (f : Function) (k : FunctionKind) → planned.is_member_of (plan_of r m) n name (planned_function f) k ≡ rules.is_member_of r n name f k
  member_of_is n name f x = search (std_rules, constructs_is, takes_self_is)

  resource_name_is : (o : TypeOwner) (n : ℕ) → planned.resource_name (plan_of r m) o n ≡ rules.resource_name r o n
  resource_name_is o = search (std_rules, then_there, resource_itself)

  pub belongs : (o : TypeOwner) (f : Function) → planned.is_member (plan_of r m) o (planned_function f) ≡ true → rules.is_member r o f ≡ true
  belongs o f h = sym (search (std_rules, plan_of, resource_name_is, same_or, member_of_is)) ∙ h

  -- ---- keys

  module _ (is : IsPlan (plan_of r m)) where
    abbrev is_right : ℕ → WorldKey × WorldItem → Bool
    is_right n e = passes (λ f. is_name_key (text_of f.name) e.0 && rules.is_member r (as_world n) f) (item_function e.1)

    world_right : (n : ℕ) (w : World) → world_at r n ≡ Some w → list_all (is_right n) (w.imports.entries ++ w.exports.entries) ≡ true
    world_right n w at =
        let members = entries_pass (rules.is_member r (as_world n)) w (world_holds r m (planned.is_member (plan_of r m)) (rules.is_member r) belongs is.functions_belong n w at) in
        list_all-append (is_right n) w.imports.entries w.exports.entries ∙ both _ _
        (all_two (λ e. planned.import_stands (plan_of r m) n (planned_key e.0, planned_item e.1)) (λ e. passes (rules.is_member r (as_world n)) (item_function e.1)) (is_right n)
        (λ e a b. passes_both (λ f. is_name_key (text_of f.name) e.0) (rules.is_member r (as_world n)) _ (λ f x y. both _ _ x y) (item_function e.1) (search std_rules) b) w.imports.entries
        (imports_there r m is n w at) members.0) (all_two (λ e. planned.export_stands (plan_of r m) (planned_key e.0, planned_item e.1))
        (λ e. passes (rules.is_member r (as_world n)) (item_function e.1)) (is_right n)
        (λ e a b. passes_both (λ f. is_name_key (text_of f.name) e.0) (rules.is_member r (as_world n)) _ (λ f x y. both _ _ x y) (item_function e.1) (search std_rules) b) w.exports.entries
        (exports_there r m is n w at) members.1)

    pub function_names_kept : Keeps function_names r
    unfolding function_names
    function_names_kept = keeps_two function_names r refl refl
        (each_by_number (λ n i. function_names.interface_ r n i) r.interfaces.items (λ n i at. all_two (λ e. text_eq (text_of e.0) (text_of e.1.name)) (λ e. rules.is_member r (as_interface n) e.1)
        (λ e. text_eq (text_of e.0) (text_of e.1.name) && rules.is_member r (as_interface n) e.1) (λ e x y. both _ _ x y) i.functions.entries
        (all_built (λ e. (text_of e.0, planned_function e.1)) (λ (e : Text × PlannedFunction). text_eq e.0 e.1.name) (λ e. text_eq (text_of e.0) (text_of e.1.name)) (λ e k. k) i.functions.entries
        (all_there planned_interface (λ i. list_all (λ e. text_eq e.0 e.1.name) i.functions) r.interfaces.items is.function_keys n i at))
        (sym (list_all-map (rules.is_member r (as_interface n)) (λ e. e.1) i.functions.entries)
        ∙ interface_holds r m (planned.is_member (plan_of r m)) (rules.is_member r) belongs is.functions_belong n i at)))
        (each_by_number (λ n w. function_names.world_ r n w) r.worlds.items world_right)
