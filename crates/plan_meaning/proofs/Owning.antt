-- What is met from types and functions of an owner belongs to it.
use Rattle.std.proofs.Common.{rules as std_rules, ◌≡◌, refl, sym, ap, ◌∙◌, ℕ, true, false, ◌&&◌, ◌||◌, not, nat_le, filter_map, is_some}
use Rattle.std.proofs.lemmas.Bool.{and_from as both}
use Rattle.std.specs.{List.list_all, Option.option_map_or}
use Rattle.wit_model.specs.declared.model.{Resolve.Resolve, TypeDef.TypeDef, TypeOwner.TypeOwner, Function.Function}
use Rattle.wit_model.specs.{Lookup.interface_at, Lookup.type_at, Uses.owner_interface, Valid.Keeps, Valid.owners, Parts.same_owner, Types.number_of}
use Rattle.wit_model.proofs.{Lists.list_all_filter_map, Owners.used_within, Checks.keeps_three, RulesLemmas.each_by_number}
use Rattle.plan_meaning.specs.{Plan.type_in, PlanRules.IsPlan, Built.planned_type, Built.planned_function}
use Rattle.plan_meaning.proofs.{Lists.same_or, Lists.each_from_built, Lists.or_there, Lists.each_there, KindRules.has_text}
use Rattle.plan_meaning.proofs.Words.{plan_of, alias_is, value_numbers_are, has_owner_is, used_are, used_by_kind_is, interfaces_used_are}
use Rattle.plan_meaning.proofs.FunctionRules.{worlds_pass, interface_holds}
use Rattle.wit_model.specs.declared.model.TypeOwner.TheVariants as owner
use Rattle.wit_model.specs.Parts as parts
use Rattle.wit_model.specs.Rules as rules
use Rattle.plan_meaning.specs.Plan as plan
use Rattle.plan_meaning.specs.PlanRules as planned

module _ (r : Resolve) (m : ℕ) where
  other_owner : (o : TypeOwner) (def : TypeDef) → (not (same_owner def.owner o) && option_map_or (planned.has_name (plan_of r m)) (owner_interface def.owner) false)
      ≡ (not (same_owner def.owner o) && option_map_or (λ i. option_map_or (λ other. is_some other.name) (interface_at r i) false) (owner_interface def.owner) false)
  other_owner o def = search (std_rules, same_or, plan_of, or_there, has_text)

  target_is : (o : TypeOwner) (n : ℕ)
      → option_map_or (λ u. not (same_owner u.owner o) && option_map_or (planned.has_name (plan_of r m)) (owner_interface u.owner) false) (type_in (plan_of r m) n) false
      ≡ option_map_or (λ target. not (same_owner target.owner o) && option_map_or (λ i. option_map_or (λ other. is_some other.name) (interface_at r i) false) (owner_interface target.owner) false)
      (type_at r n) false
  target_is o = search (std_rules, or_there, plan_of, other_owner)

  use_is : (def : TypeDef) → planned.is_use (plan_of r m) (planned_type def) ≡ rules.is_use r def
  use_is def = search (std_rules, plan_of r m, alias_is def.kind, same_or, is_some, target_is def.owner)

  type_stays_is : (def : TypeDef) → planned.type_stays (plan_of r m) (planned_type def) ≡ rules.type_stays r def
  type_stays_is def = λ i. same_owner def.owner owner.None
      || (list_all (λ n. has_owner_is r m def.owner n i) (used_by_kind_is r m def.kind i) || (has_text def.name i && use_is def i))

  stays : (o : TypeOwner) (f : Function) → planned.function_stays (plan_of r m) o (planned_function f) ≡ true → rules.function_stays r o f ≡ true
  stays o f h = sym (ap (λ ns. list_all (plan.has_owner (plan_of r m) o) (plan.used_by_numbers (plan_of r m) ns)) (value_numbers_are f)
      ∙ (λ i. list_all (λ n. has_owner_is r m o n i) (used_are r m (filter_map number_of (parts.function_types f)) i))) ∙ h

  module _ (is : IsPlan (plan_of r m)) where
    pub owners_kept : Keeps owners r
    unfolding owners
    owners_kept = keeps_three owners r refl (each_by_number _ _ (λ n i e. both _ _ (interface_holds r m (planned.function_stays (plan_of r m)) (rules.function_stays r) stays is.functions_stay n i e)
        (search (std_rules, used_within r n i e, list_all_filter_map, nat_le, interfaces_used_are r m i, each_there, plan_of r m))))
        (worlds_pass r m (planned.function_stays (plan_of r m)) (rules.function_stays r) stays is.functions_stay)
        (each_from_built planned_type (planned.type_stays (plan_of r m)) (rules.type_stays r) (λ def h. sym (type_stays_is def) ∙ h) r.types.items is.types_stay)
