-- Types of values have at most so many unnamed levels.
use Rattle.std.proofs.Common.{rules as std_rules, ◌≡◌, refl, sym, ap, ◌∙◌, ℕ, Bool, true, nat_le}
use Rattle.std.specs.List.{list_all}
use Rattle.wit_model.specs.declared.model.{Resolve.Resolve, TypeOwner.TypeOwner, Function.Function, «Type».«Type» as ValueType}
use Rattle.wit_model.specs.{Tree.levels, Types.trees_of, Parts.member_types, Parts.function_types, Valid.Keeps, Valid.depths}
use Rattle.wit_model.proofs.Checks.{keeps_three}
use Rattle.plan_meaning.specs.{Shapes.part_tree, Plan.PlannedKind, Plan.resource, Built.part_of, Built.planned_kind, Built.planned_type, Built.planned_function}
use Rattle.plan_meaning.specs.PlanRules.{IsPlan}
use Rattle.plan_meaning.proofs.{Lists.each_from_built, Words.plan_of, Words.part_tree_is, Words.trees_are, Words.function_parts_are}
use Rattle.plan_meaning.proofs.FunctionRules.{interfaces_pass, worlds_pass, formed_pass, parts_pass, members_pass}
use Rattle.wit_model.specs.Rules as rules
use Rattle.plan_meaning.specs.PlanRules as planned

module _ (r : Resolve) (m : ℕ) (is : IsPlan (plan_of r m)) where
  shallow : (t : ValueType) → planned.is_shallow (plan_of r m) (part_of t) ≡ true → rules.is_shallow r t ≡ true
  shallow t h = sym (ap (λ trees. nat_le (levels (part_tree trees (part_of t))) 100) (trees_are r m) ∙ ap (λ x. nat_le (levels x) 100) (part_tree_is (trees_of r) t)) ∙ h

  abbrev function_shallow : TypeOwner → Function → Bool
  function_shallow o f = list_all (rules.is_shallow r) (function_types f)

  function_passes : (o : TypeOwner) (f : Function) → planned.function_is_shallow (plan_of r m) (planned_function f) ≡ true → function_shallow o f ≡ true
  function_passes o f h = search (std_rules, parts_pass, plan_of, shallow, function_parts_are)

  as_formed : (k : PlannedKind) → planned.parts_are_shallow (plan_of r m) k ≡ formed_pass (planned.is_shallow (plan_of r m)) k
  as_formed resource = refl
  as_formed _ = refl

  pub depths_kept : Keeps depths r
  unfolding depths
  depths_kept = keeps_three depths r refl (interfaces_pass r m (λ o f. planned.function_is_shallow (plan_of r m) f) function_shallow function_passes is.functions_shallow)
      (worlds_pass r m (λ o f. planned.function_is_shallow (plan_of r m) f) function_shallow function_passes is.functions_shallow)
      (each_from_built planned_type (λ t. planned.parts_are_shallow (plan_of r m) t.kind) (λ def. list_all (rules.is_shallow r) (member_types def.kind))
      (λ def h. (members_pass (planned.is_shallow (plan_of r m)) (rules.is_shallow r) shallow def.kind (sym (as_formed (planned_kind def.kind)) ∙ h))) r.types.items is.depths)
