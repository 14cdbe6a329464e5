-- Shapes of kinds, and which kinds have names.
use Rattle.std.proofs.Common.{rules as std_rules, ◌≡◌, sym, ◌∙◌, ℕ, true, false, ◌&&◌, ◌||◌, not, Option, option_map, is_some, String}
use Rattle.std.proofs.lemmas.{Option.slice_get-map as get_of_map, Bool.and_from as both}
use Rattle.std.specs.declared.alloc.Global.{Global}
use Rattle.std.specs.Option.{option_map_or}
use Rattle.wit_model.specs.declared.model.{Resolve.Resolve, TypeDef.TypeDef, TypeDefKind.TypeDefKind, «Type».«Type» as ValueType}
use Rattle.wit_model.specs.{Text.optional_text, Uses.alias_target, Rules.passes, Valid.Keeps, Valid.shapes, Valid.named_kinds}
use Rattle.wit_model.proofs.{Entries.types_keep}
use Rattle.plan_meaning.specs.{PlanRules.IsPlan, PlanRules.is_key_part, Built.part_of, Built.planned_kind, Built.planned_type}
use Rattle.plan_meaning.proofs.{Lists.each_from_built, Words.plan_of, Words.alias_is}
use Rattle.base_lemmas.proofs.Bools.{left_of as first_true, right_of as second_true}
use Rattle.wit_model.specs.Rules as rules
use Rattle.plan_meaning.specs.PlanRules as planned

key_is : (t : ValueType) → is_key_part (part_of t) ≡ rules.is_map_key t
key_is x = search std_rules

named_is : (k : TypeDefKind) → planned.is_named_kind (planned_kind k) ≡ rules.is_named_kind k
named_is x = search std_rules

pub has_text : (o : Option (String Global)) → is_some (optional_text o) ≡ is_some o
has_text x = search std_rules

module _ (r : Resolve) (m : ℕ) (is : IsPlan (plan_of r m)) where
  pub shapes_kept : Keeps shapes r
  unfolding shapes
  shapes_kept = types_keep (λ r n def. rules.has_shape def.kind) r
      (each_from_built planned_type (λ t. planned.has_shape t.kind) (λ def. rules.has_shape def.kind) (λ def h. sym (search std_rules) ∙ h) r.types.items is.types_shaped)

  named_there : (o : Option TypeDef) → option_map_or (λ t. is_some t.name) (option_map planned_type o) false ≡ true → passes (λ def. is_some def.name) o ≡ true
  named_there x h = search std_rules

  target_named : (o : Option ℕ) → passes (planned.is_named_number (plan_of r m)) o ≡ true → passes (rules.is_named_number r) o ≡ true
  target_named x h = search (std_rules, named_there, get_of_map)

  kind_named : (def : TypeDef) → planned.kind_is_named (plan_of r m) (planned_type def) ≡ true
      → ((not (rules.is_named_kind def.kind) || is_some def.name) && passes (rules.is_named_number r) (alias_target def.kind)) ≡ true
  kind_named def h = search (std_rules, first_true, plan_of, second_true, both, named_is, has_text, target_named, alias_is)

  pub named_kinds_kept : Keeps named_kinds r
  unfolding named_kinds
  named_kinds_kept = types_keep (λ r n def. (not (rules.is_named_kind def.kind) || is_some def.name) && passes (rules.is_named_number r) (alias_target def.kind)) r
      (each_from_built planned_type (planned.kind_is_named (plan_of r m)) (λ def. (not (rules.is_named_kind def.kind) || is_some def.name) && passes (rules.is_named_number r) (alias_target def.kind))
      kind_named r.types.items is.kinds_named)
