-- What is written of functions of resources.
use Rattle.std.proofs.Common.{rules as std_rules, ◌≡◌, sym, ap, Bool, true, false, ◌&&◌, ◌++◌, ◌==◌, List, [], ◌∷◌, length, map, drop, Option, None}
use Rattle.std.proofs.lemmas.List.Folds.{flat_map-map}
use Rattle.std.specs.{Prelude.option_map, Prelude.if◌then◌else◌, Borrow.Bor, List.flat_map, List.list_all, Option.option_map_or}
use Rattle.wit_model.specs.declared.model.{Resolve.Resolve, Function.Function, FunctionKind.FunctionKind, TypeId.TypeId, «Type».«Type» as ValueType}
use Rattle.wit_model.specs.{Calls.item_name, Names.is_label, Rules.is_own_of, Rules.type_is, Rules.passes}
use Rattle.print_grammar.specs.{Calls.prefix_calls, Calls.resource_body_calls, Calls.resource_member_calls}
use Rattle.print_grammar.specs.WellNamed.{is_well_param, is_well_prefix, is_well_resource_member, is_well_signature, is_well_type}
use Rattle.print_items.specs.Shown.{constructor_result, function_prefix, is_method, shown_param, shown_params, shown_resource_member, shown_signature, shown_type}
use Rattle.print_items.specs.DeclaredCalls.{bare_member_calls}
use Rattle.print_output.specs.OutputCall.OutputCall.{IndentEnd, IndentStart}
use Rattle.base_lemmas.proofs.Bools.{left_of, right_of}
use Rattle.wit_model.specs.declared.model.FunctionKind.TheVariants as call

module _ (r : Resolve) (id : TypeId) where
  owned : (o : Option ValueType) → option_map_or (type_is r (is_own_of id.0)) o false ≡ true → constructor_result r id o ≡ None
  owned x h = search std_rules

  other : (o : Option ValueType) → option_map_or (type_is r (is_own_of id.0)) o false ≡ false → option_map (shown_type r) o ≡ constructor_result r id o
  other x h = search std_rules

  -- its parameters are all written
  pub constructor_params : (f : Function) → f.kind ≡ call.Constructor id → shown_params r f ≡ map (shown_param r) f.params.items
  constructor_params f e = ap (λ k. map (shown_param r) (if is_method k then drop 1 f.params.items else f.params.items)) e

  -- and are well named, as its result
  pub constructor_well : (f : Function) → f.kind ≡ call.Constructor id → is_well_resource_member (shown_resource_member r f) ≡ true → (list_all is_well_param (shown_params r f) ≡ true)
      × (passes is_well_type (constructor_result r id f.result) ≡ true)
  constructor_well f e well = search (std_rules, right_of, left_of)

-- whether a function is a constructor
abbrev pub is_constructor : FunctionKind → Bool
is_constructor (call.Constructor id) = true
is_constructor kind = false

module _ (r : Resolve) (f : Function) (well : is_well_resource_member (shown_resource_member r f) ≡ true) where
  -- any other function of a resource has a name
  pub member_named : is_constructor f.kind ≡ false → (is_label (item_name f) && is_well_signature (shown_signature r f)) ≡ true
  member_named other = search (std_rules, right_of)

  pub member_prefix : is_well_prefix (function_prefix f) ≡ true
  member_prefix = search (std_rules, left_of)

  -- with what stands in front of it
  pub member_whole : (emits : Bool) → prefix_calls emits (function_prefix f) ++ bare_member_calls (shown_resource_member r f) ≡ resource_member_calls emits (shown_resource_member r f)
  member_whole emits = search std_rules

-- ---- a resource's functions in a block

pub block_of : (emits : Bool) (r : Resolve) (fs : List (Bor Function)) → false ≡ (length fs == 0)
    → IndentStart ∷ (flat_map (λ f. resource_member_calls emits (shown_resource_member r f.now)) fs ++ (IndentEnd ∷ [])) ≡ resource_body_calls emits (map (λ f. shown_resource_member r f.now) fs)
block_of emits r [] some = absurd cc
block_of emits r (f ∷ fs) some = ap (λ calls. IndentStart ∷ (calls ++ (IndentEnd ∷ []))) (sym (flat_map-map (resource_member_calls emits) (λ g. shown_resource_member r g.now) (f ∷ fs)))
