-- What is shown of a function of a valid `Resolve` is well named.
use Rattle.std.proofs.Common.{rules as std_rules, ◌≡◌, refl, sym, ◌∙◌, Bool, true, ◌&&◌, ◌||◌, not, List, [], ◌∷◌, length, drop, Option, map}
use Rattle.std.proofs.lemmas.{List.Folds.list_all-append, Bool.and_from as both}
use Rattle.std.specs.{Prelude.option_map, Prelude.option_to_list, Prelude.if◌then◌else◌, List.list_all}
use Rattle.wit_model.specs.declared.model.{Resolve.Resolve, Function.Function, Param.Param, «Type».«Type» as ValueType}
use Rattle.wit_model.specs.{Text.text_of, Names.is_label, Lookup.resource_of, Valid.IsValid}
use Rattle.wit_model.specs.{Parts.function_types, Rules.function_in_range, Rules.function_labels, Rules.is_freestanding, Rules.passes}
use Rattle.print_items.specs.Shown.{shown_type, shown_param, shown_params, shown_signature, function_prefix, is_method}
use Rattle.print_grammar.specs.WellNamed.{is_well_type, is_well_param, is_well_signature, is_well_prefix}
use Rattle.print_uses.proofs.WellLists.{written_well}
use Rattle.print_items.proofs.{ShownWell.shown_prefix_well, TypesWell.is_below, TypesWell.below_of_numbers, TypesWell.shown_type_well}
use Rattle.base_lemmas.proofs.Bools.{left_of, right_of}

module _ (r : Resolve) (valid : IsValid r) where
  -- a parameter with a label and a type in range
  abbrev known_param : Param → Bool
  known_param p = is_label (text_of p.name) && is_below (length r.types.items) p.ty

  params_known : (ps : List Param) → list_all is_label (map (λ p. text_of p.name) ps) ≡ true → list_all (is_below (length r.types.items)) (map (λ p. p.ty) ps) ≡ true → list_all known_param ps ≡ true
  params_known [] h g = refl
  params_known (p ∷ ps) h g = search (std_rules, left_of, is_below, both, right_of, params_known ps (right_of (is_label (text_of p.name)) _ h) (right_of (is_below (length r.types.items) p.ty) _ g))

  params_well : (ps : List Param) → list_all known_param ps ≡ true → list_all is_well_param (map (shown_param r) ps) ≡ true
  params_well [] h = refl
  params_well (p ∷ ps) h = search (std_rules, left_of, both, shown_type_well, right_of, params_well ps (right_of (known_param p) _ h))

  -- So is a type that may be left out.
  pub optional_type_well : (o : Option ValueType) → list_all (is_below (length r.types.items)) (option_to_list o) ≡ true → passes is_well_type (option_map (shown_type r) o) ≡ true
  optional_type_well x h = search (std_rules, shown_type_well, left_of)

  -- The signature of a function whose numbers are in range and that keeps the rule on labels is shown well.
  pub signature_well : (f : Function) → function_in_range r f ≡ true → function_labels f ≡ true → is_well_signature (shown_signature r f) ≡ true
  signature_well f range named =
      let all = below_of_numbers (length r.types.items) (function_types f) (option_to_list (resource_of f.kind)) range in
      let split = sym (list_all-append (is_below (length r.types.items)) (map (λ p. p.ty) f.params.items) (option_to_list f.result)) ∙ all in
      let names = left_of _ _ (left_of _ _ (right_of (not (is_freestanding f.kind) || is_label (text_of f.name)) _ named)) in
      let known = params_known f.params.items names (left_of _ _ split) in
      both (list_all is_well_param (shown_params r f)) _ (params_well (if is_method f.kind then drop 1 f.params.items else f.params.items)
      (written_well known_param (is_method f.kind) f.params.items known)) (optional_type_well f.result (right_of (list_all (is_below (length r.types.items)) (map (λ p. p.ty) f.params.items)) _ split))

-- So is what stands in front of it.
pub function_prefix_well : (f : Function) → function_labels f ≡ true → is_well_prefix (function_prefix f) ≡ true
function_prefix_well f named = search (std_rules, shown_prefix_well, right_of)
