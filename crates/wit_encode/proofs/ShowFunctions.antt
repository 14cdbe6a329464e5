-- A function that is exported from an instance type.
use Rattle.std.proofs.Common.{rules as std_rules, ◌≡◌, sym, ap, ◌∙◌, ℕ, true, List, [], ◌∷◌, ◌++◌, append-nil, Result, OnOk, Option, Some, slice_get}
use Rattle.std.specs.{Option.option_map_or, Option.is_some}
use Rattle.wit_model.specs.{Text.Text, Tree.Place, Meaning.Signature, Meaning.FunctionMeaning}
use Rattle.wit_model.specs.declared.model.Resolve.{Resolve}
use Rattle.comp_bytes.specs.Raw.{Declaration, Declarations, ExternName, from_list}
use Rattle.comp_meaning.specs.Follow.{Slot, InstanceScope, new_instance, is_simple, function_in, show_function, instance_step}
use Rattle.wit_encode.specs.declared.interface.OpenInterface.{OpenInterface}
use Rattle.encode_types.specs.{Slots.function, Distinct.is_value_type, Distinct.value_slots, Distinct.function_slots, Distinct.targets_of}
use Rattle.wit_encode.specs.Instance.{SlotsStand, no_view, outer_slots, inner_contents, is_function_type, contents_of, encoder_scope, ShowsFunction}
use Rattle.wit_encode.proofs.{ValueSlots.slots-more, ValueSlots.targets-more, Strict.bind, Calls.inner-at}
use Rattle.base_lemmas.proofs.Bools.{left_of as first_true}
use Rattle.comp_bytes.specs.declared.forms.ComponentTypeRef.TheVariants as refs
use Rattle.comp_meaning.specs.Follow as follow
use Rattle.wit_encode.proofs.Steps as steps

function-there : (slots : List Slot) (i : ℕ) (s : Signature) → SlotsStand slots i (function s) → function_in (slice_get slots i) ≡ Some s
function-there slots i s h = search std_rules

shows-inside : (place : Place) (outer : Declarations) (ds : List Declaration) (name : ExternName) (i : ℕ) (s : Signature) → (inner_contents place outer ds).is_followed ≡ true → is_simple name ≡ true
    → SlotsStand (inner_contents place outer ds).slots i (function s)
    → ShowsFunction (inner_contents place outer ds) (inner_contents place outer (ds ++ Declaration.exported name (refs.Func i) ∷ []))
    (name.text, record { signature = s; external_id = name.external_id })
unfolding inner_contents
shows-inside place outer ds name i s followed simple h =
    let a = inner-at place outer ds followed in
    let f : Text × FunctionMeaning = (name.text, record { signature = s; external_id = name.external_id }) in
    let after : InstanceScope = record { slots = a.scope.slots; shown = record { types = a.scope.shown.types; functions = a.scope.shown.functions ++ f ∷ [] } } in
    let step : instance_step place (outer_slots outer) a.scope (Declaration.exported name (refs.Func i)) ≡ Some after = ap (λ b. follow.when b (show_function name i a.scope)) simple
    ∙ bind (function_in (slice_get a.scope.slots i)) s (λ g. Some (record {
      slots = a.scope.slots;
      shown = record { types = a.scope.shown.types; functions = a.scope.shown.functions ++ (name.text, record { signature = g; external_id = name.external_id }) ∷ [] };
    })) (ap (λ zs. function_in (slice_get zs i)) (sym a.slots) ∙ function-there (inner_contents place outer ds).slots i s h) in
    let next = steps.steps-more place (outer_slots outer) new_instance a.scope after ds (Declaration.exported name (refs.Func i)) a.is step in
    record {
      slots = ap (λ o. option_map_or (λ s. s.slots) o []) next ∙ sym a.slots;
      functions_shown = ap (λ o. (option_map_or (λ s. s.shown) o no_view).functions) next ∙ ap (λ xs. xs ++ f ∷ []) (sym (ap (λ o. (option_map_or (λ s. s.shown) o no_view).functions) a.is));
      types_shown = ap (λ o. (option_map_or (λ s. s.shown) o no_view).types) next ∙ sym (ap (λ o. (option_map_or (λ s. s.shown) o no_view).types) a.is);
      followed = ap is_some next ∙ sym (ap is_some a.is);
      types = slots-more is_value_type ds (Declaration.exported name (refs.Func i)) ∙ append-nil (value_slots (from_list ds));
      exported = targets-more ds (Declaration.exported name (refs.Func i)) ∙ append-nil (targets_of (from_list ds));
      functions = slots-more is_function_type ds (Declaration.exported name (refs.Func i)) ∙ append-nil (function_slots (from_list ds));
    }

pub shows-within : {A E : Type 0} (res : Result A E) (r : Resolve) (outer : Declarations) (inner : Option OpenInterface) (current : OpenInterface) (ds' : List Declaration) (name : ExternName) (i : ℕ)
    (s : Signature) → inner ≡ Some current → (encoder_scope r outer inner).is_sound ≡ true → is_simple name ≡ true → OnOk res (ds' ≡ current.declared ++ Declaration.exported name (refs.Func i) ∷ [])
    → SlotsStand (contents_of r outer inner).slots i (function s)
    → OnOk res (ShowsFunction (contents_of r outer inner) (contents_of r outer (Some (record current { declared = ds' }))) (name.text, record { signature = s; external_id = name.external_id }))
shows-within x r outer inner current ds' name i s is sound simple ok h = search (std_rules, shows-inside, first_true)
