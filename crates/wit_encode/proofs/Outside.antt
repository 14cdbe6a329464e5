-- What the calls of an encoder of interfaces do between interfaces: then what is defined stands in the component type.
use Rattle.encode_types.specs.{Distinct.target_of, Formed.IsFormed, Formed.IsFormedSignature, Known.no_around, Counts.one_type_more, Counts.one_function_more}
use Rattle.encode_types.specs.Slots.{Standing, Keeps, Follows, FollowsFunction, Defines, DefinesFunction}
use Rattle.wit_encode.proofs.{ValueSlots.slots-next, ValueSlots.targets-push, Components.steps-count, Components.steps-more, Components.steps-instance, Contents.Grew, Contents.slots-kept, Calls.Calls, Calls.calls-from, Calls.defines-of, Calls.function-of, Calls.formed-value}
use Rattle.wit_encode.proofs.Strict.{bind, definition-strict, function-strict}
use Rattle.std.proofs.Common.{rules as std_rules, ◌≡◌, refl, sym, subst, ap, ◌∙◌, ℕ, true, cond, [], ◌∷◌, ◌++◌, append-nil, List, Result, IfOk, OnErr, Option, Some, None, length}
use Rattle.std.proofs.lemmas.Result.{on_err_weaker}
use Rattle.std.specs.{List.list_all, Option.option_map_or, Option.is_some}
use Rattle.wit_model.specs.{Tree.Tree, Meaning.Signature}
use Rattle.wit_model.specs.declared.model.Resolve.{Resolve}
use Rattle.comp_bytes.specs.declared.forms.{ComponentDefinedType.ComponentDefinedType, ComponentFuncType.ComponentFuncType}
use Rattle.comp_bytes.specs.{Raw.Declaration, Raw.Declarations, Raw.append, Raw.from_list, RawOf.raw_defined, RawOf.raw_function, Held.type_slots_of}
use Rattle.comp_meaning.specs.Follow.{Slot, new_scope, definition, function_signature, component_step, in_scope}
use Rattle.wit_encode.specs.Instance.{SlotsStand, is_slot_of, Contents, outer_scope, outer_contents, is_value_type, is_function_type, resources_in, scope_with, definitions_with}
use Rattle.base_lemmas.proofs.{Bools.left_of as first_true, Bools.right_of as second_true, Options.there as some-of, Options.if_ok}
use Rattle.comp_meaning.specs.Follow as follow

-- no slot stands for anything
nothing-stands : (i : ℕ) (m : Standing) → SlotsStand [] i m → ⊥
nothing-stands i m h = cc

abbrev outer_slots_of : Declarations → List Slot
outer_slots_of outer = option_map_or (λ s. s.slots) (outer_scope outer) []

pub record OuterAt (outer : Declarations) : Type 0 where
  pub scope : follow.Scope
  pub is : outer_scope outer ≡ Some scope
  pub slots : (outer_contents outer).slots ≡ scope.slots

pub outer-at : (outer : Declarations) → (outer_contents outer).is_followed ≡ true → OuterAt outer
unfolding outer_contents
outer-at outer e = let m = some-of (outer_scope outer) e in record { scope = m.0; is = m.1; slots = ap (λ o. option_map_or (λ s. s.slots) o []) m.1 }

-- the slot of a new declaration has the next number
pub outer-index : (outer : Declarations) → OuterAt outer → type_slots_of outer ≡ length (outer_contents outer).slots
outer-index outer a = search (std_rules, steps-count new_scope a.scope outer a.is)

outer-grew : (outer : Declarations) (d : Declaration) (x : Slot) (a : OuterAt outer) → component_step a.scope d ≡ Some (in_scope x a.scope)
    → Grew (outer_contents outer) (outer_contents (append outer (Declarations.declares d Declarations.no_more))) x
unfolding outer_contents
outer-grew outer d x a step =
    let next = steps-more new_scope a.scope (in_scope x a.scope) outer d a.is step in
    record {
      slots = ap (λ o. option_map_or (λ s. s.slots) o []) next ∙ ap (λ xs. xs ++ x ∷ []) (sym a.slots);
      functions_shown = refl;
      followed = ap is_some next ∙ sym (ap is_some a.is);
    }

outer-definitions : (outer : Declarations) (d : Declaration) (types functions : List ℕ) → (outer_contents outer).types ++ cond (is_value_type d) (type_slots_of outer ∷ []) [] ≡ types
    → target_of d ≡ None → (outer_contents outer).functions ++ cond (is_function_type d) (type_slots_of outer ∷ []) [] ≡ functions
    → definitions_with (outer_contents (append outer (Declarations.declares d Declarations.no_more))) ≡ record
    { types = types; exported = (outer_contents outer).exported; functions = functions; exports = (definitions_with (outer_contents outer)).exports }
unfolding outer_contents
outer-definitions outer d types functions t u f = search (std_rules, slots-next, targets-push, append-nil)

module _ {E : Type 0} (res : Result ℕ E) (r : Resolve) (outer outer' : Declarations) where
  abbrev before : Contents
  before = outer_contents outer

  abbrev after : Contents
  after = outer_contents outer'

  module _ (sound : (scope_with r None no_around before).is_sound ≡ true) where
    outer-there : OuterAt outer
    outer-there = outer-at outer (first_true before.is_followed (list_all (is_slot_of (resources_in r None)) before.slots) sound)

    outer-slots : list_all (is_slot_of (resources_in r None)) before.slots ≡ true
    outer-slots = second_true before.is_followed (list_all (is_slot_of (resources_in r None)) before.slots) sound

    more-ok : (d : Declaration) (x : Slot) (counts : Type 0) → component_step outer-there.scope d ≡ Some (in_scope x outer-there.scope)
        → (outer' ≡ append outer (Declarations.declares d Declarations.no_more) → counts)
        → IfOk res (λ k. (k ≡ type_slots_of outer) × (outer' ≡ append outer (Declarations.declares d Declarations.no_more))) → IfOk res (λ k. (k ≡ length before.slots) × Grew before after x × counts)
    more-ok d x counts m q h = if_ok _ _ (λ k w. (
      w.0 ∙ outer-index outer outer-there,
      subst (λ (zs : Declarations). Grew before (outer_contents zs) x) (sym w.1) (outer-grew outer d x outer-there m),
      q w.1,
    )) res h

    err-same : OnErr res (outer' ≡ outer) → OnErr res (after ≡ before)
    err-same = on_err_weaker res (ap outer_contents)

    pub defined-outside : (d : ComponentDefinedType) (t : Tree) → Follows (SlotsStand before.slots) d t → IsFormed (scope_with r None no_around before) t
        → IfOk res (λ k. (k ≡ type_slots_of outer) × (outer' ≡ append outer (Declarations.declares (Declaration.defined (raw_defined d)) Declarations.no_more))) → OnErr res (outer' ≡ outer)
        → Calls res (scope_with r None no_around before) (scope_with r None no_around after) before after (Defines (SlotsStand before.slots) d)
        (definitions_with after ≡ one_type_more (length before.slots) (definitions_with before))
    defined-outside d t h f ok err =
        let a = outer-there in
        let strict : definition a.scope.slots (raw_defined d) ≡ Some t = ap (λ zs. definition zs (raw_defined d)) (sym a.slots) ∙ definition-strict (resources_in r None) before.slots outer-slots d t
        h f.formed in
        calls-from res r None no_around before after _ _ (Slot.value t) sound (formed-value (resources_in r None) t f.formed) (defines-of before.slots d t h)
        (more-ok (Declaration.defined (raw_defined d)) (Slot.value t) _ (bind (definition a.scope.slots (raw_defined d)) t (λ u. Some (in_scope (Slot.value u) a.scope)) strict)
        (λ e. ap (λ zs. definitions_with (outer_contents zs)) e ∙ outer-definitions outer (Declaration.defined (raw_defined d)) (before.types ++ length before.slots ∷ []) before.functions
        (ap (λ (k : ℕ). before.types ++ k ∷ []) (outer-index outer a)) refl (append-nil before.functions)) ok) (err-same err)

    pub function-outside : (d : ComponentFuncType) (s : Signature) → FollowsFunction (SlotsStand before.slots) d s → IsFormedSignature (scope_with r None no_around before) s
        → IfOk res (λ k. (k ≡ type_slots_of outer) × (outer' ≡ append outer (Declarations.declares (Declaration.function (raw_function d)) Declarations.no_more))) → OnErr res (outer' ≡ outer)
        → Calls res (scope_with r None no_around before) (scope_with r None no_around after) before after (DefinesFunction (SlotsStand before.slots) d)
        (definitions_with after ≡ one_function_more (length before.slots) (definitions_with before))
    function-outside d s h f ok err =
        let a = outer-there in
        let strict : function_signature a.scope.slots (raw_function d) ≡ Some s =
        ap (λ zs. function_signature zs (raw_function d)) (sym a.slots) ∙ function-strict (resources_in r None) before.slots outer-slots d s h f.params f.result_ in
        calls-from res r None no_around before after _ _ (Slot.function s) sound refl (function-of before.slots d s h)
        (more-ok (Declaration.function (raw_function d)) (Slot.function s) _ (bind (function_signature a.scope.slots (raw_function d)) s (λ u. Some (in_scope (Slot.function u) a.scope)) strict)
        (λ e. ap (λ zs. definitions_with (outer_contents zs)) e ∙ outer-definitions outer (Declaration.function (raw_function d)) before.types (before.functions ++ length before.slots ∷ [])
        (append-nil before.types) refl (ap (λ (k : ℕ). before.functions ++ k ∷ []) (outer-index outer a))) ok) (err-same err)

-- a component type in which nothing has been declared yet
pub fresh-sound : (r : Resolve) (outer : Declarations) → outer ≡ Declarations.no_more → (scope_with r None no_around (outer_contents outer)).is_sound ≡ true
unfolding outer_contents
fresh-sound r outer e = ap (λ (z : Declarations). (scope_with r None no_around (outer_contents z)).is_sound) e

-- what old slots stand for stays behind one instance type more
pub instance-keeps : (outer : Declarations) (es : List Declaration)
    → Keeps (SlotsStand (outer_contents outer).slots) (SlotsStand (outer_contents (append outer (Declarations.instance (from_list es) Declarations.no_more))).slots)
unfolding outer_contents
instance-keeps outer es i m h = go (outer_scope outer) refl
  where
    go : (o : Option follow.Scope) → outer_scope outer ≡ o → SlotsStand (outer_slots_of (append outer (Declarations.instance (from_list es) Declarations.no_more))) i m
    go None q = absurd (nothing-stands i m (subst (λ (z : Option follow.Scope). SlotsStand (option_map_or (λ s. s.slots) z []) i m) q h))
    go (Some s) q =
        let next : outer_slots_of (append outer (Declarations.instance (from_list es) Declarations.no_more)) ≡ s.slots ++ Slot.instance es (length s.slots) ∷ [] =
        ap (λ o. option_map_or (λ s. s.slots) o []) (steps-instance new_scope s outer es q) in
        let old : SlotsStand s.slots i m = subst (λ (z : Option follow.Scope). SlotsStand (option_map_or (λ s. s.slots) z []) i m) q h in
        subst (λ (xs : List Slot). SlotsStand xs i m) (sym next) (slots-kept (Slot.instance es (length s.slots)) s.slots i m old)
