-- What the calls of an encoder of interfaces do to what it holds.
use Rattle.std.proofs.Common.{rules as std_rules, ◌≡◌, refl, sym, subst, ap, ◌∙◌, ℕ, true, not, cond, List, [], ◌∷◌, ◌++◌, append-nil, map, option_to_list, Result, Ok, Err, IfOk, OnOk, OnErr, Option, Some, None, slice_get, length, arith}
use Rattle.std.proofs.{lemmas.List.map-append, lemmas.Result.on_err_weaker}
use Rattle.std.specs.{List.list_all, Option.option_map_or, Option.is_some}
use Rattle.wit_model.specs.{Text.Text, Tree.Place, Tree.Tree, Tree.named, Meaning.Signature, Meaning.TypeMeaning}
use Rattle.wit_model.specs.declared.model.{Resolve.Resolve, InterfaceId.InterfaceId}
use Rattle.comp_bytes.specs.declared.forms.{ComponentDefinedType.ComponentDefinedType, ComponentFuncType.ComponentFuncType, ComponentTypeRef.ComponentTypeRef}
use Rattle.comp_bytes.specs.{Raw.Alias, Raw.Declaration, Raw.Declarations, Raw.ExternName, RawOf.raw_defined, RawOf.raw_function, Held.type_slots}
use Rattle.comp_bytes.specs.Reading.{◌>>=◌}
use Rattle.comp_meaning.specs.Follow.{Slot, InstanceScope, ShownType, new_instance, definition, function_signature, named_type, is_foreign_name, is_simple, show_type, instance_step, in_instance}
use Rattle.encode_types.specs.Slots.{Standing, tree, SlotAdded, SlotsGrow, Follows, FollowsFunction, Defines, DefinesFunction}
use Rattle.encode_types.specs.{Resources.Names, Resources.is_resource_tree, Distinct.described_slot, Distinct.target_of}
use Rattle.encode_types.specs.{Scope.Scope, Scope.IsDeclared, Scope.DeclaresSlot, Scope.DeclaresResource, Scope.exported_name, Known.Around}
use Rattle.encode_types.specs.{Formed.IsFormed, Formed.IsFormedSignature, Formed.is_formed, Counts.one_type_more, Counts.one_function_more, Counts.ExportsOne}
use Rattle.wit_encode.proofs.{ValueSlots.slots-more, ValueSlots.targets-more, Declaring.DeclaredAs, Declaring.declared-slot, Declaring.declared-resource}
use Rattle.wit_encode.proofs.Strict.{bind, definition-strict, function-strict, follows-once, signature-once}
use Rattle.wit_encode.proofs.Contents.{IsOf, Grew, grew-adds, grew-grows, grew-scope}
use Rattle.wit_encode.specs.Instance.{standing_at, SlotsStand, is_slot_of, Contents, no_view, outer_slots, inner_scope, inner_contents, is_value_type, is_function_type, place_in, resources_in, scope_with, definitions_with}
use Rattle.base_lemmas.proofs.{Bools.left_of as first_true, Bools.right_of as second_true, Options.there as some-of, Options.some_is, Options.if_ok}
use Rattle.wit_model.specs.Tree as tree_of_types
use Rattle.comp_bytes.specs.declared.forms.ComponentTypeRef.TheVariants as refs
use Rattle.comp_meaning.specs.Follow as follow
use Rattle.wit_encode.proofs.Steps as steps

-- what a call that adds a slot ensures
pub record Calls {E : Type 0} (res : Result ℕ E) (s s' : Scope) (c c' : Contents) (P : Standing → Type 0) (counts : Type 0) : Type 0 where
  pub ok : IfOk res (λ k. SlotAdded (SlotsStand c.slots) (SlotsStand c'.slots) (length c.slots) (length c'.slots) k P)
  pub grows : SlotsGrow (SlotsStand c.slots) (SlotsStand c'.slots) (length c.slots) (length c'.slots)
  pub scope_stays : s' ≡ s
  pub counted : OnOk res counts

pub calls-from : {E : Type 0} (res : Result ℕ E) (r : Resolve) (interface : Option InterfaceId) (around : Around) (c c' : Contents) (P : Standing → Type 0) (counts : Type 0) (x : Slot)
    → (scope_with r interface around c).is_sound ≡ true → is_slot_of (resources_in r interface) x ≡ true → IsOf x P → IfOk res (λ k. (k ≡ length c.slots) × Grew c c' x × counts) → OnErr res (c' ≡ c)
    → Calls res (scope_with r interface around c) (scope_with r interface around c') c c' P counts
calls-from (Ok k) r interface around c c' P counts x sound o is h e =
    let scope_stays = grew-scope r interface around c c' x h.1 o sound in
    record { ok = grew-adds c c' x k P h.1 h.0 is; grows = grew-grows c c' x h.1; scope_stays = scope_stays; counted = h.2 }
calls-from (Err q) r interface around c c' P counts x sound o is h e = search std_rules

-- ---- what is there

pub record InnerAt (place : Place) (outer : Declarations) (ds : List Declaration) : Type 0 where
  pub scope : InstanceScope
  pub is : inner_scope place outer ds ≡ Some scope
  pub slots : (inner_contents place outer ds).slots ≡ scope.slots

pub inner-at : (place : Place) (outer : Declarations) (ds : List Declaration) → (inner_contents place outer ds).is_followed ≡ true → InnerAt place outer ds
unfolding inner_contents
inner-at place outer ds e = let m = some-of (inner_scope place outer ds) e in record { scope = m.0; is = m.1; slots = ap (λ o. option_map_or (λ s. s.slots) o []) m.1 }

-- the slot of a new declaration has the next number
pub inner-index : (place : Place) (outer : Declarations) (ds : List Declaration) (a : InnerAt place outer ds) → type_slots ds ≡ length (inner_contents place outer ds).slots
inner-index place outer ds a = omega (arith, steps.steps-count place (outer_slots outer) new_instance a.scope ds a.is, ap length a.slots)

-- one declaration more, which adds a slot
record InnerMore (place : Place) (outer : Declarations) (ds : List Declaration) (d : Declaration) (x : Slot) (shown : List ShownType) : Type 0 where
  pub at : InnerAt place outer ds
  pub after : InstanceScope
  pub step : instance_step place (outer_slots outer) at.scope d ≡ Some after
  pub one : after.slots ≡ at.scope.slots ++ x ∷ []
  pub types : after.shown.types ≡ at.scope.shown.types ++ shown
  pub functions : after.shown.functions ≡ at.scope.shown.functions

inner-grew : (place : Place) (outer : Declarations) (ds : List Declaration) (d : Declaration) (x : Slot) (shown : List ShownType) → InnerMore place outer ds d x shown
    → Grew (inner_contents place outer ds) (inner_contents place outer (ds ++ d ∷ [])) x
unfolding inner_contents
inner-grew place outer ds d x shown m =
    let next = steps.steps-more place (outer_slots outer) new_instance m.at.scope m.after ds d m.at.is m.step in
    let slots = ap (λ o. option_map_or (λ s. s.slots) o []) next ∙ m.one ∙ ap (λ xs. xs ++ x ∷ []) (sym m.at.slots) in
    let functions_shown = ap (λ o. (option_map_or (λ s. s.shown) o no_view).functions) next ∙ m.functions ∙ sym (ap (λ o. (option_map_or (λ s. s.shown) o no_view).functions) m.at.is) in
    record { slots = slots; functions_shown = functions_shown; followed = ap is_some next ∙ sym (ap is_some m.at.is) }

abbrev pub shown_meanings : List ShownType → List (Text × TypeMeaning)
shown_meanings ts = map (λ t. (t.name, t.meaning)) ts

inner-definitions : (place : Place) (outer : Declarations) (ds : List Declaration) (d : Declaration) (x : Slot) (shown : List ShownType) → InnerMore place outer ds d x shown
    → (types exported functions : List ℕ) → (inner_contents place outer ds).types ++ cond (is_value_type d) (type_slots ds ∷ []) [] ≡ types
    → (inner_contents place outer ds).exported ++ option_to_list (target_of d) ≡ exported → (inner_contents place outer ds).functions ++ cond (is_function_type d) (type_slots ds ∷ []) [] ≡ functions
    → definitions_with (inner_contents place outer (ds ++ d ∷ [])) ≡ record
    { types = types; exported = exported; functions = functions; exports = (definitions_with (inner_contents place outer ds)).exports ++ shown_meanings shown }
unfolding inner_contents
inner-definitions place outer ds d x shown m types exported functions t u f =
    let next = steps.steps-more place (outer_slots outer) new_instance m.at.scope m.after ds d m.at.is m.step in
    let exports = ap (λ o. shown_meanings (option_map_or (λ s. s.shown) o no_view).types) next ∙ ap shown_meanings m.types ∙ map-append (λ (t : ShownType). (t.name, t.meaning))
    m.at.scope.shown.types shown ∙ ap (λ xs. xs ++ shown_meanings shown) (sym (ap (λ o. shown_meanings (option_map_or (λ s. s.shown) o no_view).types) m.at.is)) in
    λ i. record { types = (slots-more is_value_type ds d ∙ t) i; exported = (targets-more ds d ∙ u) i; functions = (slots-more is_function_type ds d ∙ f) i; exports = exports i }

-- ---- what stands in the new slot

pub defines-of : (slots : List Slot) (d : ComponentDefinedType) (t : Tree) → Follows (SlotsStand slots) d t → IsOf (Slot.value t) (Defines (SlotsStand slots) d)
defines-of slots d t h = search (std_rules, follows-once)

pub function-of : (slots : List Slot) (f : ComponentFuncType) (s : Signature) → FollowsFunction (SlotsStand slots) f s → IsOf (Slot.function s) (DefinesFunction (SlotsStand slots) f)
function-of slots f s h = search (std_rules, signature-once)

-- what is well formed is no name of a resource
pub formed-value : (resources : Names) (t : Tree) → is_formed resources t ≡ true → not (is_resource_tree resources t) ≡ true
formed-value resources x h = search std_rules

-- a scope in which a named type has been found and shown
abbrev shown-next : ExternName → InstanceScope → tree_of_types.TypeDeclaration × Slot → Option InstanceScope
shown-next name scope found = Some (record {
  slots = scope.slots ++ found.1 ∷ [];
  shown = record {
    types = scope.shown.types ++ record { name = name.text; meaning = record { declaration = found.0; external_id = name.external_id }; slot = found.1 } ∷ [];
    functions = scope.shown.functions;
  };
})

-- ---- an instance type

module _ {E : Type 0} (res : Result ℕ E) (r : Resolve) (i : InterfaceId) (around : Around) (ds ds' : List Declaration) where
  abbrev outer : Declarations
  outer = around.declared

  abbrev here : Option InterfaceId
  here = Some i

  abbrev before : Contents
  before = inner_contents (place_in r here) outer ds

  abbrev after : Contents
  after = inner_contents (place_in r here) outer ds'

  module _ (sound : (scope_with r here around before).is_sound ≡ true) where
    inner-there : InnerAt (place_in r here) outer ds
    inner-there = inner-at (place_in r here) outer ds (first_true before.is_followed (list_all (is_slot_of (resources_in r here)) before.slots) sound)

    inner-slots : list_all (is_slot_of (resources_in r here)) before.slots ≡ true
    inner-slots = second_true before.is_followed (list_all (is_slot_of (resources_in r here)) before.slots) sound

    more-ok : (d : Declaration) (x : Slot) (shown : List ShownType) (counts : Type 0) → InnerMore (place_in r here) outer ds d x shown → (ds' ≡ ds ++ d ∷ [] → counts)
        → IfOk res (λ k. (k ≡ type_slots ds) × (ds' ≡ ds ++ d ∷ [])) → IfOk res (λ k. (k ≡ length before.slots) × Grew before after x × counts)
    more-ok d x shown counts m q h = if_ok _ _ (λ k w. (
      w.0 ∙ inner-index (place_in r here) outer ds m.at,
      subst (λ (zs : List Declaration). Grew before (inner_contents (place_in r here) outer zs) x) (sym w.1) (inner-grew (place_in r here) outer ds d x shown m),
      q w.1,
    )) res h

    err-same : OnErr res (ds' ≡ ds) → OnErr res (after ≡ before)
    err-same = on_err_weaker res (ap (inner_contents (place_in r here) outer))

    -- one declaration more that isn't shown, and what has been defined then
    plain-ok : (d : Declaration) (x : Slot) (types exported functions : List ℕ) → instance_step (place_in r here) (outer_slots outer) inner-there.scope d ≡ Some (in_instance x inner-there.scope)
        → before.types ++ cond (is_value_type d) (type_slots ds ∷ []) [] ≡ types → before.exported ++ option_to_list (target_of d) ≡ exported
        → before.functions ++ cond (is_function_type d) (type_slots ds ∷ []) [] ≡ functions → IfOk res (λ k. (k ≡ type_slots ds) × (ds' ≡ ds ++ d ∷ []))
        → IfOk res (λ k. (k ≡ length before.slots) × Grew before after x
        × (definitions_with after ≡ record { types = types; exported = exported; functions = functions; exports = (definitions_with before).exports }))
    plain-ok d x types exported functions step t u f ok =
        let a = inner-there in
        let m : InnerMore (place_in r here) outer ds d x [] =
        record { at = a; after = in_instance x a.scope; step = step; one = refl; types = sym (append-nil a.scope.shown.types); functions = refl } in
        more-ok d x [] _ m (λ e. ap (λ zs. definitions_with (inner_contents (place_in r here) outer zs)) e ∙ inner-definitions (place_in r here) outer ds d x [] m types exported functions t u f
        ∙ (λ j. record { types = types; exported = exported; functions = functions; exports = append-nil (definitions_with before).exports j })) ok

    pub defined-inside : (d : ComponentDefinedType) (t : Tree) → Follows (SlotsStand before.slots) d t → IsFormed (scope_with r here around before) t
        → IfOk res (λ k. (k ≡ type_slots ds) × (ds' ≡ ds ++ Declaration.defined (raw_defined d) ∷ [])) → OnErr res (ds' ≡ ds)
        → Calls res (scope_with r here around before) (scope_with r here around after) before after (Defines (SlotsStand before.slots) d)
        (definitions_with after ≡ one_type_more (length before.slots) (definitions_with before))
    defined-inside d t h f ok err =
        let a = inner-there in
        let strict : definition a.scope.slots (raw_defined d) ≡ Some t = ap (λ zs. definition zs (raw_defined d)) (sym a.slots) ∙ definition-strict (resources_in r here) before.slots inner-slots d t
        h f.formed in
        calls-from res r here around before after _ _ (Slot.value t) sound (formed-value (resources_in r here) t f.formed) (defines-of before.slots d t h)
        (plain-ok (Declaration.defined (raw_defined d)) (Slot.value t) _ _ _ (bind (definition a.scope.slots (raw_defined d)) t (λ u. Some (in_instance (Slot.value u) a.scope)) strict)
        (ap (λ (k : ℕ). before.types ++ k ∷ []) (inner-index (place_in r here) outer ds a)) (append-nil before.exported) (append-nil before.functions) ok) (err-same err)

    pub function-inside : (d : ComponentFuncType) (s : Signature) → FollowsFunction (SlotsStand before.slots) d s → IsFormedSignature (scope_with r here around before) s
        → IfOk res (λ k. (k ≡ type_slots ds) × (ds' ≡ ds ++ Declaration.function (raw_function d) ∷ [])) → OnErr res (ds' ≡ ds)
        → Calls res (scope_with r here around before) (scope_with r here around after) before after (DefinesFunction (SlotsStand before.slots) d)
        (definitions_with after ≡ one_function_more (length before.slots) (definitions_with before))
    function-inside d s h f ok err =
        let a = inner-there in
        let strict : function_signature a.scope.slots (raw_function d) ≡ Some s =
        ap (λ zs. function_signature zs (raw_function d)) (sym a.slots) ∙ function-strict (resources_in r here) before.slots inner-slots d s h f.params f.result_ in
        calls-from res r here around before after _ _ (Slot.function s) sound refl (function-of before.slots d s h)
        (plain-ok (Declaration.function (raw_function d)) (Slot.function s) _ _ _
        (bind (function_signature a.scope.slots (raw_function d)) s (λ u. Some (in_instance (Slot.function u) a.scope)) strict)
        (append-nil before.types) (append-nil before.exported) (ap (λ (k : ℕ). before.functions ++ k ∷ []) (inner-index (place_in r here) outer ds a)) ok) (err-same err)

    -- a type around that is the name of a named interface
    pub alias-inside : (k : ℕ) (x : Slot) (t : Tree) → slice_get (outer_slots outer) k ≡ Some x → is_foreign_name x ≡ true → is_slot_of (resources_in r here) x ≡ true
        → standing_at (Some x) ≡ Some (tree t) → IfOk res (λ k'. (k' ≡ type_slots ds) × (ds' ≡ ds ++ Declaration.alias_of (Alias.of_outer 1 k) ∷ [])) → OnErr res (ds' ≡ ds)
        → Calls res (scope_with r here around before) (scope_with r here around after) before after (λ m. m ≡ tree t) (definitions_with after ≡ definitions_with before)
    alias-inside k x t at foreign kept stands ok err =
        calls-from res r here around before after _ _ x sound kept (record { gives = λ m e. stands ∙ ap Some (sym e); only = λ m e. some_is m _ (sym e ∙ stands) })
        (plain-ok (Declaration.alias_of (Alias.of_outer 1 k)) x _ _ _ (bind (slice_get (outer_slots outer) k) x
        (λ slot. follow.provided (is_foreign_name slot) (in_instance slot inner-there.scope)) at ∙ ap (λ b. follow.provided b (in_instance x inner-there.scope)) foreign) (append-nil before.types)
        (append-nil before.exported) (append-nil before.functions) ok) (err-same err)

    -- ---- exports of types

    abbrev ShownAs : Option ℕ → ExternName → Type 0
    ShownAs slot name = ExportsOne (scope_with r here around before) (definitions_with before) (definitions_with after) slot name

    -- a declaration that is followed as it says
    exported-inside : (described : ComponentTypeRef) {slot : Option ℕ} → described_slot described ≡ slot → (name : ExternName) (d : Text × TypeMeaning) (x : Slot)
        → IsDeclared (scope_with r here around before) d → name ≡ exported_name d → is_slot_of (resources_in r here) x ≡ true → standing_at (Some x) ≡ Some (tree (named (place_in r here) name.text))
        → ((m : InstanceScope) → instance_step (place_in r here) (outer_slots outer) m (Declaration.exported name described) ≡ show_type (place_in r here) name described m)
        → named_type before.slots (place_in r here) name.text described ≡ Some (d.1.declaration, x) → IfOk res (λ k. (k ≡ type_slots ds) × (ds' ≡ ds ++ Declaration.exported name described ∷ []))
        → OnErr res (ds' ≡ ds) → Calls res (scope_with r here around before) (scope_with r here around after) before after (λ m. m ≡ tree (named (place_in r here) name.text)) (ShownAs slot name)
    exported-inside described {slot} from name d x declared is kept stands step found ok err =
        let a = inner-there in
        let t : ShownType = record { name = name.text; meaning = record { declaration = d.1.declaration; external_id = name.external_id }; slot = x } in
        let next : InstanceScope = record { slots = a.scope.slots ++ x ∷ []; shown = record { types = a.scope.shown.types ++ t ∷ []; functions = a.scope.shown.functions } } in
        let there : named_type a.scope.slots (place_in r here) name.text described ≡ Some (d.1.declaration, x) = ap (λ zs. named_type zs (place_in r here) name.text described) (sym a.slots) ∙ found in
        let m : InnerMore (place_in r here) outer ds (Declaration.exported name described) x (t ∷ []) = record {
          at = a;
          after = next;
          step = step a.scope ∙ ap (λ o. o >>= shown-next name a.scope) there;
          one = refl;
          types = refl;
          functions = refl;
        } in
        let meant : (name.text, t.meaning) ≡ d = λ j. (ap (λ (n : ExternName). n.text) is j, record { declaration = d.1.declaration; external_id = ap (λ (n : ExternName). n.external_id) is j }) in
        calls-from res r here around before after _ _ x sound kept (record { gives = λ m e. stands ∙ ap Some (sym e); only = λ m e. some_is m _ (sym e ∙ stands) })
        (more-ok (Declaration.exported name described) x (t ∷ []) _ m (λ e. record {
          declaration = d;
          there = declared.there;
          named_ = is;
          one_more = ap (λ zs. definitions_with (inner_contents (place_in r here) outer zs)) e
              ∙ inner-definitions (place_in r here) outer ds (Declaration.exported name described) x (t ∷ []) m before.types (before.exported ++ option_to_list slot) before.functions
              (append-nil before.types) (ap (λ o. before.exported ++ option_to_list o) from) (append-nil before.functions)
              ∙ (λ j. record { types = before.types; exported = before.exported ++ option_to_list slot; functions = before.functions; exports = (definitions_with before).exports ++ meant j ∷ [] });
        }) ok) (err-same err)

    simple-name : (name : ExternName) (d : Text × TypeMeaning) → name ≡ exported_name d → is_simple name ≡ true
    simple-name name d e = ap is_simple e

    pub type-inside : (k : ℕ) (name : ExternName) → DeclaresSlot (scope_with r here around before) (SlotsStand before.slots) name k
        → IfOk res (λ k'. (k' ≡ type_slots ds) × (ds' ≡ ds ++ Declaration.exported name (refs.TypeEq k) ∷ [])) → OnErr res (ds' ≡ ds)
        → Calls res (scope_with r here around before) (scope_with r here around after) before after (λ m. m ≡ tree (named (place_in r here) name.text)) (ShownAs (Some k) name)
    type-inside k name s ok err =
        let its : DeclaredAs (scope_with r here around before) before.slots name (refs.TypeEq k) s.declaration = declared-slot (scope_with r here around before) before.slots inner-slots name k s in
        exported-inside (refs.TypeEq k) refl name s.declaration its.slot s.declared s.named_ its.kept its.stands
        (λ m. ap (λ b. follow.when b (show_type (place_in r here) name (refs.TypeEq k) m)) (simple-name name s.declaration s.named_)) its.found ok err

    pub resource-inside : (name : ExternName) → DeclaresResource (scope_with r here around before) name
        → IfOk res (λ k'. (k' ≡ type_slots ds) × (ds' ≡ ds ++ Declaration.exported name refs.SubResource ∷ [])) → OnErr res (ds' ≡ ds)
        → Calls res (scope_with r here around before) (scope_with r here around after) before after (λ m. m ≡ tree (named (place_in r here) name.text)) (ShownAs None name)
    resource-inside name s ok err =
        let its : DeclaredAs (scope_with r here around before) before.slots name refs.SubResource s.declaration = declared-resource (scope_with r here around before) before.slots inner-slots name s in
        exported-inside refs.SubResource refl name s.declaration its.slot s.declared s.named_ its.kept its.stands
        (λ m. ap (λ b. follow.when b (show_type (place_in r here) name refs.SubResource m)) (simple-name name s.declaration s.named_)) its.found ok err
