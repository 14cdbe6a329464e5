-- Views of instance types are well-formed.
use Rattle.std.proofs.Common.{rules as std_rules, ◌≡◌, refl, sym, ap, subst, ◌∙◌, ℕ, ◌≤◌, ◌==◌, ◌&&◌, arith, Bool, true, List, [], ◌∷◌, ◌++◌, length, length-append, Some, slice_get}
use Rattle.std.proofs.lemmas.Option.{slice_get_within}
use Rattle.wit_model.specs.{Text.Text, Tree.Place, Meaning.Signature, Meaning.FunctionMeaning}
use Rattle.comp_bytes.specs.declared.forms.ComponentTypeRef.{ComponentTypeRef}
use Rattle.comp_bytes.specs.Raw.{Alias, ExternName, Declaration}
use Rattle.comp_bytes.proofs.Readers.{bind_some, when_some}
use Rattle.comp_meaning.specs.Follow.{Slot, View, ShownType, InstanceScope, declared_by_slot, function_in, in_instance, instance_step, instance_steps, instance_view, is_foreign_name, is_simple, named_like, named_type, new_instance, show, show_function, show_type}
use Rattle.read_shown.specs.Trees.{AllAt, DeclarationStands, SignatureStands, SlotStands}
use Rattle.read_shown.specs.Views.{named_slot, ShowsName, IsMetInView, inside, outside, TypeStands, ViewStands, InstanceScopeStands}
use Rattle.read_shown.proofs.Definitions.{definition_stands, function_stands, signature_stands}
use Rattle.read_shown.proofs.Lists.{all_more, all_weaker, none_at, Front, front_more, front_same}
use Rattle.read_shown.proofs.Wider.{declaration_wider, signature_wider, slot_wider}
use Rattle.base_lemmas.proofs.{Bools.right_of as second_true, Lists.at_last as get_last, Options.some_is}
use Rattle.wit_model.specs.Tree as tree
use Rattle.comp_bytes.specs.declared.forms.ComponentTypeRef.TheVariants as refs

-- ---- named types

module _ (Met : Place → Text → Bool → Type 0) where
  pub named_stands : (place : Place) (name : Text) (b : Bool) → Met place name b → SlotStands Met (named_slot place name b)
  named_stands place name x h = search std_rules

  declared_stands : (place : Place) (name : Text) (slot : Slot) → SlotStands Met slot → (d : tree.TypeDeclaration) → declared_by_slot slot ≡ Some d
      → (b : Bool) × (named_like slot place name ≡ named_slot place name b) × DeclarationStands Met d b
  declared_stands place name y h d e = search std_rules

  -- what an import or an export of a type declares, and what its index stands for
  pub named_type_stands : (slots : List Slot) → AllAt (λ n (s : Slot). SlotStands Met s) slots → (place : Place) (name : Text) (described : ComponentTypeRef) (found : tree.TypeDeclaration × Slot)
      → named_type slots place name described ≡ Some found → (b : Bool) × (found.1 ≡ named_slot place name b) × DeclarationStands Met found.0 b
  named_type_stands slots all place name (refs.TypeEq n) found e =
      let s = bind_some (slice_get slots n) _ found e in
      let d = bind_some (declared_by_slot s.0) _ found s.2 in
      let is : (d.0, named_like s.0 place name) ≡ found = some_is (d.0, named_like s.0 place name) found d.2 in
      let h = declared_stands place name s.0 (all n s.0 s.1) d.0 d.1 in
      (h.0, ap (λ (x : tree.TypeDeclaration × Slot). x.1) (sym is) ∙ h.1, subst (λ (x : tree.TypeDeclaration × Slot). DeclarationStands Met x.0 h.0) is h.2)
  named_type_stands slots all place name refs.SubResource found e = search std_rules
  named_type_stands slots all place name _ found e = absurd cc

-- ---- views that grow

pub shows_at : (place : Place) (view : View) (k : ℕ) (t : ShownType) → slice_get view.types k ≡ Some t → (name : Text) (b : Bool) → t.name ≡ name → t.slot ≡ named_slot place name b
    → ShowsName place view (length view.types) name b
shows_at place view k t e name b named slot = record { number = k; below = slice_get_within view.types k t e; shown = t; at = e; named = named; slot = slot }

pub shows_wider : (place : Place) (view more : View) → Front view.types more.types → (k m : ℕ) → k ≤ m → (name : Text) (b : Bool) → ShowsName place view k name b → ShowsName place more m name b
shows_wider place view more front k m le name b s = search std_rules

module _ (Outside : Place → Text → Bool → Type 0) (own : Place) where
  pub met_wider : (view more : View) → Front view.types more.types → (k m : ℕ) → k ≤ m → (place : Place) (name : Text) (b : Bool) → IsMetInView Outside own view k place name b
      → IsMetInView Outside own more m place name b
  met_wider view more front k m le place name b x = search std_rules

  -- all types of the view and more are met
  whole_wider : (view more : View) → Front view.types more.types → (place : Place) (name : Text) (b : Bool)
      → IsMetInView Outside own view (length view.types) place name b → IsMetInView Outside own more (length more.types) place name b
  whole_wider view more front = met_wider view more front (length view.types) (length more.types) front.long

  types_wider : (view more : View) → Front view.types more.types → AllAt (TypeStands Outside own view) view.types → AllAt (TypeStands Outside own more) view.types
  types_wider view more front all = all_weaker (TypeStands Outside own view) (TypeStands Outside own more) view.types (λ k t within h. (search (std_rules, declaration_wider, met_wider))) all

  functions_wider : (view more : View) → Front view.types more.types → (fs : List (Text × FunctionMeaning))
      → AllAt (λ n (f : Text × FunctionMeaning). SignatureStands (IsMetInView Outside own view (length view.types)) f.1.signature) fs
      → AllAt (λ n (f : Text × FunctionMeaning). SignatureStands (IsMetInView Outside own more (length more.types)) f.1.signature) fs
  functions_wider view more front fs all = search (std_rules, all_weaker, signature_wider, whole_wider)

  slots_wider : (view more : View) → Front view.types more.types → (ss : List Slot) → AllAt (λ n (s : Slot). SlotStands (IsMetInView Outside own view (length view.types)) s) ss
      → AllAt (λ n (s : Slot). SlotStands (IsMetInView Outside own more (length more.types)) s) ss
  slots_wider view more front ss all = search (std_rules, all_weaker, slot_wider, whole_wider)

  -- ---- each declaration

  abbrev Met : View → Place → Text → Bool → Type 0
  Met view = IsMetInView Outside own view (length view.types)

  pushed : (scope : InstanceScope) (slot : Slot) → InstanceScopeStands Outside own scope → SlotStands (Met scope.shown) slot → InstanceScopeStands Outside own (in_instance slot scope)
  pushed scope slot st h = record { slots = all_more (λ n (s : Slot). SlotStands (Met scope.shown) s) scope.slots slot st.slots h; shown = st.shown }

  function_shown : (name : ExternName) (n : ℕ) (scope next : InstanceScope) → show_function name n scope ≡ Some next → InstanceScopeStands Outside own scope → InstanceScopeStands Outside own next
  function_shown name n scope next e st =
      let after : Signature → InstanceScope = λ f. record {
        slots = scope.slots;
        shown = record { types = scope.shown.types; functions = scope.shown.functions ++ (name.text, record { signature = f; external_id = name.external_id }) ∷ [] };
      } in
      let b = bind_some (function_in (slice_get scope.slots n)) _ next e in
      let more : View = (after b.0).shown in
      let same : Front scope.shown.types more.types = front_same scope.shown.types in
      let last : Text × FunctionMeaning = (name.text, record { signature = b.0; external_id = name.external_id }) in
      let good : SignatureStands (Met scope.shown) b.0 = function_stands (Met scope.shown) scope.slots st.slots n b.0 b.1 in
      subst (InstanceScopeStands Outside own) (some_is (after b.0) next b.2) (record {
        slots = slots_wider scope.shown more same scope.slots st.slots;
        shown = record {
          types = types_wider scope.shown more same st.shown.types;
          functions = all_more (λ n (f : Text × FunctionMeaning). SignatureStands (Met more) f.1.signature) scope.shown.functions last
              (functions_wider scope.shown more same scope.shown.functions st.shown.functions) (signature_wider (Met scope.shown) (Met more) (whole_wider scope.shown more same) b.0 good);
        };
      })

  type_shown : (name : ExternName) (described : ComponentTypeRef) (scope next : InstanceScope) → show_type own name described scope ≡ Some next → InstanceScopeStands Outside own scope
      → InstanceScopeStands Outside own next
  type_shown name described scope next e st =
      let type_of : tree.TypeDeclaration × Slot → ShownType = λ found. record { name = name.text; meaning = record { declaration = found.0; external_id = name.external_id }; slot = found.1 } in
      let after : tree.TypeDeclaration × Slot → InstanceScope = λ found. record {
        slots = scope.slots ++ found.1 ∷ [];
        shown = record { types = scope.shown.types ++ type_of found ∷ []; functions = scope.shown.functions };
      } in
      let b = bind_some (named_type scope.slots own name.text described) _ next e in
      let more : View = (after b.0).shown in
      let front : Front scope.shown.types more.types = front_more scope.shown.types (type_of b.0 ∷ []) in
      let longer = length-append scope.shown.types (type_of b.0 ∷ []) in
      let last = get_last scope.shown.types (type_of b.0) in
      let is = named_type_stands (Met scope.shown) scope.slots st.slots own name.text described b.0 b.1 in
      subst (InstanceScopeStands Outside own) (some_is (after b.0) next b.2) (record {
        slots = all_more (λ n (s : Slot). SlotStands (Met more) s) scope.slots b.0.1 (slots_wider scope.shown more front scope.slots st.slots)
            (subst (SlotStands (Met more)) (sym is.1) (named_stands (Met more) own name.text is.0
            (inside refl (record { number = length scope.shown.types; below = omega (arith, longer); shown = type_of b.0; at = last; named = refl; slot = is.1 }))));
        shown = record {
          types = all_more (TypeStands Outside own more) scope.shown.types (type_of b.0) (types_wider scope.shown more front st.shown.types) (record {
            is_resource = is.0;
            slot = is.1;
            declared = declaration_wider (Met scope.shown) (IsMetInView Outside own more (length scope.shown.types))
                (met_wider scope.shown more front (length scope.shown.types) (length scope.shown.types) (omega arith)) b.0.0 is.0 is.2;
          });
          functions = functions_wider scope.shown more front scope.shown.functions st.shown.functions;
        };
      })

  shown_stands : (name : ExternName) (described : ComponentTypeRef) (scope next : InstanceScope) → show own name described scope ≡ Some next → InstanceScopeStands Outside own scope
      → InstanceScopeStands Outside own next
  shown_stands name (refs.Func n) scope next e st = function_shown name n scope next e st
  shown_stands name (refs.TypeEq n) scope next e st = type_shown name (refs.TypeEq n) scope next e st
  shown_stands name refs.SubResource scope next e st = type_shown name refs.SubResource scope next e st
  shown_stands name (refs.Instance n) scope next e st = type_shown name (refs.Instance n) scope next e st
  shown_stands name (refs.Component n) scope next e st = type_shown name (refs.Component n) scope next e st

  -- the names of interfaces that stand around are met outside
  module _ (outer : List Slot) (around : (n : ℕ) (slot : Slot) → slice_get outer n ≡ Some slot → is_foreign_name slot ≡ true → SlotStands Outside slot) where
    pub instance_step_stands : (d : Declaration) (scope next : InstanceScope) → instance_step own outer scope d ≡ Some next → InstanceScopeStands Outside own scope
        → InstanceScopeStands Outside own next
    instance_step_stands (Declaration.defined d) scope next e st =
        let b = bind_some _ _ _ e in
        subst (InstanceScopeStands Outside own) (some_is _ _ b.2) (pushed scope (Slot.value b.0) st (definition_stands (Met scope.shown) scope.slots st.slots d b.0 b.1))
    instance_step_stands (Declaration.function f) scope next e st =
        let b = bind_some _ _ _ e in
        subst (InstanceScopeStands Outside own) (some_is _ _ b.2) (pushed scope (Slot.function b.0) st (signature_stands (Met scope.shown) scope.slots st.slots f b.0 b.1))
    instance_step_stands (Declaration.alias_of (Alias.of_outer scopes n)) scope next e st =
        let b = bind_some (slice_get outer n) _ next e in
        let w = when_some (scopes == 1 && is_foreign_name b.0) (Some (in_instance b.0 scope)) next b.2 in
        let good = around n b.0 b.1 (second_true (scopes == 1) (is_foreign_name b.0) w.0) in
        subst (InstanceScopeStands Outside own) (some_is (in_instance b.0 scope) next w.1) (pushed scope b.0 st (slot_wider Outside (Met scope.shown) (λ place name k h. outside h) b.0 good))
    instance_step_stands (Declaration.exported name described) scope next e st = shown_stands name described scope next (when_some (is_simple name) (show own name described scope) next e).1 st
    instance_step_stands _ scope next e st = absurd cc

    pub instance_steps_stand : (ds : List Declaration) (scope next : InstanceScope) → instance_steps own outer scope ds ≡ Some next → InstanceScopeStands Outside own scope
        → InstanceScopeStands Outside own next
    instance_steps_stand [] scope next e st = subst (InstanceScopeStands Outside own) (some_is scope next e) st
    instance_steps_stand (d ∷ ds) scope next e st =
        let b = bind_some (instance_step own outer scope d) _ next e in
        instance_steps_stand ds b.0 next b.2 (instance_step_stands d scope b.0 b.1 st)

    pub new_instance_stands : InstanceScopeStands Outside own new_instance
    new_instance_stands = record {
      slots = none_at (λ n (s : Slot). SlotStands (Met new_instance.shown) s);
      shown = record { types = none_at (TypeStands Outside own new_instance.shown); functions = none_at (λ n (f : Text × FunctionMeaning). SignatureStands (Met new_instance.shown) f.1.signature) };
    }

    pub view_stands : (ds : List Declaration) (view : View) → instance_view own outer ds ≡ Some view → ViewStands Outside own view
    view_stands ds view e =
        let b = bind_some (instance_steps own outer new_instance ds) _ view e in
        subst (ViewStands Outside own) (some_is b.0.shown view b.2) (instance_steps_stand ds new_instance b.0 b.1 new_instance_stands).shown

-- a view stays well-formed where more was shown outside
pub view_wider : (Outside More : Place → Text → Bool → Type 0) → ((place : Place) (name : Text) (b : Bool) → Outside place name b → More place name b) → (own : Place) (view : View)
    → ViewStands Outside own view → ViewStands More own view
view_wider Outside More wider own view st =
    let met : (k : ℕ) (place : Place) (name : Text) (b : Bool) → IsMetInView Outside own view k place name b → IsMetInView More own view k place name b = met_more in
    record {
      types = all_weaker _ _ view.types (λ k t within h. record {
        is_resource = h.is_resource;
        slot = h.slot;
        declared = declaration_wider (IsMetInView Outside own view k) (IsMetInView More own view k) (met k) t.meaning.declaration h.is_resource h.declared;
      }) st.types;
      functions = all_weaker _ _ view.functions (λ k f within h. signature_wider (IsMetInView Outside own view (length view.types)) (IsMetInView More own view (length view.types))
          (met (length view.types)) f.1.signature h) st.functions;
    }
  where
    met_more : (k : ℕ) (place : Place) (name : Text) (b : Bool) → IsMetInView Outside own view k place name b → IsMetInView More own view k place name b
    met_more k place name b (inside here s) = inside here s
    met_more k place name b (outside out) = outside (wider place name b out)
