-- What component types show is well-formed.
use Rattle.std.proofs.Common.{rules as std_rules, ◌≡◌, refl, sym, ap, subst, ◌∙◌, ℕ, zero, suc, ◌==◌, arith, Bool, true, false, cond, List, [], ◌∷◌, ◌++◌, length, take, Option, Some, None, slice_get, is_some}
use Rattle.std.proofs.lemmas.Option.{slice_get_within}
use Rattle.wit_model.specs.{Text.Text, Text.text_eq, Tree.Place, Tree.Tree, Tree.TypeDeclaration}
use Rattle.comp_bytes.specs.declared.forms.ComponentTypeRef.{ComponentTypeRef}
use Rattle.comp_bytes.specs.Raw.{ExternName, Declarations}
use Rattle.comp_bytes.proofs.Readers.{bind_some, when_some}
use Rattle.comp_meaning.specs.Follow.{Slot, View, ShownType, Instance, Seen, Shown, Scope, Direction, import_, export_, component_scope, component_step, component_steps, exported_slot, find_type, flat, in_scope, instance_types, interface_of, is_foreign_name, named_type, new_scope, instance_place, see, used_view}
use Rattle.comp_meaning.proofs.StepLaws.{StepOf, defines, signs, aliases, sees_function, sees_type, sees_instance, seen_under, seen_instance, with_instance, step_of}
use Rattle.read_shown.specs.{Trees.DeclarationStands, Trees.SlotStands, Views.named_slot, Views.ViewStands}
use Rattle.read_shown.specs.Scopes.{is_type, IsShownBefore, IsImported, IsDeclared, a_resource, a_value, own_name, name_of_instance, IsMetInScope, by_import, by_instance, ShownStands, ScopeStands}
use Rattle.read_shown.proofs.Definitions.{definition_stands, function_stands, signature_stands}
use Rattle.read_shown.proofs.Lists.{all_more, in_front, front_more, front_same}
use Rattle.read_shown.proofs.ScopeWider.{exports_wider, imports_wider, instances_wider, met_wider, shown_stands_wider, shown_wider, slots_wider}
use Rattle.read_shown.proofs.{Views.shows_at, Views.named_stands, Views.named_type_stands, Views.view_stands, Views.view_wider, Wider.declaration_wider}
use Rattle.base_lemmas.proofs.{Lists.at_last as get_last, Options.some_is}
use Rattle.comp_bytes.specs.Raw as raw

-- what is met in a scope so far
abbrev pub Met : Scope → Place → Text → Bool → Type 0
Met scope = IsMetInScope scope.instances scope.imports (length scope.imports)

abbrev SlotIn : List Instance → List Seen → ℕ → Slot → Type 0
SlotIn instances imports n s = SlotStands (IsMetInScope instances imports (length imports)) s

abbrev InstanceIn : List Instance → ℕ → Instance → Type 0
InstanceIn instances n x = ViewStands (IsShownBefore instances n) (instance_place x.interface) x.view

abbrev ImportIn : List Instance → List Seen → ℕ → Seen → Type 0
ImportIn instances imports n s = ShownStands instances imports n s.shown

abbrev ExportIn : List Instance → List Seen → ℕ → Seen → Type 0
ExportIn instances imports n s = ShownStands instances imports (length imports) s.shown

abbrev NoType : ℕ → Seen → Type 0
NoType n s = is_type s.shown ≡ false

pub pushed : (scope : Scope) (slot : Slot) → ScopeStands scope → SlotStands (Met scope) slot → ScopeStands (in_scope slot scope)
pushed scope slot st h = search (std_rules, all_more)

-- ---- something more that is seen

pub import_stands : (seen : Seen) (scope : Scope) → ScopeStands scope → ShownStands scope.instances scope.imports (length scope.imports) seen.shown → ScopeStands (see import_ seen scope)
import_stands seen scope st h =
    let more : List Seen = scope.imports ++ seen ∷ [] in
    let fi = front_same scope.instances in
    let fm = front_more scope.imports (seen ∷ []) in
    record {
      slots = slots_wider scope.instances scope.instances scope.imports more fi fm scope.slots st.slots;
      instances = st.instances;
      imports = all_more (ImportIn scope.instances more) scope.imports seen (imports_wider scope.instances scope.instances scope.imports more fi fm scope.imports st.imports)
          (shown_stands_wider scope.instances scope.instances scope.imports more fi fm (length scope.imports) (length scope.imports) (omega arith) seen.shown h);
      exports = exports_wider scope.instances scope.instances scope.imports more fi fm scope.exports st.exports;
      no_types = st.no_types;
    }

pub seen_stands : (direction : Direction) (seen : Seen) (scope : Scope) → ScopeStands scope → ShownStands scope.instances scope.imports (length scope.imports) seen.shown → is_type seen.shown ≡ false
    → ScopeStands (see direction seen scope)
seen_stands import_ seen scope st h plain = import_stands seen scope st h
seen_stands export_ seen scope st h plain = search (std_rules, all_more)

-- ---- a type that is imported

abbrev pub imported_at : (imports : List Seen) (n : ℕ) (s : Seen) → slice_get imports n ≡ Some s → (name : Text) (d : TypeDeclaration) → s.key ≡ name → s.shown ≡ Shown.declares d
    → IsImported imports (length imports) name d
imported_at imports n s at name d key shown = record { number = n; below = slice_get_within imports n s at; seen = s; at = at; key = key; shown = shown }

-- what an import declares, over names that stand before it, is declared by it
pub declared_last : (instances : List Instance) (imports : List Seen) (count : ℕ) (name : Text) (d : TypeDeclaration) (b : Bool) (by : IsImported imports count name d)
    → DeclarationStands (IsMetInScope instances imports by.number) d b → IsDeclared instances imports count name b
declared_last instances imports count name TypeDeclaration.resource b by h = subst (IsDeclared instances imports count name) (sym h) (a_resource by)
declared_last instances imports count name (TypeDeclaration.type_ (Tree.primitive p)) b by h = subst (IsDeclared instances imports count name) (sym h) (a_value (Tree.primitive p) refl by)
declared_last instances imports count name (TypeDeclaration.type_ (Tree.node form ts)) b by h = subst (IsDeclared instances imports count name) (sym h.0) (a_value (Tree.node form ts) refl by)
declared_last instances imports count name (TypeDeclaration.type_ (Tree.named place other)) b by h = of h
  where
    -- under the place that it stands in
    at_place : (p : Place) → place ≡ p → IsImported imports count name (TypeDeclaration.type_ (Tree.named p other))
    at_place p is = record {
      number = by.number;
      below = by.below;
      seen = by.seen;
      at = by.at;
      key = by.key;
      shown =
          by.shown ∙ ap (λ q. Shown.declares (TypeDeclaration.type_ (Tree.named q other))) is;
    }

    of : IsMetInScope instances imports by.number place other b → IsDeclared instances imports count name b
    of (by_import here d) = own_name other (at_place Place.here here) d
    of (by_instance s) = name_of_instance s.path other (at_place (Place.of_interface s.path) s.stands) (subst (λ p. IsShownBefore instances (length instances) p other b) s.stands s)

type_stands : (name : ExternName) (described : ComponentTypeRef) (scope : Scope) (found : TypeDeclaration × Slot) → named_type scope.slots Place.here name.text described ≡ Some found
    → ScopeStands scope
    → ScopeStands (see import_ (seen_under name (Shown.declares found.0)) (in_scope found.1 scope))
type_stands name described scope found e st =
    let seen : Seen = seen_under name (Shown.declares found.0) in
    let is = named_type_stands (Met scope) scope.slots st.slots Place.here name.text described found e in
    let more : Scope = see import_ seen scope in
    pushed more found.1 (import_stands seen scope st (is.0, is.2)) (subst (SlotStands (Met more)) (sym is.1)
    (named_stands (Met more) Place.here name.text is.0 (by_import refl (declared_last more.instances more.imports (length more.imports) name.text found.0 is.0
    (imported_at more.imports (length scope.imports) seen (get_last scope.imports seen) name.text found.0 refl refl)
    (declaration_wider (Met scope) (IsMetInScope more.instances more.imports (length scope.imports))
    (met_wider scope.instances scope.instances scope.imports more.imports (front_same scope.instances) (front_more scope.imports (seen ∷ [])) (length scope.imports) (length scope.imports)
    (omega arith)) found.0 is.0 is.2)))))

-- ---- an instance

-- the names of interfaces among the slots are shown by instances
around_stands : (scope : Scope) → ScopeStands scope → (k n : ℕ) (slot : Slot) → slice_get (take k scope.slots) n ≡ Some slot → is_foreign_name slot ≡ true
    → SlotStands (IsShownBefore scope.instances (length scope.instances)) slot
around_stands scope st k n slot at foreign = by slot (st.slots n slot (in_front scope.slots k n slot at)) foreign
  where
    of_interface : (path name : Text) (b : Bool) → Met scope (Place.of_interface path) name b → IsShownBefore scope.instances (length scope.instances) (Place.of_interface path) name b
    of_interface path name b (by_import wrong d) = absurd cc
    of_interface path name b (by_instance s) = s

    by : (s : Slot) → SlotStands (Met scope) s → is_foreign_name s ≡ true → SlotStands (IsShownBefore scope.instances (length scope.instances)) s
    by (Slot.value (Tree.named (Place.of_interface path) name)) h f = of_interface path name false h
    by (Slot.resource (Place.of_interface path) name) h f = of_interface path name true h
    by _ h f = absurd cc

used_stands : (scope : Scope) → ScopeStands scope → (place : Place) (o : Option Slot) (view : View) → used_view scope.slots place o ≡ Some view
    → ViewStands (IsShownBefore scope.instances (length scope.instances)) place view
used_stands scope st place (Some (Slot.instance ds n)) view e = view_stands (IsShownBefore scope.instances (length scope.instances)) place (take n scope.slots) (around_stands scope st n) ds view e
used_stands scope st place _ view e = absurd cc

instance_stands : (x : Instance) (used : List ℕ) (scope : Scope) → ScopeStands scope → ViewStands (IsShownBefore scope.instances (length scope.instances)) (instance_place x.interface) x.view
    → ScopeStands (record scope { instances = scope.instances ++ x ∷ []; used = used })
instance_stands x used scope st h =
    let more : List Instance = scope.instances ++ x ∷ [] in
    let fi = front_more scope.instances (x ∷ []) in
    let fm = front_same scope.imports in
    record {
      slots = slots_wider scope.instances more scope.imports scope.imports fi fm scope.slots st.slots;
      instances = all_more (InstanceIn more) scope.instances x (instances_wider scope.instances more scope.imports scope.imports fi fm scope.instances st.instances)
          (view_wider (IsShownBefore scope.instances (length scope.instances)) (IsShownBefore more (length scope.instances))
          (shown_wider scope.instances more fi (length scope.instances) (length scope.instances) (omega arith)) (instance_place x.interface) x.view h);
      imports = imports_wider scope.instances more scope.imports scope.imports fi fm scope.imports st.imports;
      exports = exports_wider scope.instances more scope.imports scope.imports fi fm scope.exports st.exports;
      no_types = st.no_types;
    }

-- ---- each declaration

-- the type of this name that was found is one of those shown
pub type_found : (name : Text) (ts : List ShownType) (slot : Slot) → find_type name ts ≡ Some slot → (n : ℕ) × (t : ShownType) × (slice_get ts n ≡ Some t) × (t.slot ≡ slot)
    × (text_eq name t.name ≡ true)
type_found name [] slot e = absurd cc
type_found name (t ∷ ts) slot e = by (text_eq name t.name) refl (type_found name ts slot) e
  where
    by : (b : Bool) → text_eq name t.name ≡ b → (find_type name ts ≡ Some slot → (n : ℕ) × (u : ShownType) × (slice_get ts n ≡ Some u) × (u.slot ≡ slot) × (text_eq name u.name ≡ true))
        → cond b (Some t.slot) (find_type name ts) ≡ Some slot → (n : ℕ) × (u : ShownType) × (slice_get (t ∷ ts) n ≡ Some u) × (u.slot ≡ slot) × (text_eq name u.name ≡ true)
    by true same rest h = (zero, t, refl, some_is t.slot slot h, same)
    by false same rest h = let r = rest h in (suc r.0, r.1, r.2, r.3, r.4)

exported_stands : (scope : Scope) → ScopeStands scope → (m : ℕ) (name : Text) (slot : Slot) → exported_slot name (slice_get scope.instances m) ≡ Some slot → SlotStands (Met scope) slot
exported_stands scope st m name slot e = by (slice_get scope.instances m) refl e
  where
    of_path : (x : Instance) → slice_get scope.instances m ≡ Some x → (n : ℕ) (t : ShownType) → slice_get x.view.types n ≡ Some t → t.slot ≡ slot → (o : Option Text) → x.interface ≡ o
        → is_some o ≡ true → SlotStands (Met scope) slot
    of_path x at n t there is None path some = absurd cc
    of_path x at n t there is (Some path) path_is some =
        let h = (st.instances m x at).types n t there in
        let named : t.slot ≡ named_slot (Place.of_interface path) t.name h.is_resource = h.slot ∙ ap (λ p. named_slot p t.name h.is_resource) (ap instance_place path_is) in
        let shows = shows_at (Place.of_interface path) x.view n t there t.name h.is_resource refl named in
        subst (SlotStands (Met scope)) (sym named ∙ is) (named_stands (Met scope) (Place.of_interface path) t.name h.is_resource (by_instance
        (record { number = m; below = slice_get_within scope.instances m x at; shown = x; at = at; path = path; of_path = path_is; stands = refl; shows = shows })))

    by : (o : Option Instance) → slice_get scope.instances m ≡ o → exported_slot name o ≡ Some slot → SlotStands (Met scope) slot
    by None at h = absurd cc
    by (Some x) at h =
        let b = bind_some (find_type name x.view.types) _ slot h in
        let w = when_some (is_some x.interface) (Some b.0) slot b.2 in
        let f = type_found name x.view.types b.0 b.1 in
        of_path x at f.0 f.1 f.2 (f.3 ∙ some_is b.0 slot w.1) x.interface refl w.0

step_stands : (scope next : Scope) → StepOf scope next → ScopeStands scope → ScopeStands next
step_stands scope _ (defines d t e) st = pushed scope (Slot.value t) st (definition_stands (Met scope) scope.slots st.slots d t e)
step_stands scope _ (signs f s e) st = pushed scope (Slot.function s) st (signature_stands (Met scope) scope.slots st.slots f s e)
step_stands scope _ (aliases m name slot e) st = pushed scope slot st (exported_stands scope st m name slot e)
step_stands scope _ (sees_function direction name n f e) st = search (std_rules, seen_stands, seen_under, function_stands)
step_stands scope _ (sees_type name described found e) st = type_stands name described scope found e st
step_stands scope _ (sees_instance direction name n key view new e) st =
    let x : Instance = record { interface = interface_of key; view = view } in
    let more = instance_stands x (scope.used ++ n ∷ []) scope st (used_stands scope st (instance_place (interface_of key)) (slice_get scope.slots n) view e) in
    seen_stands direction (seen_instance name key view) (with_instance scope n key view) more (length scope.instances, get_last scope.instances x) refl

-- ---- all of them

-- what each declaration keeps, and each instance type, stays to the end
pub steps_keep : (P : Scope → Type 0) → ((scope next : Scope) (d : raw.Declaration) → component_step scope d ≡ Some next → P scope → P next)
    → ((scope : Scope) (ds : List raw.Declaration) (n : ℕ) → P scope → P (in_scope (Slot.instance ds n) scope)) → (ds : Declarations) (scope next : Scope) → component_steps scope ds ≡ Some next
    → P scope → P next
steps_keep P step type_ Declarations.no_more scope next e h = subst P (some_is scope next e) h
steps_keep P step type_ (Declarations.declares d rest) scope next e h =
    let b = bind_some (component_step scope d) _ next e in
    steps_keep P step type_ rest b.0 next b.2 (step scope b.0 d b.1 h)
steps_keep P step type_ (Declarations.component inner rest) scope next e h = absurd cc
steps_keep P step type_ (Declarations.instance inner rest) scope next e h =
    let b = bind_some (flat inner) _ next e in
    steps_keep P step type_ rest (in_scope (Slot.instance b.0 (length scope.slots)) scope) next b.2 (type_ scope b.0 (length scope.slots) h)

pub scope_keeps : (P : Scope → Type 0) → ((scope next : Scope) (d : raw.Declaration) → component_step scope d ≡ Some next → P scope → P next)
    → ((scope : Scope) (ds : List raw.Declaration) (n : ℕ) → P scope → P (in_scope (Slot.instance ds n) scope)) → P new_scope → (ds : Declarations) (scope : Scope)
    → component_scope ds ≡ Some scope → P scope
scope_keeps P step type_ new ds scope e =
    let b = bind_some (component_steps new_scope ds) _ scope e in
    subst P (some_is b.0 scope (when_some (length b.0.used == instance_types b.0.slots) (Some b.0) scope b.2).1) (steps_keep P step type_ ds new_scope b.0 b.1 new)

pub scope_stands : (ds : Declarations) (scope : Scope) → component_scope ds ≡ Some scope → ScopeStands scope
scope_stands ds scope e = scope_keeps ScopeStands (λ s next d e st. step_stands s next (step_of s next d e) st) (λ s inner n st. pushed s (Slot.instance inner n) st tt) (search std_rules) ds scope e
