-- What the slots of the types stand for that an instance type shows: each for the name of its type, and for that of a resource exactly where the
-- name is one.
use Rattle.std.proofs.Common.{rules as std_rules, ◌≡◌, ◌⊎◌, inl, inr, refl, sym, subst, ap, ◌∙◌, true, List, [], ◌∷◌, ◌++◌, map, Option, Some, String, slice_get}
use Rattle.std.proofs.lemmas.List.Elements.{Contains-append_left, Contains-append_right, Contains-append_cases}
use Rattle.std.proofs.lemmas.{Bool.not-true, Bool.or_left as or-first, Option.same_Some as some-same}
use Rattle.std.specs.{List.Contains, List.list_all, Option.option_map_or}
use Rattle.std.specs.declared.alloc.Global.{Global}
use Rattle.wit_model.specs.{Text.Text, Text.text_of, Tree.Place, Tree.named, Lookup.interface_at, Lookup.place_of, Meaning.TypeMeaning, Valid.IsValid, Parts.is_resource, Parts.same_owner, Meant.type_meaning_at, Meant.interface_meaning, Meant.interface_meaning_at, Meant.no_interface}
use Rattle.wit_model.specs.declared.model.{Resolve.Resolve, TypeId.TypeId, Interface.Interface, InterfaceId.InterfaceId, TypeOwner.TypeOwner}
use Rattle.wit_model.proofs.{Elements.none-in, Elements.contains-get, PartsLemmas.owner_same as same-owner}
use Rattle.comp_bytes.specs.declared.forms.ComponentTypeRef.{ComponentTypeRef}
use Rattle.comp_bytes.specs.Raw.{Declaration, Alias, ExternName}
use Rattle.comp_meaning.specs.Follow.{Slot, ShownType, InstanceScope, is_simple, in_instance, definition, function_signature, function_in, named_type, show_type, show_function, instance_step, instance_steps, new_instance}
use Rattle.encode_shown.specs.Views.{name_slot, shown_type, types_of}
use Rattle.encode_types.specs.{Resources.Names, Resources.is_met_owner, Resources.resource_names, Standing.is_slot_of}
use Rattle.wit_encode.proofs.{Steps.unbind, Steps.unwhen, Naming.one-home, Naming.names-agree, ListedTypes.listed-type, ListedTypes.listed-key}
use Rattle.base_lemmas.proofs.{Elements.all-contained, Elements.contains-later, Elements.contains-one, Elements.last_of as one-contained, Numbers.same-number, Elements.first-contained}
use Rattle.comp_meaning.proofs.FollowLemmas.{provided_is as unprovided}
use Rattle.wit_model.specs.Tree as tree
use Rattle.wit_model.specs.declared.model.TypeOwner.TheVariants as owner
use Rattle.comp_bytes.specs.declared.forms.ComponentTypeRef.TheVariants as refs

module _ (place : Place) where
  -- ---- slots of names

  abbrev IsNameSlot : Text → Slot → Type 0
  IsNameSlot name slot = (slot ≡ Slot.value (named place name)) ⊎ (slot ≡ Slot.resource place name)

  named-slot : (slots : List Slot) (name : Text) (described : ComponentTypeRef) (found : tree.TypeDeclaration × Slot) → named_type slots place name described ≡ Some found → IsNameSlot name found.1
  named-slot slots name x found e = search std_rules

  -- ---- each type that is shown has a slot of its name

  abbrev HasSlot : InstanceScope → ShownType → Type 0
  HasSlot s t = IsNameSlot t.name t.slot × Contains s.slots t.slot

  abbrev AllNamed : InstanceScope → Type 0
  AllNamed s = (t : ShownType) → Contains s.shown.types t → HasSlot s t

  slot-more : (s : InstanceScope) (x : Slot) → AllNamed s → AllNamed (in_instance x s)
  slot-more s x all t c = let h = all t c in (h.0, Contains-append_left s.slots (x ∷ []) t.slot h.1)

  type-more : (s s' : InstanceScope) (name : ExternName) (described : ComponentTypeRef) → show_type place name described s ≡ Some s' → AllNamed s → AllNamed s'
  type-more s s' name described e all =
      let found = unbind (named_type s.slots place name.text described) _ s' e in
      subst AllNamed (some-same _ s' found.then) (λ t c. by found.item (named-slot s.slots name.text described found.item found.is) t (Contains-append_cases s.shown.types _ t c))
    where
      by : (found : tree.TypeDeclaration × Slot) → IsNameSlot name.text found.1 → (t : ShownType)
          → (Contains s.shown.types t ⊎ Contains (record { name = name.text; meaning = record { declaration = found.0; external_id = name.external_id }; slot = found.1 } ∷ []) t)
          → IsNameSlot t.name t.slot × Contains (s.slots ++ found.1 ∷ []) t.slot
      by found ok t (inl c) = let h = all t c in (h.0, Contains-append_left s.slots (found.1 ∷ []) t.slot h.1)
      by found ok t (inr c) = subst (λ (u : ShownType). IsNameSlot u.name u.slot × Contains (s.slots ++ found.1 ∷ []) u.slot) (one-contained _ t c)
          (ok, Contains-append_right s.slots (found.1 ∷ []) found.1 (contains-one found.1))

  function-more : (s s' : InstanceScope) (name : ExternName) (n : _) → show_function name n s ≡ Some s' → AllNamed s → AllNamed s'
  function-more s s' name n e all = subst AllNamed (some-same _ s' (unbind (function_in (slice_get s.slots n)) _ s' e).then) all

  step-named : (outer : List Slot) (s s' : InstanceScope) (d : Declaration) → instance_step place outer s d ≡ Some s' → AllNamed s → AllNamed s'
  step-named outer s s' (Declaration.defined d) e all = let t = unbind (definition s.slots d) _ s' e in subst AllNamed (some-same _ s' t.then) (slot-more s (Slot.value t.item) all)
  step-named outer s s' (Declaration.function f) e all = let t = unbind (function_signature s.slots f) _ s' e in subst AllNamed (some-same _ s' t.then) (slot-more s (Slot.function t.item) all)
  step-named outer s s' (Declaration.alias_of (Alias.of_outer scopes n)) e all =
      let slot = unbind (slice_get outer n) _ s' e in subst AllNamed (unprovided _ _ s' slot.then) (slot-more s slot.item all)
  step-named outer s s' (Declaration.alias_of (Alias.of_export m name)) e all = absurd cc
  step-named outer s s' (Declaration.imported name described) e all = absurd cc
  step-named outer s s' (Declaration.exported name (refs.Func n)) e all = function-more s s' name n (unwhen (is_simple name) (show_function name n s) s' e) all
  step-named outer s s' (Declaration.exported name described) e all = type-more s s' name described (unwhen (is_simple name) (show_type place name described s) s' e) all

  steps-named : (outer : List Slot) (ds : List Declaration) (s s' : InstanceScope) → instance_steps place outer s ds ≡ Some s' → AllNamed s → AllNamed s'
  steps-named outer [] s s' e all = subst AllNamed (some-same s s' e) all
  steps-named outer (d ∷ ds) s s' e all = let next = unbind (instance_step place outer s d) _ s' e in steps-named outer ds next.item s' next.then (step-named outer s next.item d next.is all)

  module _ (resources : Names) where
    -- with each resource in a slot of its own kind, the name says which slot it is
    name-slot : (name : Text) (slot : Slot) → IsNameSlot name slot → is_slot_of resources slot ≡ true → slot ≡ name_slot (resources place name) place name
    name-slot name slot (inl e) h = e ∙ ap (λ b. name_slot b place name) (sym (not-true (resources place name) (ap (is_slot_of resources) (sym e) ∙ h)))
    name-slot name slot (inr e) h = e ∙ ap (λ b. name_slot b place name) (sym (ap (is_slot_of resources) (sym e) ∙ h))

    pub shown-slots : (outer : List Slot) (ds : List Declaration) (s : InstanceScope) → instance_steps place outer new_instance ds ≡ Some s → list_all (is_slot_of resources) s.slots ≡ true
        → (t : ShownType) → Contains s.shown.types t → t.slot ≡ name_slot (resources place t.name) place t.name
    shown-slots outer ds s e sound t c =
        let h = steps-named outer ds new_instance s e (λ u d. none-in u d) t c in name-slot t.name t.slot h.0 (all-contained (is_slot_of resources) s.slots t.slot sound h.1)

    -- types that are shown with the names and meanings of these, each with a slot of its name
    pub types-shown : (r : Resolve) (es : List (String Global × TypeId)) (ts : List ShownType)
        → map {B = Text × TypeMeaning} (λ (t : ShownType). (t.name, t.meaning)) ts ≡ map {B = Text × TypeMeaning} (λ (e : String Global × TypeId). (text_of e.0, type_meaning_at r e.1.0)) es
        → ((t : ShownType) → Contains ts t → t.slot ≡ name_slot (resources place t.name) place t.name)
        → ((e : String Global × TypeId) → Contains es e → resources place (text_of e.0) ≡ is_resource r e.1.0) → ts ≡ map (shown_type r place) es
    types-shown r [] [] same slots are = refl
    types-shown r [] (t ∷ ts) same slots are = absurd cc
    types-shown r (e ∷ es) [] same slots are = absurd cc
    types-shown r (e ∷ es) (t ∷ ts) same slots are = λ i. first i ∷ types-shown r es ts rest (λ u c. slots u (contains-later t ts u c)) (λ x c. are x (contains-later e es x c)) i
      where
        one : ◌≡◌ {A = Text × TypeMeaning} (t.name, t.meaning) (text_of e.0, type_meaning_at r e.1.0)
        one = cc

        rest : map {B = Text × TypeMeaning} (λ (u : ShownType). (u.name, u.meaning)) ts ≡ map {B = Text × TypeMeaning} (λ (x : String Global × TypeId). (text_of x.0, type_meaning_at r x.1.0)) es
        rest = cc

        slot : t.slot ≡ name_slot (is_resource r e.1.0) place (text_of e.0)
        slot = slots t (first-contained t ts) ∙ (ap (λ n. name_slot (resources place n) place n) (ap (λ x. x.0) one) ∙ ap (λ b. name_slot b place (text_of e.0)) (are e (first-contained e es)))

        first : t ≡ shown_type r place e
        first = λ i. record { name = (one i).0; meaning = (one i).1; slot = slot i }

-- ---- the types of an interface

module _ (r : Resolve) (v : IsValid r) (i : InterfaceId) (def : Interface) (there : interface_at r i.0 ≡ Some def) where
  abbrev own : TypeOwner
  own = owner.Interface i

  abbrev resources : Names
  resources = resource_names r (is_met_owner r own)

  -- the name of a type that is listed is one of a resource exactly where the type is
  listed-resource : (e : String Global × TypeId) → Contains def.types.entries e → resources (place_of r own) (text_of e.0) ≡ is_resource r e.1.0
  listed-resource e c =
      let at = contains-get def.types.entries e c in
      let h = listed-type r v i.0 def there at.0 e at.1 in
      let home : h.def.owner ≡ own = same-owner h.def.owner own h.owned in
      let met : is_met_owner r own h.def.owner ≡ true = ap (is_met_owner r own) home ∙ or-first (same_owner own own) _ (same-number i.0) in
      ap (resources (place_of r own)) (listed-key r v i.0 def there at.0 e at.1 h) ∙ ap (λ (o : TypeOwner). resources (place_of r o) (text_of h.name)) (sym home)
      ∙ names-agree r v (is_met_owner r own) (one-home r v own) e.1.0 h.def h.name h.there h.named_ met

  -- what is shown with the names and meanings of the interface's types is its types
  pub interface-shown : (outer : List Slot) (ds : List Declaration) (s : InstanceScope) → instance_steps (place_of r own) outer new_instance ds ≡ Some s
      → list_all (is_slot_of resources) s.slots ≡ true → map {B = Text × TypeMeaning} (λ (t : ShownType). (t.name, t.meaning)) s.shown.types ≡ (interface_meaning_at r i.0).types
      → s.shown.types ≡ option_map_or (types_of r i.0) (interface_at r i.0) []
  interface-shown outer ds s steps sound same = types-shown (place_of r own) resources r def.types.entries s.shown.types
      (same ∙ ap (λ (o : Option Interface). (option_map_or (interface_meaning r) o no_interface).types) there) (shown-slots (place_of r own) resources outer ds s steps sound) listed-resource
      ∙ sym (ap (λ (o : Option Interface). option_map_or (types_of r i.0) o []) there)
