-- What the calls of an encoder of a world do to its component type.
use Rattle.std.proofs.Common.{rules as std_rules, ◌≡◌, refl, sym, subst, ap, ◌∙◌, ℕ, ◌+◌, Bool, true, ◌&&◌, cond, List, [], ◌∷◌, ◌++◌, append-nil, option_to_list, filter_map, Result, IfOk, OnErr, Option, Some, None, slice_get, length, arith}
use Rattle.std.specs.{List.list_all, List.list_any, Option.option_map_or, Prelude.◌≤◌}
use Rattle.wit_model.specs.{Text.Text, Lookup.place_of, Types.number_tree, Meaning.Signature, Meaning.TypeMeaning, Parts.is_resource, Parts.numbered_from, Rules.text_is}
use Rattle.wit_model.specs.Tree.{Tree, here, of_interface, named}
use Rattle.wit_model.specs.declared.model.{Resolve.Resolve, TypeId.TypeId, TypeOwner.TypeOwner, WorldId.WorldId}
use Rattle.comp_bytes.specs.declared.forms.{ComponentDefinedType.ComponentDefinedType, ComponentFuncType.ComponentFuncType, ComponentTypeRef.ComponentTypeRef}
use Rattle.comp_bytes.specs.{Raw.Declaration, Raw.Declarations, Raw.ExternName, Raw.declaration_count, RawOf.raw_defined, RawOf.raw_function}
use Rattle.comp_bytes.specs.Held.{type_slots_of}
use Rattle.comp_meaning.specs.Same.{same_place}
use Rattle.comp_meaning.specs.Follow.{import_, Seen, Slot, component_step, definition, function_signature, in_scope, instance_types, is_simple, named_type, new_scope, see}
use Rattle.encode_types.specs.declared.maps.TypeEncodingMaps.{TypeEncodingMaps}
use Rattle.encode_types.specs.Slots.{Standing, tree, Follows, FollowsFunction, Defines, DefinesFunction}
use Rattle.encode_types.specs.{Resources.is_met_owner, Resources.is_named_interface, Resources.named_resources, Formed.IsFormed, Formed.IsFormedSignature, Distinct.is_value_type, Distinct.is_function_type, Distinct.described_slot, Distinct.target_of, View.View, View.Grows}
use Rattle.encode_types.specs.Scope.{Scope, IsDeclared, DeclaresSlot, DeclaresResource, IsImportable, exported_name}
use Rattle.encode_types.specs.Counts.{one_type_more, one_function_more, ExportsOne}
use Rattle.encode_types.specs.Known.{Around, Aliased, IsAlias, IsSource, ReachesAround, as_before, aliased, alias_declared, are_right, is_slot_for, known_slot, outer_scope, outer_slots, standing_instances, with_alias}
use Rattle.encode_types.specs.Standing.{SlotsStand, is_slot_of, standing_at}
use Rattle.wit_encode.specs.{DependencyAliases.alias_in, WrittenNames.described_name, WrittenNames.instance_declarations, WrittenNames.instance_name, Encoders.declared_after, WholeWorlds.direction_of, WholeWorlds.directions_of, WorldAliases.aliases_in, WorldAliases.interfaces_in}
use Rattle.wit_encode.specs.Places.{takes_index}
use Rattle.wit_encode.specs.Worlds.{declared_type, is_sound_outside, world_definitions, world_resources, world_scope, world_view, instances_declared}
use Rattle.wit_encode.proofs.{Aliases.keeps-alias, Aliases.keeps-plain, ValueSlots.slots-next, ValueSlots.targets-push, ValueSlots.instances-kept, Places.grows-more, Components.steps-count, Components.steps-more, Contents.IsOf, Contents.slots-kept, WrittenNames.instances-left, Directions.directions-more, Directions.keeps-both, Declaring.DeclaredAs, Declaring.declared-slot, Declaring.declared-resource, Calls.defines-of, Calls.formed-value, Calls.function-of, Strict.bind, Strict.definition-strict, Strict.function-strict, Refusing.outer-pushed, Wider.alias-step}
use Rattle.wit_encode.proofs.Importing.{Stands, importable-sound, importable-stands, known-right, right-more, stands, still-right}
use Rattle.wit_encode.proofs.WorldShown.{Extends, SoundOutside, Widens, WorldCalls, exports-more, scope-stays, slot-extends, slots-more, sound-outside, world-calls}
use Rattle.std.proofs.Common.{length-append}
use Rattle.encode_types.proofs.Around.{around-same}
use Rattle.encode_names.specs.WorldSteps.{seen_type}
use Rattle.encode_names.proofs.WorldSteps.{named-slot as named-plain, type-step}
use Rattle.base_lemmas.proofs.Options.{some_is, if_ok, some_same}
use Rattle.wit_model.specs.declared.model.TypeOwner.TheVariants as owner
use Rattle.comp_bytes.specs.declared.forms.ComponentTypeRef.TheVariants as refs
use Rattle.comp_meaning.specs.Follow as follow

-- a component type, after something has been declared in it
abbrev pub after_declaring : Around → Declarations → Around
after_declaring a outer = record a { declared = outer }

module _ (r : Resolve) (w : WorldId) (a : Around) (sound : SoundOutside r w a) where
  same-slots : outer_slots a.declared ≡ sound.scope.slots
  same-slots = ap (λ o. option_map_or (λ s. s.slots) o []) sound.followed

  slots-sound : list_all (is_slot_of (world_resources r w)) (outer_slots a.declared) ≡ true
  slots-sound = ap (list_all (is_slot_of (world_resources r w))) same-slots ∙ sound.slots

  -- the slot of a new declaration has the next number
  index-next : type_slots_of a.declared ≡ length (outer_slots a.declared)
  index-next = omega (arith, steps-count new_scope sound.scope a.declared sound.followed, ap length same-slots)

  -- one declaration that adds a slot
  declared-widens : (outer : Declarations) (d : Declaration) (x : Slot) (types : List Seen) (next : follow.Scope) → component_step sound.scope d ≡ Some next → Extends sound.scope next x types
      → instance_name d ≡ [] → is_slot_of (world_resources r w) x ≡ true → outer ≡ declared_after a.declared d → Widens r w a (after_declaring a outer) x types
  declared-widens outer d x types next step extends plain kept e =
      let followed : outer_scope outer ≡ Some next = ap outer_scope e ∙ steps-more new_scope sound.scope next a.declared d sound.followed step in
      record {
        before = sound.scope;
        after = next;
        followed = sound.followed;
        next = followed;
        extends = extends;
        listed = refl;
        right = ap (are_right r a.known) (ap (λ o. option_map_or (λ s. s.slots) o []) followed ∙ extends.slots) ∙ right-more r a.known sound.scope.slots x sound.right;
        kept = kept;
        instances = ap instance_declarations e ∙ instances-left a.declared d plain;
        inside = ap instances_declared e ∙ instances-kept a.declared d;
      }

  -- what has been defined afterwards
  definitions-after : (outer : Declarations) (d : Declaration) (x : Slot) (types : List Seen) → Widens r w a (after_declaring a outer) x types → outer ≡ declared_after a.declared d
      → (n u k : List ℕ) (es : List (Text × TypeMeaning)) → (world_definitions a.declared).types ++ cond (is_value_type d) (type_slots_of a.declared ∷ []) [] ≡ n
      → (world_definitions a.declared).exported ++ option_to_list (target_of d) ≡ u → (world_definitions a.declared).functions ++ cond (is_function_type d) (type_slots_of a.declared ∷ []) [] ≡ k
      → (world_definitions a.declared).exports ++ filter_map declared_type types ≡ es → world_definitions outer ≡ record { types = n; exported = u; functions = k; exports = es }
  definitions-after outer d x types m e n u k es t q f s = λ i. record {
    types = (ap (λ z. (world_definitions z).types) e ∙ slots-next is_value_type a.declared d ∙ t) i;
    exported = (ap (λ z. (world_definitions z).exported) e ∙ targets-push a.declared d ∙ q) i;
    functions = (ap (λ z. (world_definitions z).functions) e ∙ slots-next is_function_type a.declared d ∙ f) i;
    exports = (exports-more r w a (after_declaring a outer) x types m sound ∙ s) i;
  }

-- ---- definitions

module _ {E : Type 0} (res : Result ℕ E) (r : Resolve) (w : WorldId) (count : ℕ) (a : Around) (outer : Declarations) (maps : TypeEncodingMaps) where
  abbrev scope : Scope
  scope = world_scope r w count a

  abbrev next : Around
  next = after_declaring a outer

  abbrev Leads : (Standing → Type 0) → Type 0 → Type 0
  Leads P counts = WorldCalls res (world_view r w count a maps) (world_view r w count next maps) P counts

  abbrev Declared : Declaration → Type 0
  Declared d = IfOk res (λ k. (k ≡ type_slots_of a.declared) × (outer ≡ declared_after a.declared d))

  same-around : OnErr res (outer ≡ a.declared) → OnErr res (next ≡ a)
  same-around h = search std_rules

  module _ (is_sound : is_sound_outside r w a ≡ true) where
    abbrev sound : SoundOutside r w a
    sound = sound-outside r w a is_sound

    -- a call that declares something
    declares : (d : Declaration) (x : Slot) (types : List Seen) (after : follow.Scope) (P : Standing → Type 0) (counts : Type 0) → component_step sound.scope d ≡ Some after
        → Extends sound.scope after x types → instance_name d ≡ [] → alias_in d ≡ [] → takes_index d ≡ true → is_slot_of (world_resources r w) x ≡ true → IsOf x P
        → (Widens r w a next x types → outer ≡ declared_after a.declared d → counts) → Declared d → OnErr res (outer ≡ a.declared) → Leads P counts
    declares d x types after P counts step extends plain none index kept is q ok err = world-calls res r w count a next maps P counts x types is_sound is (if_ok _ _ (λ k h.
        let m = declared-widens r w a sound outer d x types after step extends plain kept h.1 in (
          h.0 ∙ index-next r w a sound,
          m,
          keeps-both (direction_of d) (λ ns. keeps-plain r count (interfaces_in ns) (aliases_in ns) a outer d h.1 none plain)
              (ap directions_of h.1 ∙ directions-more a.declared d) (λ ds. grows-more ds a.declared outer d h.1 index),
          q m h.1,
        )) res ok) (same-around err)

    pub defines-value : (d : ComponentDefinedType) (t : Tree) → Follows (SlotsStand (outer_slots a.declared)) d t → IsFormed scope t → Declared (Declaration.defined (raw_defined d))
        → OnErr res (outer ≡ a.declared)
        → Leads (Defines (SlotsStand (outer_slots a.declared)) d) (world_definitions outer ≡ one_type_more (length (outer_slots a.declared)) (world_definitions a.declared))
    defines-value d t h f ok err =
        let strict : definition sound.scope.slots (raw_defined d) ≡ Some t = ap (λ zs. definition zs (raw_defined d)) (sym (same-slots r w a sound))
        ∙ definition-strict (world_resources r w) (outer_slots a.declared) (slots-sound r w a sound) d t h f.formed in
        declares (Declaration.defined (raw_defined d)) (Slot.value t) [] (in_scope (Slot.value t) sound.scope) _ _
        (bind (definition sound.scope.slots (raw_defined d)) t (λ u. Some (in_scope (Slot.value u) sound.scope)) strict) (slot-extends sound.scope (Slot.value t) refl) refl refl refl
        (formed-value (world_resources r w) t f.formed) (defines-of (outer_slots a.declared) d t h)
        (λ m e. definitions-after r w a sound outer (Declaration.defined (raw_defined d)) (Slot.value t) [] m e _ _ _ _
        (ap (λ (k : ℕ). (world_definitions a.declared).types ++ k ∷ []) (index-next r w a sound)) (append-nil (world_definitions a.declared).exported)
        (append-nil (world_definitions a.declared).functions) (append-nil (world_definitions a.declared).exports))
        ok err

    pub defines-function : (d : ComponentFuncType) (s : Signature) → FollowsFunction (SlotsStand (outer_slots a.declared)) d s → IsFormedSignature scope s
        → Declared (Declaration.function (raw_function d)) → OnErr res (outer ≡ a.declared)
        → Leads (DefinesFunction (SlotsStand (outer_slots a.declared)) d) (world_definitions outer ≡ one_function_more (length (outer_slots a.declared)) (world_definitions a.declared))
    defines-function d s h f ok err =
        let strict : function_signature sound.scope.slots (raw_function d) ≡ Some s = ap (λ zs. function_signature zs (raw_function d)) (sym (same-slots r w a sound))
        ∙ function-strict (world_resources r w) (outer_slots a.declared) (slots-sound r w a sound) d s h f.params f.result_ in
        declares (Declaration.function (raw_function d)) (Slot.function s) [] (in_scope (Slot.function s) sound.scope) _ _
        (bind (function_signature sound.scope.slots (raw_function d)) s (λ u. Some (in_scope (Slot.function u) sound.scope)) strict) (slot-extends sound.scope (Slot.function s) refl)
        refl refl refl refl (function-of (outer_slots a.declared) d s h) (λ m e. definitions-after r w a sound outer (Declaration.function (raw_function d)) (Slot.function s) [] m e _ _ _ _
        (append-nil (world_definitions a.declared).types) (append-nil (world_definitions a.declared).exported)
        (ap (λ (k : ℕ). (world_definitions a.declared).functions ++ k ∷ []) (index-next r w a sound)) (append-nil (world_definitions a.declared).exports))
        ok err

    -- ---- types of the world, which are imported

    abbrev ShownAs : Option ℕ → ExternName → Type 0
    ShownAs slot name = ExportsOne scope (world_definitions a.declared) (world_definitions outer) slot name

    -- a declaration that is followed as it says
    imports-declared : (described : ComponentTypeRef) {slot : Option ℕ} → described_slot described ≡ slot → (name : ExternName) (d : Text × TypeMeaning) (x : Slot) → described_name name described ≡ []
        → takes_index (Declaration.imported name described) ≡ true → IsDeclared scope d → name ≡ exported_name d → is_slot_of (world_resources r w) x ≡ true
        → standing_at (Some x) ≡ Some (tree (named here name.text)) → named_type (outer_slots a.declared) here name.text described ≡ Some (d.1.declaration, x)
        → Declared (Declaration.imported name described) → OnErr res (outer ≡ a.declared) → Leads (λ m. m ≡ tree (named here name.text)) (ShownAs slot name)
    imports-declared described {slot} from name d x plain index declared is kept stands found ok err =
        let there : named_type sound.scope.slots here name.text described ≡ Some (d.1.declaration, x) = ap (λ zs. named_type zs here name.text described) (sym (same-slots r w a sound)) ∙ found in
        let seen : Seen = seen_type name d.1.declaration in
        let after : follow.Scope = see import_ seen (in_scope x sound.scope) in
        let extends : Extends sound.scope after x (seen ∷ []) =
        let plain = named-plain sound.scope.slots here name.text described d.1.declaration x there in
        record { slots = refl; plain = plain; imports = refl; are_types = refl; exports = refl; instances = refl; used = refl } in
        let meaning : TypeMeaning = record { declaration = d.1.declaration; external_id = name.external_id } in
        let meant : (name.text, meaning) ≡ d = λ j. (ap (λ (n : ExternName). n.text) is j, record { declaration = d.1.declaration; external_id = ap (λ (n : ExternName). n.external_id) is j }) in
        declares (Declaration.imported name described) x (seen ∷ []) after _ _ (type-step name described sound.scope d.1.declaration x there (ap is_simple is)) extends plain refl index kept
        (record { gives = λ m e. stands ∙ ap Some (sym e); only = λ m e. some_is m _ (sym e ∙ stands) }) (λ m e. record {
          declaration = d;
          there = declared.there;
          named_ = is;
          one_more = definitions-after r w a sound outer (Declaration.imported name described) x (seen ∷ []) m e _ _ _ _
              (append-nil (world_definitions a.declared).types) (ap (λ o. (world_definitions a.declared).exported ++ option_to_list o) from) (append-nil (world_definitions a.declared).functions)
              (ap (λ y. (world_definitions a.declared).exports ++ y ∷ []) meant);
        })
        ok err

    pub imports-type : (k : ℕ) (name : ExternName) → DeclaresSlot scope (SlotsStand (outer_slots a.declared)) name k → Declared (Declaration.imported name (refs.TypeEq k))
        → OnErr res (outer ≡ a.declared) → Leads (λ m. m ≡ tree (named here name.text)) (ShownAs (Some k) name)
    imports-type k name s ok err =
        let its : DeclaredAs scope (outer_slots a.declared) name (refs.TypeEq k) s.declaration = declared-slot scope (outer_slots a.declared) (slots-sound r w a sound) name k s in
        imports-declared (refs.TypeEq k) refl name s.declaration its.slot refl refl s.declared s.named_ its.kept its.stands its.found ok err

    pub imports-resource : (name : ExternName) → DeclaresResource scope name → Declared (Declaration.imported name refs.SubResource) → OnErr res (outer ≡ a.declared)
        → Leads (λ m. m ≡ tree (named here name.text)) (ShownAs None name)
    imports-resource name s ok err =
        let its : DeclaredAs scope (outer_slots a.declared) name refs.SubResource s.declaration = declared-resource scope (outer_slots a.declared) (slots-sound r w a sound) name s in
        imports-declared refs.SubResource refl name s.declaration its.slot refl refl s.declared s.named_ its.kept its.stands its.found ok err

-- ---- types of other interfaces

owner-alike : (r : Resolve) (w : WorldId) (p : Text) (o : TypeOwner) (a b : Bool)
    → ((is_met_owner r (owner.World w) o && a) && (same_place (of_interface p) (place_of r o) && b)) ≡ ((is_named_interface r o && a) && (same_place (of_interface p) (place_of r o) && b))
owner-alike r w p x a b = search std_rules

resources-alike : (r : Resolve) (w : WorldId) (p x : Text) → world_resources r w (of_interface p) x ≡ named_resources r (of_interface p) x
resources-alike r w p x = ap (λ test. list_any test (numbered_from 0 r.types.items)) (λ j e. owner-alike r w p e.1.owner (is_resource r e.0) (text_is e.1.name x) j)

-- what is known of a slot of the name of a named interface
record IsForeign (r : Resolve) (w : WorldId) (n : ℕ) (x : Slot) : Type 0 where
  pub plain : instance_types (x ∷ []) ≡ 0
  pub kept : is_slot_of (world_resources r w) x ≡ true
  pub stands : standing_at (Some x) ≡ Some (tree (number_tree r n))

foreign-slot : (r : Resolve) (w : WorldId) (n : ℕ) (x : Slot) → is_slot_for r n (Some x) ≡ true → IsForeign r w n x
foreign-slot r w n x h = search std_rules

slot-stands : (r : Resolve) (w : WorldId) (n : ℕ) (o : Option Slot) → is_slot_for r n o ≡ true → standing_at o ≡ Some (tree (number_tree r n))
slot-stands r w n y h = search std_rules

-- an import of a type, by an alias at most
pub record WorldImports (r : Resolve) (v v' : View) (n : ℕ) (known : List (ℕ × ℕ)) : Type 0 where
  pub stands : (k : ℕ) → known_slot known n ≡ Some k → v'.stands k (tree (number_tree r n))
  pub grows : Grows v v'
  pub scope_stays : v'.scope ≡ v.scope
  pub counted : v'.definitions ≡ v.definitions
  pub around_stays : v'.around ≡ v.around

module _ (r : Resolve) (w : WorldId) (count : ℕ) (a : Around) (maps : TypeEncodingMaps) (j : ℕ) (id : TypeId) (m : IsImportable (world_scope r w count a) j id.0) where
  abbrev importable : SoundOutside r w a
  importable = sound-outside r w a (importable-sound (is_sound_outside r w a) (standing_instances r a) j m.stands)

  pub world-source : IsSource r a j id.0
  world-source = record { def = m.def; name = m.name; there = m.there; named_ = m.named_; owned = m.owned; stands = importable-stands (is_sound_outside r w a) (standing_instances r a) j m.stands }

  abbrev ImportsTo : Around → Type 0
  ImportsTo a' = WorldImports r (world_view r w count a maps) (world_view r w count a' maps) id.0 a'.known

  was-known : ImportsTo a
  was-known = record {
    stands = λ k e. slot-stands r w id.0 (slice_get (outer_slots a.declared) k)
        (known-right r a.known (outer_slots a.declared) id.0 k (ap (are_right r a.known) (same-slots r w a importable) ∙ importable.right) e);
    grows = record { kept = λ i s h. h; more = omega arith; around_ = around-same refl; own_ = λ ns k. k };
    scope_stays = refl;
    counted = refl;
    around_stays = refl;
  }

  was-made : (al : Aliased) → IsAlias r a al → al.number ≡ id → ImportsTo (with_alias a al)
  was-made al is of_id =
      let s = importable in
      let source : Stands r a is.interface.0 al.number.0 is.name = stands r a al is in
      let x : Slot = source.slot in
      let foreign = foreign-slot r w al.number.0 x source.fits in
      let instance_there : slice_get s.scope.instances source.number ≡ Some source.instance = sym (ap (λ o. slice_get (option_map_or (λ z. z.instances) o []) source.number) s.followed) ∙ source.at in
      let same_number : al.instance ≡ source.number = some_same al.instance source.number (sym is.instance ∙ source.listed) in
      let step = alias-step s.scope al x source.instance (ap (slice_get s.scope.instances) same_number ∙ instance_there) source.path
      (ap (λ t. follow.find_type t source.instance.view.types) is.text ∙ source.found) in
      let followed : outer_scope (with_alias a al).declared ≡ Some (in_scope x s.scope) = steps-more new_scope s.scope (in_scope x s.scope) a.declared (alias_declared al) s.followed step in
      let right : are_right r (with_alias a al).known (outer_slots (with_alias a al).declared) ≡ true = still-right r a al is in
      let wide : Widens r w a (with_alias a al) x [] = record {
        before = s.scope;
        after = in_scope x s.scope;
        followed = s.followed;
        next = followed;
        extends = slot-extends s.scope x foreign.plain;
        listed = refl;
        right = right;
        kept = foreign.kept;
        instances = instances-left a.declared (alias_declared al) refl;
        inside = instances-kept a.declared (alias_declared al);
      } in
      let more : outer_slots (with_alias a al).declared ≡ outer_slots a.declared ++ x ∷ [] = slots-more r w a (with_alias a al) x [] wide s in
      record {
        stands = λ k e. slot-stands r w id.0 (slice_get (outer_slots (with_alias a al).declared) k) (known-right r (with_alias a al).known (outer_slots (with_alias a al).declared) id.0 k right e);
        grows = record {
          kept = λ i q h. subst (λ (zs : List Slot). SlotsStand zs i q) (sym more) (slots-kept x (outer_slots a.declared) i q h);
          more = omega (arith, ap length more, length-append (outer_slots a.declared) (x ∷ []));
          around_ = around-same (λ i. record { declared = wide.instances i; instances = []; known = [] });
          own_ = keeps-both [] (λ ns. keeps-alias r count (interfaces_in ns) (aliases_in ns) a al is) (directions-more a.declared (alias_declared al))
              (λ ds. grows-more ds a.declared (with_alias a al).declared (alias_declared al) refl refl);
        };
        scope_stays = scope-stays r w a (with_alias a al) x [] wide s count;
        around_stays = λ i. record { declared = wide.instances i; instances = []; known = [] };
        counted = definitions-after r w a s (with_alias a al).declared (alias_declared al) x []
            (declared-widens r w a s (with_alias a al).declared (alias_declared al) x [] (in_scope x s.scope) step (slot-extends s.scope x foreign.plain) refl foreign.kept refl) refl _ _ _ _
            (append-nil (world_definitions a.declared).types) (append-nil (world_definitions a.declared).exported) (append-nil (world_definitions a.declared).functions)
            (append-nil (world_definitions a.declared).exports);
      }

  pub world-imports : (a' : Around) → ReachesAround r id a a' → ImportsTo a'
  world-imports a' (as_before e) = subst ImportsTo (sym e) was-known
  world-imports a' (aliased al is of_id e) = subst ImportsTo (sym e) (was-made al is of_id)

-- one declaration more at most is held
pub reached-held : {r : Resolve} {id : TypeId} {a a' : Around} → ReachesAround r id a a' → declaration_count a'.declared ≤ declaration_count a.declared + 1
reached-held {r} {id} {a} {a'} (as_before e) = omega (arith, ap (λ (z : Around). declaration_count z.declared) e)
reached-held {r} {id} {a} {a'} (aliased al is of_id e) = outer-pushed a.declared a'.declared (alias_declared al) (ap (λ (z : Around). z.declared) e)

-- the slot of a new declaration has the next number, where what has been declared is sound
pub outer-slots-counted : (r : Resolve) (w : WorldId) (a : Around) → is_sound_outside r w a ≡ true → type_slots_of a.declared ≡ length (outer_slots a.declared)
outer-slots-counted r w a sound = index-next r w a (sound-outside r w a sound)
