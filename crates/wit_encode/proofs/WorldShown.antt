-- What an encoder of a world shows after a call that defines, imports and reaches types.
use Rattle.std.proofs.Common.{rules as std_rules, ◌≡◌, refl, sym, subst, ap, ◌∙◌, ℕ, true, ◌&&◌, if◌then◌else◌, List, [], ◌∷◌, ◌++◌, append-nil, filter_map, Result, Ok, Err, IfOk, OnOk, OnErr, Some, length, arith, zero, suc, ◌<◌, ◌≤◌, ◌⊎◌, inl, inr, slice_get, take, option_to_list, Option, None, String, map}
use Rattle.std.proofs.lemmas.{List.Elements.filter_map-append, List.Elements.Contains-append_cases, Option.same_Some as some-same, List.Concat.flat_map-append}
use Rattle.std.proofs.lemmas.{List.Folds.list_all-append, Bool.and_from as both, List.map-append, Option.slice_get_within, List.length-take}
use Rattle.std.specs.{List.list_all, List.Contains, List.AllZip, Option.option_map_or, Option.is_some, Prelude.option_and_then}
use Rattle.wit_model.specs.declared.model.{Resolve.Resolve, WorldId.WorldId, World.World, TypeDef.TypeDef, TypeId.TypeId, WorldKey.WorldKey}
use Rattle.wit_model.specs.declared.model.{Function.Function, WorldItem.WorldItem, InterfaceId.InterfaceId, TypeOwner.TypeOwner, «Type».«Type» as ValueType}
use Rattle.comp_meaning.specs.Follow.{Seen, Slot, in_scope, instance_types, Shown, new_scope}
use Rattle.encode_types.specs.declared.maps.TypeEncodingMaps.{TypeEncodingMaps}
use Rattle.encode_types.specs.{Slots.Standing, Standing.is_slot_of, Resources.is_named_interface, KeyLaws.text_same, Scope.Scope, Scope.Others, Counts.own_name}
use Rattle.encode_types.specs.{View.Told, View.View, View.AddsSlot, View.Grows, View.Agrees, Plan.foreign_owner, Plan.Reaches, Plan.itself, Plan.through}
use Rattle.encode_types.specs.Known.{Around, are_right, outer_instances, outer_scope, outer_slots, standing_instances}
use Rattle.encode_types.specs.{Kinds.parts_of, Maps.IsKnown}
use Rattle.encode_types.proofs.{Around.around-same, Lists.none-in}
use Rattle.encode_names.specs.Rebuilt.{is_type_shown, others_seen, types_seen}
use Rattle.encode_names.specs.WorldSteps.{AddsTypes, Entry, Entries, ShowsEntries, interfaces_among}
use Rattle.encode_names.proofs.{Rebuilt.others-before, WorldSteps.types-appended, EntriesRebuilt.entries_are_rebuilt}
use Rattle.wit_encode.specs.{Instance.Contents, Instance.no_view, OwnerScope.IsScopeOf, OwnerScope.InstancesStand, OwnerScope.IsTypeOf, OwnerScope.functions_of}
use Rattle.wit_encode.specs.{WrittenNames.instance_declarations, WorldItems.HasShown, WorldItems.all_done, WorldItems.types_among}
use Rattle.wit_encode.specs.Worlds.{KeepsTold, declared_type, is_sound_outside, others_of, seen_imports, world_resources, world_scope, world_view, instances_declared, WorldEncoder, world_around, world_definitions, world_view_of}
use Rattle.wit_encode.specs.WorldUses.{item_types, interfaces_before, StandBefore, ItemsMeetStanding}
use Rattle.wit_encode.proofs.{Contents.IsOf, Contents.Grew, Contents.grew-adds, Contents.grew-grows, Mapped.contains-filter, Validity.valid-ownerless}
use Rattle.wit_encode.proofs.Meeting.{named-meets, unnamed-meets, part-uses}
use Rattle.wit_encode.proofs.{Numbers.after-at, Naming.named-owner, Owned.part-met, Directions.begins-here, Directions.numbers_of, Directions.order-then}
use Rattle.wit_encode.proofs.OwnerScope.{AllStay, IsUse, Stay, function-refers, named-stays, type-stays, types-stay, use-at, use-foreign}
use Rattle.base_lemmas.proofs.{Bools.left_of as first_true, Bools.right_of as second_true, Options.some_same as one-some, Lists.slice_take, Options.there as some-of}
use Rattle.base_lemmas.proofs.Elements.{all-contained, contains-one, get-contains, last_of as one-contained, map_from as contains-mapped, zip_long}
use Rattle.std.specs.declared.alloc.Global.{Global}
use Rattle.indexmap.specs.IndexMap.{values}
use Rattle.wit_model.specs.{Lookup.key_text, Lookup.type_at, Lookup.world_at, Text.Text, Text.text_of, Meaning.TypeMeaning}
use Rattle.wit_model.specs.Parts.{met_by, met_of, same_owner, function_types, function_numbers, has_owner, used_by_type, used_by_function}
use Rattle.wit_model.specs.Rules.{is_use, in_list, passes, package_number, text_is, key_in_range, item_in_range, entries_in_range, item_type, uses_stand_before, used_interfaces, used_types, used_by_number, import_stands, export_stands}
use Rattle.wit_model.specs.Uses.{used_interface, interface_used_by, has, item_interface, items_of}
use Rattle.wit_model.specs.Valid.{IsValid, numbers_in_range, order_of_items, world_items, is_place, functions_of_world, item_function}
use Rattle.wit_model.proofs.{Owners.met_step, OnePath.found-in, PartsLemmas.owner_same as same-owner, TextLemmas.named_too}
use Rattle.wit_model.proofs.{Elements.contains-filter_map, Elements.contains-get, Elements.contains-flat, Elements.has-contains, ValidLemmas.world_passes}
use Rattle.encode_shown.proofs.{Items.typed-item, Zips.given-contains, Basics.valid-references}
use Rattle.encode_shown.specs.Views.{ShowsItem}
use Rattle.comp_meaning.specs.Follow as follow
use Rattle.wit_model.specs.declared.model.WorldKey.TheVariants as key
use Rattle.wit_model.specs.declared.model.WorldItem.TheVariants as item
use Rattle.wit_model.specs.declared.model.TypeOwner.TheVariants as owner
use Rattle.wit_model.specs.declared.model.«Type».TheVariants as ty

-- ---- What one declaration more leaves of the scope of a world's component type.

-- ---- one slot more

-- The scope has one slot more, which is no instance type, and has imported these types.
pub record Extends (s s' : follow.Scope) (x : Slot) (types : List Seen) : Type 0 where
  pub slots : s'.slots ≡ s.slots ++ x ∷ []
  pub plain : instance_types (x ∷ []) ≡ 0
  pub imports : s'.imports ≡ s.imports ++ types
  pub are_types : list_all (λ t. is_type_shown t.shown) types ≡ true
  pub exports : s'.exports ≡ s.exports
  pub instances : s'.instances ≡ s.instances
  pub used : s'.used ≡ s.used

-- a slot alone
pub slot-extends : (s : follow.Scope) (x : Slot) → instance_types (x ∷ []) ≡ 0 → Extends s (in_scope x s) x []
slot-extends s x plain = record { slots = refl; plain = plain; imports = sym (append-nil s.imports); are_types = refl; exports = refl; instances = refl; used = refl }

-- From what stands around an encoder of a world to the next: one slot more, with the same instances, and what is listed of aliases is right.
pub record Widens (r : Resolve) (w : WorldId) (a a' : Around) (x : Slot) (types : List Seen) : Type 0 where
  pub before : follow.Scope
  pub after : follow.Scope
  pub followed : outer_scope a.declared ≡ Some before
  pub next : outer_scope a'.declared ≡ Some after
  pub extends : Extends before after x types
  pub listed : a'.instances ≡ a.instances
  pub right : are_right r a'.known (outer_slots a'.declared) ≡ true
  pub kept : is_slot_of (world_resources r w) x ≡ true
  pub instances : instance_declarations a'.declared ≡ instance_declarations a.declared
  pub inside : instances_declared a'.declared ≡ instances_declared a.declared

-- ---- what is sound

-- what has been declared can be followed, and what is listed is right
pub record SoundOutside (r : Resolve) (w : WorldId) (a : Around) : Type 0 where
  pub scope : follow.Scope
  pub followed : outer_scope a.declared ≡ Some scope
  pub slots : list_all (is_slot_of (world_resources r w)) scope.slots ≡ true
  pub right : are_right r a.known scope.slots ≡ true

pub sound-outside : (r : Resolve) (w : WorldId) (a : Around) → is_sound_outside r w a ≡ true → SoundOutside r w a
sound-outside r w a h = search std_rules

pub sound-again : (r : Resolve) (w : WorldId) (a : Around) → SoundOutside r w a → is_sound_outside r w a ≡ true
sound-again r w a s = search std_rules

-- ---- the scope stays

module _ (r : Resolve) (w : WorldId) (a a' : Around) (x : Slot) (types : List Seen) (m : Widens r w a a' x types) (sound : SoundOutside r w a) where
  slots-before : outer_slots a.declared ≡ m.before.slots
  slots-before = ap (λ o. option_map_or (λ s. s.slots) o []) m.followed

  slots-after : outer_slots a'.declared ≡ m.after.slots
  slots-after = ap (λ o. option_map_or (λ s. s.slots) o []) m.next

  pub slots-more : outer_slots a'.declared ≡ outer_slots a.declared ++ x ∷ []
  slots-more = slots-after ∙ m.extends.slots ∙ ap (λ xs. xs ++ x ∷ []) (sym slots-before)

  sound-slots : outer_slots a.declared ≡ sound.scope.slots
  sound-slots = ap (λ o. option_map_or (λ s. s.slots) o []) sound.followed

  instances-stay : outer_instances a'.declared ≡ outer_instances a.declared
  instances-stay = ap (λ o. option_map_or (λ s. s.instances) o []) m.next ∙ m.extends.instances ∙ sym (ap (λ o. option_map_or (λ s. s.instances) o []) m.followed)

  standing-stay : standing_instances r a' ≡ standing_instances r a
  standing-stay = search std_rules

  pub still-sound : SoundOutside r w a'
  still-sound =
      let test = is_slot_of (world_resources r w) in
      let more : m.after.slots ≡ sound.scope.slots ++ x ∷ [] = sym slots-after ∙ slots-more ∙ ap (λ xs. xs ++ x ∷ []) sound-slots in
      let slots = ap (list_all test) more ∙ list_all-append test sound.scope.slots (x ∷ []) ∙ both (list_all test sound.scope.slots) (test x && true) sound.slots (both (test x) true m.kept refl) in
      record { scope = m.after; followed = m.next; slots = slots; right = ap (are_right r a'.known) (sym slots-after) ∙ m.right }

  imports-after : seen_imports a'.declared ≡ seen_imports a.declared ++ types
  imports-after = ap (λ o. option_map_or (λ s. s.imports) o []) m.next ∙ m.extends.imports ∙ ap (λ xs. xs ++ types) (sym (ap (λ o. option_map_or (λ s. s.imports) o []) m.followed))

  same-types : instance_types (outer_slots a'.declared) ≡ instance_types (outer_slots a.declared)
  same-types = search (std_rules, types-appended (outer_slots a.declared) (x ∷ []), slots-more)

  others-stay : (count : ℕ) → others_of w count a' ≡ others_of w count a
  others-stay count =
      let imports = ap (others_seen 0) imports-after ∙ others-before 0 (seen_imports a.declared) types m.extends.are_types in
      let exports = ap (λ o. option_map_or (λ s. s.exports) o []) m.next ∙ m.extends.exports ∙ sym (ap (λ o. option_map_or (λ s. s.exports) o []) m.followed) in
      let used = ap (λ o. option_map_or (λ s. s.used) o []) m.next ∙ m.extends.used ∙ sym (ap (λ o. option_map_or (λ s. s.used) o []) m.followed) in
      λ i. record {
        world = Some w.0;
        listed = m.listed i;
        instance_count = count;
        imports = imports i;
        exports = exports i;
        instances = instances-stay i;
        instance_types = same-types i;
        used = used i;
        declared = m.inside i;
      }

  same-sound : is_sound_outside r w a' ≡ is_sound_outside r w a
  same-sound = sound-again r w a' still-sound ∙ sym (sound-again r w a sound)

  pub scope-stays : (count : ℕ) → world_scope r w count a' ≡ world_scope r w count a
  scope-stays count = λ i. record (world_scope r w count a) { instances = if same-sound i then standing-stay i else []; is_sound = same-sound i; others = others-stay count i }

  pub exports-more : filter_map declared_type (seen_imports a'.declared) ≡ filter_map declared_type (seen_imports a.declared) ++ filter_map declared_type types
  exports-more = ap (filter_map declared_type) imports-after ∙ filter_map-append declared_type (seen_imports a.declared) types

-- ---- a call

abbrev slots_held : Around → Contents
slots_held a = record { slots = outer_slots a.declared; shown = no_view; is_followed = true; types = []; exported = []; functions = [] }

-- what a call that adds a slot ensures
pub record WorldCalls {E : Type 0} (res : Result ℕ E) (v v' : View) (P : Standing → Type 0) (counts : Type 0) : Type 0 where
  pub ok : IfOk res (λ k. AddsSlot v v' k P)
  pub grows : Grows v v'
  pub scope_stays : v'.scope ≡ v.scope
  pub around_stays : v'.around ≡ v.around
  pub counted : OnOk res counts

pub world-calls : {E : Type 0} (res : Result ℕ E) (r : Resolve) (w : WorldId) (count : ℕ) (a a' : Around) (m : TypeEncodingMaps) (P : Standing → Type 0) (counts : Type 0) (x : Slot)
    (types : List Seen) → is_sound_outside r w a ≡ true → IsOf x P
    → IfOk res (λ k. (k ≡ length (outer_slots a.declared)) × Widens r w a a' x types × ((told : Told) → KeepsTold r count a told → KeepsTold r count a' told) × counts) → OnErr res (a' ≡ a)
    → WorldCalls res (world_view r w count a m) (world_view r w count a' m) P counts
world-calls (Ok k) r w count a a' m P counts x types sound is h e =
    let s = sound-outside r w a sound in
    let g : Grew (slots_held a) (slots_held a') x = record { slots = slots-more r w a a' x types h.1 s; functions_shown = refl; followed = refl } in
    let q = grew-grows (slots_held a) (slots_held a') x g in
    record {
      ok = grew-adds (slots_held a) (slots_held a') x k P g h.0 is;
      grows = record { kept = q.kept; more = q.more; around_ = around-same (λ j. record { declared = h.1.instances j; instances = []; known = [] }); own_ = h.2 };
      scope_stays = scope-stays r w a a' x types h.1 s count;
      around_stays = λ j. record { declared = h.1.instances j; instances = []; known = [] };
      counted = h.3;
    }
world-calls (Err q) r w count a a' m P counts x types sound is h e = search std_rules

-- ---- What an item of a world meets is of the world, and stands before it, or is of an interface that stands before it.

-- ---- beginnings of lists

taken-at : {A : Type 0} (xs : List A) (k p : ℕ) (x : A) → slice_get (take k xs) p ≡ Some x → (p < k) × (slice_get xs p ≡ Some x)
taken-at xs k p x h =
    let within = slice_get_within (take k xs) p x h in
    let low : p < k = omega (arith, within, length-take k xs) in
    (low, sym (slice_take xs k p low) ∙ h)

-- what is given before a place is given before a later one
given-later : {A B : Type 0} (f : A → Option B) (xs : List A) (p k : ℕ) (y : B) → p ≤ k → Contains (filter_map f (take p xs)) y → Contains (filter_map f (take k xs)) y
given-later f xs p k y l c =
    let found = given-contains f (take p xs) y c in
    let place = contains-get (take p xs) found.0 found.1 in
    let there = taken-at xs p place.0 found.0 place.1 in
    contains-filter_map f (take k xs) found.0 y (get-contains (take k xs) place.0 found.0 (slice_take xs k place.0 (omega (arith, l, there.0)) ∙ there.1))
    (subst (λ o. Contains (option_to_list o) y) (sym found.2) (contains-one y))

-- ---- a use of another interface

-- the interface that an alias of a part uses
used-of : (r : Resolve) (def : TypeDef) (id : TypeId) (def' : TypeDef) (i : InterfaceId) → is_use r def ≡ true → Contains (parts_of def.kind) (ty.Id id) → type_at r id.0 ≡ Some def'
    → def'.owner ≡ owner.Interface i → used_interface r def ≡ Some i.0
used-of r def id def' i uses c is owns = search std_rules

module _ (r : Resolve) (v : IsValid r) (id : WorldId) (w : World) (there : world_at r id.0 ≡ Some w) where
  abbrev pub items : List WorldItem
  items = items_of w

  abbrev pub home : TypeOwner
  home = owner.World id

  abbrev pub types_before : ℕ → List ℕ
  types_before k = filter_map item_type (take k items)

  ready : (k : ℕ) (i : WorldItem) → slice_get items k ≡ Some i → uses_stand_before r id.0 (take k items) i ≡ true
  unfolding order_of_items
  ready k i at = after-at (uses_stand_before r id.0) [] items k i (world_passes order_of_items r v.rules.order_of_items id.0 w there) at

  -- the interfaces, and the types of the world, that an item uses
  pub interfaces-ready : (k : ℕ) (i : WorldItem) → slice_get items k ≡ Some i → (j : ℕ) → Contains (used_interfaces r i) j → Contains (interfaces_before w k) j
  interfaces-ready k i at j c = has-contains (interfaces_before w k) j (all-contained (has (interfaces_before w k)) (used_interfaces r i) j
      (first_true (list_all (has (interfaces_before w k)) (used_interfaces r i)) _ (ready k i at)) c)

  types-ready : (k : ℕ) (i : WorldItem) → slice_get items k ≡ Some i → (x : ℕ) → Contains (used_types r id.0 i) x → Contains (types_before k) x
  types-ready k i at x c = has-contains (types_before k) x (all-contained (has (types_before k)) (used_types r id.0 i) x
      (second_true (list_all (has (interfaces_before w k)) (used_interfaces r i)) _ (ready k i at)) c)

  -- the item of a type of the world before a place
  record TypeItem (k x : ℕ) : Type 0 where
    pub place : ℕ
    pub before : place < k
    pub id' : TypeId
    pub at : slice_get items place ≡ Some (item.Type_ id')
    pub same : id'.0 ≡ x

  type-item : (k x : ℕ) → Contains (types_before k) x → TypeItem k x
  type-item k x c =
      let found = given-contains item_type (take k items) x c in
      let place = contains-get (take k items) found.0 found.1 in
      let there = taken-at items k place.0 found.0 place.1 in
      let typed = typed-item found.0 x found.2 in
      record { place = place.0; before = there.0; id' = typed.0; at = there.1 ∙ ap Some typed.1; same = typed.2 }

  module _ (scope : Scope) (k : ℕ) (stand : StandBefore r w k scope.instances) where
    -- a type of another interface, an instance of which stands
    record StandingUse (def : TypeDef) : Type 0 where
      pub interface : InterfaceId
      pub owns : def.owner ≡ owner.Interface interface
      pub stands : Contains scope.instances interface.0

    -- each named type that is met is of the world, and stands before place k or there
    record Among (n : ℕ) : Type 0 where
      pub own : Stay r v home n
      pub listed : (x : ℕ) → Contains (met_by (met_of r) n) x → Contains (types_before (suc k)) x

    abbrev Meets : ℕ → Type 0
    Meets n = Among n ⊎ ((def : TypeDef) → type_at r n ≡ Some def → StandingUse def)

    -- the parts of a type of the world that stands before place k, or there
    use-stands : (n : ℕ) (def : TypeDef) → type_at r n ≡ Some def → TypeItem (suc k) n → (id' : TypeId) → Contains (parts_of def.kind) (ty.Id id') → (def' : TypeDef) → type_at r id'.0 ≡ Some def'
        → is_use r def ≡ true → IsUse r v home def' → StandingUse def'
    use-stands n def is t id' c def' is' uses u =
        let used : interface_used_by r t.id'.0 ≡ Some u.interface.0 = ap (λ m. option_and_then (used_interface r) (type_at r m)) t.same ∙ ap (option_and_then (used_interface r)) is ∙ used-of r def id'
        def' u.interface uses c is' u.owns in
        record {
          interface = u.interface;
          owns = u.owns;
          stands = stand u.interface.0 (given-later item_interface items t.place k u.interface.0 (omega (arith, t.before))
              (interfaces-ready t.place (item.Type_ t.id') t.at u.interface.0 (subst (λ o. Contains (option_to_list o) u.interface.0) (sym used) (contains-one u.interface.0))))
              (subst (λ (o : TypeOwner). is_named_interface r o ≡ true) u.owns (named-owner r v def' u.named_));
        }

    part-listed : (n : ℕ) (def : TypeDef) → type_at r n ≡ Some def → Among n → (name : Option (String Global)) → def.name ≡ name → (id' : TypeId) → Contains (parts_of def.kind) (ty.Id id')
        → Stay r v home id'.0 → (x : ℕ) → Contains (met_by (met_of r) id'.0) x → Contains (types_before (suc k)) x
    part-listed n def is a None e id' c stay x d = a.listed x (subst (λ (ns : List ℕ). Contains ns x) (sym (unnamed-meets r (valid-references r v) n def is e))
        (part-uses r (valid-references r v) def id' x c d))
    part-listed n def is a (Some name) e id' c stay x d =
        let t = type-item (suc k) n (a.listed n (named-meets r (valid-references r v) n def name is e)) in
        let used : Contains (used_by_number r t.id'.0) x = subst (λ (o : Option TypeDef). Contains (option_map_or (used_by_type r) o []) x) (sym (ap (type_at r) t.same ∙ is))
        (part-uses r (valid-references r v) def id' x c d) in
        given-later item_type items t.place (suc k) x (omega (arith, t.before))
        (types-ready t.place (item.Type_ t.id') t.at x (contains-filter (has_owner r home) (used_by_number r t.id'.0) x (all-contained (has_owner r home) (met_by (met_of r) id'.0) x stay d) used))

    part-meets : (n : ℕ) (def : TypeDef) → type_at r n ≡ Some def → Among n → (id' : TypeId) → Contains (parts_of def.kind) (ty.Id id') → Meets id'.0
    part-meets n def is a id' c = part-met r v home n def is id' c a.own (λ stay. inl (record { own = stay; listed = part-listed n def is a def.name refl id' c stay }))
        (λ named here uses. inr (λ def' is'. let name = some-of def.name named in
        use-stands n def is (type-item (suc k) n (a.listed n (named-meets r (valid-references r v) n def name.0 is name.1))) id' c def' is' uses
        (use-at r v home n def is id' c named here uses def' is')))

    standing-foreign : (def : TypeDef) → StandingUse def → foreign_owner None def.owner ≡ None → ⊥
    standing-foreign def u f = cc (ap (foreign_owner None) (sym u.owns) ∙ f)

    reached-meets : (t : ValueType) (n : ℕ) → ((id' : TypeId) → t ≡ ty.Id id' → Meets id'.0) → Reaches r None t n → Meets n
    reached-meets _ _ p (itself id') = p id' refl
    reached-meets _ _ p (through id' def t n at f c re) = reached-meets t n (λ id'' e. further (p id' refl) id'' (subst (λ (x : ValueType). Contains (parts_of def.kind) x) e c)) re
      where
        further : Meets id'.0 → (id'' : TypeId) → Contains (parts_of def.kind) (ty.Id id'') → Meets id''.0
        further (inl a) id'' c = part-meets id'.0 def at a id'' c
        further (inr u) id'' c = absurd (standing-foreign def (u def at) f)

    -- of what is met from types that are among them, nothing else is of another interface
    met-stand : (s : IsScopeOf r home scope) (ts : List ValueType) → ((id' : TypeId) → Contains ts (ty.Id id') → Among id'.0) → InstancesStand r scope ts
    met-stand s ts among n def i m is f = go (reached-meets m.0 n (λ id' e. inl (among id' (subst (λ (x : ValueType). Contains ts x) e m.1))) (subst (λ o. Reaches r o m.0 n) s.own m.2))
      where
        foreign : foreign_owner None def.owner ≡ Some i
        foreign = ap (λ o. foreign_owner o def.owner) (sym s.own) ∙ f

        owned : (o : TypeOwner) → foreign_owner None o ≡ Some i → o ≡ owner.Interface i
        owned (owner.Interface j) e = ap owner.Interface (some-same j i e)
        owned (owner.World x) e = absurd cc
        owned owner.None e = absurd cc

        unnamed-home : (name : Option (String Global)) → def.name ≡ name → Among n → Contains scope.instances i.0
        unnamed-home None e a = cc (sym (ap (foreign_owner None) (same-owner def.owner owner.None (valid-ownerless r v n def is e))) ∙ foreign)
        unnamed-home (Some name) e a = cc (ap (foreign_owner None) (sym (named-stays r v home n def is a.own (ap is_some e))) ∙ foreign)

        same-interface : (j : InterfaceId) → owner.Interface j ≡ owner.Interface i → j ≡ i
        same-interface j e = cc

        go : Meets n → Contains scope.instances i.0
        go (inl a) = unnamed-home def.name refl a
        go (inr u) =
            let use_ = u def is in
            subst (λ (j : InterfaceId). Contains scope.instances j.0) (same-interface use_.interface (sym use_.owns ∙ owned def.owner foreign)) use_.stands

  -- ---- items

  -- the entries are in range
  pub entries-range : (entries_in_range r w.imports.entries && entries_in_range r w.exports.entries) ≡ true
  unfolding numbers_in_range
  entries-range = second_true (passes (in_list r.packages.items) (package_number w.package)) _ (second_true (is_place id.0) _ (world_passes numbers_in_range r v.rules.numbers_in_range id.0 w there))

  pub entries-stand : (list_all (λ e. import_stands r id.0 e.0 e.1) w.imports.entries && list_all (λ e. export_stands r e.0 e.1) w.exports.entries) ≡ true
  unfolding world_items
  entries-stand = world_passes world_items r v.rules.world_items id.0 w there

  imports-stand : (e : WorldKey × WorldItem) → Contains w.imports.entries e → import_stands r id.0 e.0 e.1 ≡ true
  imports-stand e c = all-contained (λ e. import_stands r id.0 e.0 e.1) w.imports.entries e (first_true (list_all (λ e. import_stands r id.0 e.0 e.1) w.imports.entries) _ entries-stand) c

  -- no export is a type
  pub no-type-exported : (k : WorldKey) (t : TypeId) → Contains w.exports.entries (k, item.Type_ t) → ⊥
  no-type-exported k t c = wrong k (all-contained (λ e. export_stands r e.0 e.1) w.exports.entries (k, item.Type_ t)
      (second_true (list_all (λ e. import_stands r id.0 e.0 e.1) w.imports.entries) _ entries-stand) c)
    where
      wrong : (k : WorldKey) → export_stands r k (item.Type_ t) ≡ true → ⊥
      wrong (key.Name name) h = cc
      wrong (key.Interface i) h = cc

  -- a type that is an item is one of the world
  pub own-type : (k : ℕ) (id' : TypeId) → slice_get items k ≡ Some (item.Type_ id') → IsTypeOf r home id'
  own-type k id' at = elim (Contains-append_cases (values w.imports) (values w.exports) (item.Type_ id') (get-contains items k (item.Type_ id') at)) [
    | inl c ↦ (let e = contains-mapped (λ (e : WorldKey × WorldItem). e.1) w.imports.entries (item.Type_ id') c in
        let range = second_true (key_in_range r e.0.0) _ (all-contained (λ e. key_in_range r e.0 && item_in_range r e.1) w.imports.entries e.0
        (first_true (entries_in_range r w.imports.entries) _ entries-range) e.1) in
        imported e.0.0 (subst (λ (i : WorldItem). import_stands r id.0 e.0.0 i ≡ true) e.2 (imports-stand e.0 e.1)) (subst (λ (i : WorldItem). item_in_range r i ≡ true) e.2 range))
    | inr c ↦ (let e = contains-mapped (λ (e : WorldKey × WorldItem). e.1) w.exports.entries (item.Type_ id') c in
        absurd (no-type-exported e.0.0 id' (subst (λ (i : WorldItem). Contains w.exports.entries (e.0.0, i)) e.2 e.1)))
  ]
    where
      imported : (k : WorldKey) → import_stands r id.0 k (item.Type_ id') ≡ true → item_in_range r (item.Type_ id') ≡ true → IsTypeOf r home id'
      imported (key.Interface i) h range = absurd cc
      imported (key.Name name) h range =
          let found = found-in r.types.items id'.0 range in
          let test : (text_is found.0.name (text_of name) && same_owner found.0.owner home) ≡ true =
          subst (λ (o : Option TypeDef). passes (λ def. text_is def.name (text_of name) && same_owner def.owner home) o ≡ true) found.1 h in
          let named_ = named_too found.0.name (text_of name) (first_true (text_is found.0.name (text_of name)) _ test) in
          record { def = found.0; there = found.1; named_ = named_; owned = same-owner found.0.owner home (second_true (text_is found.0.name (text_of name)) _ test) }

  -- a function that is an item is one of the world
  pub function-there : (f : Function) (k : ℕ) → slice_get items k ≡ Some (item.Function f) → Contains (functions_of r home) f
  function-there f k at = subst (λ (o : Option World). Contains (option_map_or functions_of_world o []) f) (sym there)
      (contains-filter_map item_function items (item.Function f) f (get-contains items k (item.Function f) at) (contains-one f))

  function-stays : (f : Function) (k : ℕ) → slice_get items k ≡ Some (item.Function f) → AllStay r v home (function_types f)
  function-stays f k at = types-stay r v home f (function-there f k at)

  -- the named types that it meets stand before it
  pub function-listed : (f : Function) (k : ℕ) → slice_get items k ≡ Some (item.Function f) → (id' : TypeId) → Contains (function_types f) (ty.Id id') → (x : ℕ) → Contains (met_by (met_of r) id'.0) x
      → Contains (types_before k) x
  function-listed f k at id' c x d =
      types-ready k (item.Function f) at x (contains-filter (has_owner r home) (used_by_function r f) x (all-contained (has_owner r home) (met_by (met_of r) id'.0) x (function-stays f k at id' c) d)
      (contains-flat (met_by (met_of r)) (function_numbers f) id'.0 x (function-refers r v f id' c) d))

  -- the named types that the parts of a type meet stand before it, but for those of other interfaces
  pub parts-listed : (k : ℕ) (t : TypeId) → slice_get items k ≡ Some (item.Type_ t) → (own : IsTypeOf r home t) → (id' : TypeId) → Contains (parts_of own.def.kind) (ty.Id id') → (def' : TypeDef)
      → type_at r id'.0 ≡ Some def' → foreign_owner None def'.owner ≡ None → (x : ℕ) → Contains (met_by (met_of r) id'.0) x → Contains (types_before k) x
  parts-listed k t at own id' c def' at' f x d = part-met r v home t.0 own.def own.there id' c (type-stays r v home t own t (contains-one (ty.Id t)))
      (λ stay. types-ready k (item.Type_ t) at x (contains-filter (has_owner r home) (used_by_number r t.0) x (all-contained (has_owner r home) (met_by (met_of r) id'.0) x stay d)
      (subst (λ (o : Option TypeDef). Contains (option_map_or (used_by_type r) o []) x) (sym own.there) (part-uses r (valid-references r v) own.def id' x c d))))
      (λ named here uses. absurd (use-foreign r v home def' (use-at r v home t.0 own.def own.there id' c named here uses def' at') f))

  -- a type is imported under its name
  pub type-key : (k : WorldKey) (t : TypeId) → Contains w.imports.entries (k, item.Type_ t) → (own : IsTypeOf r home t) (name : String Global) → own.def.name ≡ Some name → text_of name ≡ key_text r k
  type-key k t c own name named = of k (imports-stand (k, item.Type_ t) c)
    where
      of : (k : WorldKey) → import_stands r id.0 k (item.Type_ t) ≡ true → text_of name ≡ key_text r k
      of (key.Interface i) h = absurd cc
      of (key.Name n) h =
          let test : (text_is own.def.name (text_of n) && same_owner own.def.owner home) ≡ true =
          subst (λ (o : Option TypeDef). passes (λ def. text_is def.name (text_of n) && same_owner def.owner home) o ≡ true) own.there h in
          text_same (text_of name) (text_of n) (ap (λ o. text_is o (text_of n)) (sym named) ∙ first_true (text_is own.def.name (text_of n)) _ test)

  module _ (k : ℕ) (scope : Scope) (s : IsScopeOf r home scope) (stand : StandBefore r w k scope.instances) where
    type-stands : (id' : TypeId) → slice_get items k ≡ Some (item.Type_ id') → InstancesStand r scope (ty.Id id' ∷ [])
    type-stands id' at = met-stand scope k stand s (ty.Id id' ∷ []) (λ id'' c. record {
      own = type-stays r v home id' (own-type k id' at) id'' c;
      listed = λ x d. subst (λ (n : ℕ). Contains (types_before (suc k)) n) (alone id'' (one-contained (ty.Id id') (ty.Id id'') c) x d) itself-before;
    })
      where
        own : IsTypeOf r home id'
        own = own-type k id' at

        itself-before : Contains (types_before (suc k)) id'.0
        itself-before = contains-filter_map item_type (take (suc k) items) (item.Type_ id') id'.0
            (get-contains (take (suc k) items) k (item.Type_ id') (slice_take items (suc k) k (omega arith) ∙ at)) (contains-one id'.0)

        met-alone : (name : Option (String Global)) → own.def.name ≡ name → (x : ℕ) → Contains (met_by (met_of r) id'.0) x → id'.0 ≡ x
        met-alone None e x d = absurd (cc (sym (ap is_some e) ∙ own.named_))
        met-alone (Some name) e x d = one-contained id'.0 x (subst (λ (ns : List ℕ). Contains ns x)
            (met_step r (valid-references r v) id'.0 own.def own.there ∙ ap (λ o. option_map_or (λ x. id'.0 ∷ []) o (used_by_type r own.def)) e) d)

        alone : (id'' : TypeId) → ty.Id id' ≡ ty.Id id'' → (x : ℕ) → Contains (met_by (met_of r) id''.0) x → id'.0 ≡ x
        alone id'' e x d = met-alone own.def.name refl x (subst (λ (y : TypeId). Contains (met_by (met_of r) y.0) x) (cc) d)

    function-stands : (f : Function) → slice_get items k ≡ Some (item.Function f) → InstancesStand r scope (function_types f)
    function-stands f at = met-stand scope k stand s (function_types f) (λ id' c. record {
      own = function-stays f k at id' c;
      listed = λ x d. given-later item_type items k (suc k) x (omega arith) (function-listed f k at id' c x d);
    })

pub items_meet_standing : ItemsMeetStanding
items_meet_standing r id w k i scope v there at s stand = by i at
  where
    by : (i : WorldItem) → slice_get (items_of w) k ≡ Some i → InstancesStand r scope (item_types i)
    by (item.Interface n stability docs external_id) at m def j met is f = none-in met.0 met.1
    by (item.Type_ id') at m def j met is f = type-stands r v id w there k scope s stand id' at m def j met is f
    by (item.Function f') at m def j met is f = function-stands r v id w there k scope s stand f' at m def j met is f

-- ---- the types that have been imported are known from what has been exported

abbrev pub type_seen : Text × TypeMeaning → Seen
type_seen d = record { key = d.0; shown = Shown.declares d.1.declaration; external_id = d.1.external_id }

pub types-back : (xs : List Seen) → types_seen xs ≡ map type_seen (filter_map declared_type xs)
types-back [] = refl
types-back (s ∷ ss) = search (std_rules, types-back ss)

-- ---- a call

module _ (r : Resolve) (w : World) (e e' : WorldEncoder) (done : Entries) (h : HasShown r w e done)
    (stays : (world_view_of e'.resolve.now e').scope ≡ (world_view_of e.resolve.now e).scope) where
  -- read in the same packages
  packages-stay : e'.resolve.now ≡ r
  packages-stay = ap (λ (s : Scope). s.packages) stays ∙ h.packages_

  scope-same : (world_view_of r e').scope ≡ (world_view_of r e).scope
  scope-same = ap (λ (z : Resolve). (world_view_of z e').scope) (sym packages-stay) ∙ stays ∙ ap (λ (z : Resolve). (world_view_of z e).scope) h.packages_

  others-same : (world_view_of r e').scope.others ≡ (world_view_of r e).scope.others
  others-same = ap (λ (s : Scope). s.others) scope-same

  world-same : e'.world.0 ≡ e.world.0
  world-same = one-some e'.world.0 e.world.0 (ap (λ (o : Others). o.world) others-same)

  sound-after : is_sound_outside r e'.world (world_around e') ≡ true
  sound-after = ap (λ (s : Scope). s.is_sound) scope-same ∙ h.sound

  sound-there : SoundOutside r e'.world (world_around e')
  sound-there = sound-outside r e'.world (world_around e') sound-after

  standing-same : standing_instances r (world_around e') ≡ standing_instances r (world_around e)
  standing-same = search std_rules

  module _ (grows : Grows (world_view_of e.resolve.now e) (world_view_of e'.resolve.now e')) (types : List (Text × TypeMeaning))
      (exported : (world_definitions e'.outer).exports ≡ (world_definitions e.outer).exports ++ types) where
    stay : {A : Type 0} (f : Option follow.Scope → A) → f (outer_scope e'.outer) ≡ f (outer_scope e.outer) → f (Some sound-there.scope) ≡ f (Some h.scope)
    stay f same = ap f (sym sound-there.followed) ∙ same ∙ ap f h.followed

    -- the scope of the component type
    adds : AddsTypes h.scope sound-there.scope (map type_seen types)
    adds =
        let before : length (outer_slots e.outer) ≡ length h.scope.slots = ap (λ o. length (option_map_or (λ s. s.slots) o [])) h.followed in
        record {
          more_types = ap (λ o. types_seen (option_map_or (λ s. s.imports) o [])) (sym sound-there.followed) ∙ types-back (seen_imports e'.outer) ∙ ap (map type_seen) exported
              ∙ map-append type_seen (filter_map declared_type (seen_imports e.outer)) types
              ∙ ap (λ xs. xs ++ map type_seen types) (sym (types-back (seen_imports e.outer)) ∙ ap (λ o. types_seen (option_map_or (λ s. s.imports) o [])) h.followed);
          others_stay = stay (λ o. others_seen 0 (option_map_or (λ s. s.imports) o [])) (ap (λ (o : Others). o.imports) others-same);
          exports_stay = stay (λ o. option_map_or (λ s. s.exports) o []) (ap (λ (o : Others). o.exports) others-same);
          instances_stay = stay (λ o. option_map_or (λ s. s.instances) o []) (ap (λ (o : Others). o.instances) others-same);
          used_stay = stay (λ o. option_map_or (λ s. s.used) o []) (ap (λ (o : Others). o.used) others-same);
          same_instance_types = stay (λ o. instance_types (option_map_or (λ s. s.slots) o [])) (ap (λ (o : Others). o.instance_types) others-same);
          more_slots = omega (arith, grows.more, before, ap (λ o. length (option_map_or (λ s. s.slots) o [])) sound-there.followed);
        }

    module _ (more : List Entry) (shown : AllZip (ShowsItem r) more (map type_seen types)) (no_interface : interfaces_among more ≡ []) where
      same-interfaces : interfaces_among (all_done (done.0 ++ more, done.1)) ≡ interfaces_among (all_done done)
      same-interfaces = flat_map-append _ (done.0 ++ more) done.1 ∙ ap (λ xs. xs ++ interfaces_among done.1)
          (flat_map-append _ done.0 more ∙ ap (λ xs. interfaces_among done.0 ++ xs) no_interface ∙ append-nil (interfaces_among done.0)) ∙ sym (flat_map-append _ done.0 done.1)

      shows-then : ShowsEntries r (done.0 ++ more, done.1) sound-there.scope
      shows-then = entries_are_rebuilt r done h.scope sound-there.scope more (map type_seen types) h.shows adds shown

      -- these imports more are shown
      pub types-shown : (done.1 ≡ []) ⊎ (more ≡ []) → Agrees r (world_view_of e'.resolve.now e') → ((n : ℕ) → Contains (types_among (all_done (done.0 ++ more, done.1))) n → IsKnown e'.maps n)
          → ((n : ℕ) → IsKnown e'.maps n → (own_name r (world_view_of r e).scope n ≡ None) ⊎ Contains (types_among (all_done (done.0 ++ more, done.1))) n) → HasShown r w e' (done.0 ++ more, done.1)
      types-shown last agree known alone = record {
        packages_ = packages-stay;
        world_ = ap (world_at r) world-same ∙ h.world_;
        scope = sound-there.scope;
        followed = sound-there.followed;
        shows = shows-then;
        order = order-then new_scope sound-there.scope e'.outer done.0 done.1 more sound-there.followed refl refl
            (grows.own_ (Told.numbers (suc zero ∷ numbers_of done.0 done.1)) (begins-here done.0 done.1 e.outer h.order))
            (zip_long (ShowsItem r) (done.0 ++ more) sound-there.scope.imports shows-then.imports) (zip_long (ShowsItem r) done.1 sound-there.scope.exports shows-then.exports) last;
        agree = subst (λ (z : Resolve). Agrees r (world_view_of z e')) packages-stay agree;
        sound = sound-after;
        stand = λ i c p. subst (λ (xs : List ℕ). Contains xs i) (sym standing-same) (h.stand i (subst (λ (xs : List ℕ). Contains xs i) same-interfaces c) p);
        count = ap (λ (o : Others). o.instance_count) others-same ∙ h.count ∙ ap length (sym same-interfaces);
        typed = omega (arith, ap (λ (o : Others). o.instance_count) others-same, h.typed, adds.more_slots);
        known = known;
        alone = λ n k. subst (λ (s : Scope). (own_name r s n ≡ None) ⊎ Contains (types_among (all_done (done.0 ++ more, done.1))) n) (sym scope-same) (alone n k);
      }
