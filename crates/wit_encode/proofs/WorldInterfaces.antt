-- An interface of a world, imported or exported behind what has been: its instance type shows it, and from then on its instance stands.
use Rattle.std.proofs.Common.{rules as std_rules, ◌≡◌, refl, sym, subst, ap, ◌∙◌, append-nil, ℕ, ◌≤◌, inl, inr, Bool, true, if◌then◌else◌, List, [], ◌∷◌, ◌++◌, length, arith, ◌+◌, ◌<◌, ◌⊎◌, nat_cmp, false, ◌&&◌, length-append, Option, Some, option_to_list}
use Rattle.std.proofs.lemmas.{Cmp.nat_cmp_total, List.Concat.flat_map-append, Slice.Zip.AllZip-long}
use Rattle.std.proofs.lemmas.List.Elements.{Contains-append_cases, filter_map-append}
use Rattle.std.specs.{List.Contains, List.list_all, BTreeMap.insert_entry, BTreeMap.is_at, Ordering.is_eq, Option.option_map_or}
use Rattle.wit_model.specs.declared.model.{Resolve.Resolve, World.World, WorldId.WorldId, WorldKey.WorldKey, Interface.Interface, InterfaceId.InterfaceId}
use Rattle.comp_bytes.specs.{Raw.Declarations, Raw.Declaration, Raw.append, Raw.from_list, Held.type_slots_of}
use Rattle.encode_types.specs.declared.maps.TypeEncodingMaps.{TypeEncodingMaps}
use Rattle.encode_types.specs.Known.{Aliased, AreAliases, alias_declared, Around, GrowsAround, IsAlias, aliased, outer_slots, standing_instances, with_alias, with_aliases, UsedStand, are_right, is_standing, outer_instances, outer_scope}
use Rattle.encode_types.specs.{Scope.Scope, Scope.IsImportable, Slots.Keeps, Standing.SlotsStand, Standing.is_slot_of, View.Grows, Maps.standing_of}
use Rattle.encode_types.proofs.{Around.around-same, Tables.equal-self}
use Rattle.encode_names.specs.WorldSteps.{Entry, Entries, IsTurnOf, StandsAs, StepsTo, declared_towards, interfaces_among, seen_instance, with_entry, with_instance}
use Rattle.encode_names.specs.WorldNames.{name_of_item}
use Rattle.wit_encode.specs.declared.interface.Foreign.{Foreign}
use Rattle.wit_encode.specs.{Instance.around_at, Instance.EncodesInterface, WorldAliases.KeepsListed, WorldAliases.aliases_in, WorldAliases.interfaces_in}
use Rattle.wit_encode.specs.{WholeWorlds.directions_of, WrittenNames.instance_declarations, Places.GrowsBy, Encoders.declared_after}
use Rattle.wit_encode.specs.Worlds.{WorldEncoder, is_sound_outside, world_around, world_definitions, world_scope, world_view_of, world_resources}
use Rattle.wit_encode.specs.WorldItems.{HasShown, types_among, DefinesInstance, IsNext, ListsInstance, all_done}
use Rattle.wit_encode.proofs.{Aliases.keeps-aliases, Places.grows-more, ImportLoop.path-in-range, UsedPaths.used-path, Directions.done-entry}
use Rattle.wit_encode.proofs.{Directions.directions-more, Directions.keeps-both, Directions.directions-around, Directions.order-next, WorldCalls.world-imports}
use Rattle.wit_encode.proofs.{WrittenNames.instances-left, Contents.slots-kept, Importing.importable-stands, Importing.right-more, LatestInstances.stands-then}
use Rattle.wit_encode.proofs.WorldShown.{types-shown, entries-range, interfaces-ready, SoundOutside, sound-again, sound-outside}
use Rattle.wit_encode.proofs.{Components.steps-count, Components.steps-instance, Components.steps-more, Components.see-slots, ImportsStand.instance-stands}
use Rattle.wit_encode.proofs.WorldFunctions.{done_items, next-place, nothing-brought, see-instances, stand-before}
use Rattle.wit_encode.proofs.Directions.{done-next, next-entry}
use Rattle.base_lemmas.proofs.Elements.{joined_well}
use Rattle.wit_model.specs.{Text.Text, Valid.IsValid}
use Rattle.wit_model.specs.{Lookup.interface_at, Lookup.interface_path, Rules.entries_in_range, Rules.item_in_range, Rules.key_in_range, Uses.item_interface}
use Rattle.comp_meaning.specs.Follow.{Direction, import_, export_, Instance, Key, Seen, Slot, View, in_scope, instance_view, interface_of, new_scope, see}
use Rattle.encode_shown.specs.Views.{ShowsInterface, home_of, instance_key}
use Rattle.encode_names.proofs.{InstancesStand.instances_stand, WorldSteps.interfaces_are_shown}
use Rattle.base_lemmas.proofs.{Bools.left_of as first_true, Bools.right_of as second_true, Elements.all-contained, Options.there as some-of}
use Rattle.encode_shown.proofs.PackageSights.{interface-uses as uses-of}
use Rattle.wit_model.proofs.UsesLemmas.{interface_in_range as interface-range}
use Rattle.comp_bytes.specs.declared.forms.ComponentTypeRef.TheVariants as refs
use Rattle.comp_meaning.specs.Follow as follow

-- ---- Aliases that are made in the component type of a world leave what has been shown.

-- from what stands around an encoder of a world to the next: the same is shown, and nothing has been defined
pub record Leaves (r : Resolve) (w : WorldId) (count : ℕ) (a a' : Around) : Type 0 where
  pub scope_stays : world_scope r w count a' ≡ world_scope r w count a
  pub kept : Keeps (SlotsStand (outer_slots a.declared)) (SlotsStand (outer_slots a'.declared))
  pub more : length (outer_slots a.declared) ≤ length (outer_slots a'.declared)
  pub counted : world_definitions a'.declared ≡ world_definitions a.declared
  pub instances : instance_declarations a'.declared ≡ instance_declarations a.declared

module _ (r : Resolve) (w : WorldId) (count : ℕ) (maps : TypeEncodingMaps) where
  alias-leaves : (a : Around) (x : Aliased) → is_sound_outside r w a ≡ true → IsAlias r a x → Leaves r w count a (with_alias a x)
  alias-leaves a x sound is =
      let can : IsImportable (world_scope r w count a) is.interface.0 x.number.0 = record {
        def = is.def;
        name = is.name;
        there = is.there;
        named_ = is.named_;
        owned = is.owned;
        stands = subst (λ (b : Bool). Contains (if b then standing_instances r a else []) is.interface.0) (sym sound) is.stands;
      } in
      let made = world-imports r w count a maps is.interface.0 x.number can (with_alias a x) (aliased x is refl refl) in
      record { scope_stays = made.scope_stays; kept = made.grows.kept; more = made.grows.more; counted = made.counted; instances = instances-left a.declared (alias_declared x) refl }

  pub aliases-leave : (a : Around) (made : List Aliased) → is_sound_outside r w a ≡ true → AreAliases r a made → Leaves r w count a (with_aliases a made)
  aliases-leave a [] sound are = record { scope_stays = refl; kept = λ i m h. h; more = omega arith; counted = refl; instances = refl }
  aliases-leave a (x ∷ made) sound are =
      let one = alias-leaves a x sound are.0 in
      let rest = aliases-leave (with_alias a x) made (ap (λ (s : Scope). s.is_sound) one.scope_stays ∙ sound) are.1 in
      let scope_stays = rest.scope_stays ∙ one.scope_stays in
      let instances = rest.instances ∙ one.instances in
      record { scope_stays = scope_stays; kept = λ i m h. rest.kept i m (one.kept i m h); more = omega (arith, one.more, rest.more); counted = rest.counted ∙ one.counted; instances = instances }

-- aliases are no imports or exports
directions-aliases : (a : Around) (made : List Aliased) → directions_of (with_aliases a made).declared ≡ directions_of a.declared ++ []
directions-aliases a [] = sym (append-nil (directions_of a.declared))
directions-aliases a (x ∷ made) = directions-aliases (with_alias a x) made ∙ append-nil (directions_of (with_alias a x).declared) ∙ directions-more a.declared (alias_declared x)

-- each of them takes a type index
grows-aliases : (ds : Declarations) (a : Around) (made : List Aliased) → GrowsBy ds a.declared → GrowsBy ds (with_aliases a made).declared
grows-aliases ds a [] k = k
grows-aliases ds a (x ∷ made) k = grows-aliases ds (with_alias a x) made (grows-more ds a.declared (with_alias a x).declared (alias_declared x) refl refl k)

-- an encoder that holds another component type
abbrev pub with_outer : WorldEncoder → Declarations → Foreign → WorldEncoder
with_outer e outer foreign = record e { outer = outer; foreign = foreign }

pub aliases-shown : (r : Resolve) (w : World) (e : WorldEncoder) (done : Entries) → HasShown r w e done → (outer : Declarations) (foreign : Foreign)
    → GrowsAround e.resolve.now (world_around e) (around_at outer foreign) → HasShown r w (with_outer e outer foreign) done
aliases-shown r w e done h outer foreign g =
    let q : Resolve = e.resolve.now in
    let sound : is_sound_outside q e.world (world_around e) ≡ true = subst (λ (z : Resolve). is_sound_outside z e.world (world_around e) ≡ true) (sym h.packages_) h.sound in
    let leaves : Leaves q e.world e.instances (world_around e) (around_at outer foreign) =
    subst (Leaves q e.world e.instances (world_around e)) (sym g.is) (aliases-leave q e.world e.instances e.maps (world_around e) g.made sound g.are) in
    let same : done.0 ++ [] ≡ done.0 = append-nil done.0 in
    let grows : Grows (world_view_of q e) (world_view_of q (with_outer e outer foreign)) = record {
      kept = leaves.kept;
      more = leaves.more;
      around_ = around-same (λ j. record { declared = leaves.instances j; instances = []; known = [] });
      own_ = keeps-both [] (λ ns k. subst (λ (z : Around). KeepsListed q e.instances z ns) (sym g.is) (keeps-aliases q e.instances (interfaces_in ns) (aliases_in ns) (world_around e) g.made g.are k))
          (ap (λ (z : Around). directions_of z.declared) g.is ∙ directions-aliases (world_around e) g.made)
          (λ ds k. subst (λ (z : Around). GrowsBy ds z.declared) (sym g.is) (grows-aliases ds (world_around e) g.made k));
    } in
    let left : HasShown r w (with_outer e outer foreign) (done.0 ++ [], done.1) = types-shown r w e (with_outer e outer foreign) done h leaves.scope_stays grows []
    (ap (λ d. d.exports) leaves.counted ∙ sym (append-nil (world_definitions e.outer).exports)) [] tt refl (inr refl)
    (record { says = λ k i holds. leaves.kept i _ (h.agree.says k i holds); once = h.agree.once }) (λ m c. h.known m (subst (λ (es : List Entry). Contains (types_among (es ++ done.1)) m) same c))
    (λ m known. elim (h.alone m known) [ inl none ↦ inl none | inr c ↦ inr (subst (λ (es : List Entry). Contains (types_among (es ++ done.1)) m) (sym same) c) ]) in
    subst (λ (es : List Entry). HasShown r w (with_outer e outer foreign) (es, done.1)) same left

-- ---- the interface of an item

no-type : (x : Entry) (n : ℕ) → item_interface x.1 ≡ Some n → types_among (x ∷ []) ≡ []
no-type x n e = search std_rules

key-path : (k : WorldKey) (path : Text) → interface_of (instance_key k (Some path)) ≡ Some path
key-path x path = search std_rules

-- ---- entries

module _ (r : Resolve) (w : World) (direction : Direction) (done : Entries) (x : Entry) (n : IsNext r w direction done x) where
  with-next : interfaces_among (all_done (with_entry direction done x)) ≡ interfaces_among (all_done done) ++ interfaces_among (x ∷ [])
  with-next = ap interfaces_among (done-next r w direction done x n) ∙ flat_map-append _ (all_done done) (x ∷ [])

  -- an entry that is done is an old one or the new one
  done-cases : (j : ℕ) → Contains (interfaces_among (all_done (with_entry direction done x))) j → Contains (interfaces_among (all_done done)) j ⊎ Contains (interfaces_among (x ∷ [])) j
  done-cases j c = Contains-append_cases (interfaces_among (all_done done)) (interfaces_among (x ∷ [])) j (subst (λ (ns : List ℕ). Contains ns j) with-next c)

-- the interface among one entry
pub among-one : (x : Entry) (n : ℕ) → item_interface x.1 ≡ Some n → interfaces_among (x ∷ []) ≡ n ∷ []
among-one x n e = ap (λ o. option_to_list o ++ []) e

only-one : (n j : ℕ) → Contains (n ∷ []) j → j ≡ n
only-one n j x = search std_rules

turn : (r : Resolve) (w : World) (direction : Direction) (done : Entries) (x : Entry) → IsNext r w direction done x → IsTurnOf direction done
turn r w import_ done x n = n.begun
turn r w export_ done x n = tt

-- ---- the instance type, and the import or export behind it

module _ (r : Resolve) (v : IsValid r) (w : World) (e : WorldEncoder) (done : Entries) (h : HasShown r w e done) (direction : Direction) (x : Entry) (n : IsNext r w direction done x) (i : InterfaceId) (is : item_interface x.1 ≡ Some i.0) where
  abbrev place : ℕ
  place = length (done_items done)

  -- the interface is there
  pub interface-there : (def : Interface) × (interface_at r i.0 ≡ Some def)
  interface-there =
      let each : (es : List Entry) → entries_in_range r es ≡ true → Contains es x → (def : Interface) × (interface_at r i.0 ≡ Some def) =
      λ es all c. interface-range r x.1 i.0 is (second_true (key_in_range r x.0) _ (all-contained (λ (y : Entry). key_in_range r y.0 && item_in_range r y.1) es x all c)) in
      let range = entries-range r v e.world w h.world_ in
      elim (Contains-append_cases w.imports.entries w.exports.entries x (next-entry r w direction done x n)) [
        | inl c ↦ each w.imports.entries (first_true (entries_in_range r w.imports.entries) _ range) c
        | inr c ↦ each w.exports.entries (second_true (entries_in_range r w.imports.entries) _ range) c
      ]

  -- instances of the interfaces that it uses stand
  pub used-stand : UsedStand r (standing_instances r (world_around e)) i.0
  used-stand j c = importable-stands (is_sound_outside r e.world (world_around e)) (standing_instances r (world_around e)) j
      (stand-before r v w e done h direction x n j (interfaces-ready r v e.world w h.world_ place x.1 (next-place r w direction done x n) j (uses-of r x.1 i.0 j is c)) (used-path r v i.0 j c))

  module _ (canonical : Bool) (ds : List Declaration) (view : View) (k : ℕ) (outer : Declarations) (followed : instance_view (home_of r i.0) (outer_slots e.outer) ds ≡ Some view)
      (shows : ShowsInterface r i.0 view) (index : k ≡ type_slots_of e.outer)
      (declared : outer ≡ declared_after (append e.outer (Declarations.instance (from_list ds) Declarations.no_more)) (declared_towards direction (name_of_item r canonical x) (refs.Instance k))) where
    abbrev s : follow.Scope
    s = h.scope

    abbrev slot : Slot
    slot = Slot.instance ds (length s.slots)

    abbrev path_key : Key
    path_key = instance_key x.0 (interface_path r i.0)

    abbrev new_instance : Instance
    new_instance = record { interface = interface_of path_key; view = view }

    abbrev inside : follow.Scope
    inside = with_instance path_key view (length s.slots) (in_scope slot s)

    abbrev seen : Seen
    seen = seen_instance (name_of_item r canonical x) path_key view

    abbrev after : follow.Scope
    after = see direction seen inside

    slots-there : outer_slots e.outer ≡ s.slots
    slots-there = ap (λ o. option_map_or (λ z. z.slots) o []) h.followed

    instances-there : outer_instances e.outer ≡ s.instances
    instances-there = ap (λ o. option_map_or (λ z. z.instances) o []) h.followed

    number : k ≡ length s.slots
    number = index ∙ (let same : type_slots_of e.outer ≡ length s.slots = omega (arith, steps-count new_scope s e.outer h.followed) in same)

    steps : StepsTo r (with_entry direction done x) (in_scope slot s) after (declared_towards direction (name_of_item r canonical x) (refs.Instance (length s.slots)))
    steps = interfaces_are_shown r canonical direction done s x i.0 ds view v (record { number = e.world.0; world = w; there = h.world_; listed = next-entry r w direction done x n }) is h.shows
        (turn r w direction done x n) (subst (λ (zs : List Slot). instance_view (home_of r i.0) zs ds ≡ Some view) slots-there followed) shows

    next : outer_scope outer ≡ Some after
    next = ap outer_scope (declared ∙ ap (λ m. declared_after (append e.outer (Declarations.instance (from_list ds) Declarations.no_more))
        (declared_towards direction (name_of_item r canonical x) (refs.Instance m))) number)
        ∙ steps-more new_scope (in_scope slot s) after (append e.outer (Declarations.instance (from_list ds) Declarations.no_more))
        (declared_towards direction (name_of_item r canonical x) (refs.Instance (length s.slots))) (steps-instance new_scope s e.outer ds h.followed) steps.step

    after-slots : after.slots ≡ s.slots ++ slot ∷ []
    after-slots = see-slots direction seen inside

    slots-more : outer_slots outer ≡ outer_slots e.outer ++ slot ∷ []
    slots-more = ap (λ o. option_map_or (λ z. z.slots) o []) next ∙ after-slots ∙ ap (λ zs. zs ++ slot ∷ []) (sym slots-there)

    instances-more : outer_instances outer ≡ outer_instances e.outer ++ new_instance ∷ []
    instances-more = ap (λ o. option_map_or (λ z. z.instances) o []) next ∙ see-instances direction seen inside ∙ ap (λ zs. zs ++ new_instance ∷ []) (sym instances-there)

    -- there is room for one instance more
    pub room-behind : e.instances < type_slots_of outer
    room-behind = omega (arith, steps-count new_scope after outer next, ap length after-slots ∙ length-append s.slots (slot ∷ []), h.typed)

    module _ (foreign : Foreign) (known : foreign.known ≡ e.foreign.known) (listed : foreign.instances.entries ≡ insert_entry nat_cmp e.foreign.instances.entries i.0 e.instances) where
      abbrev e' : WorldEncoder
      e' = record e { outer = outer; foreign = foreign; instances = e.instances + 1 }

      sound-before : SoundOutside r e.world (world_around e)
      sound-before = sound-outside r e.world (world_around e) h.sound

      same-slots : sound-before.scope.slots ≡ outer_slots e.outer
      same-slots = sym (ap (λ o. option_map_or (λ z. z.slots) o []) sound-before.followed)

      right-before : are_right r (world_around e).known (outer_slots e.outer) ≡ true
      right-before = ap (are_right r (world_around e).known) (sym same-slots) ∙ sound-before.right

      right-after : are_right r (world_around e').known (outer_slots outer) ≡ true
      right-after = (λ j. are_right r (known j).entries (slots-more j)) ∙ right-more r (world_around e).known (outer_slots e.outer) slot right-before

      sound-then : is_sound_outside r e.world (world_around e') ≡ true
      sound-then = sound-again r e.world (world_around e') (record {
        scope = after;
        followed = next;
        slots = ap (list_all (is_slot_of (world_resources r e.world))) (sym (ap (λ o. option_map_or (λ z. z.slots) o []) next) ∙ slots-more)
            ∙ joined_well (is_slot_of (world_resources r e.world)) (outer_slots e.outer)
            (slot ∷ []) (ap (list_all (is_slot_of (world_resources r e.world))) (sym same-slots) ∙ sound-before.slots) refl;
        right = ap (are_right r (world_around e').known) (sym (ap (λ o. option_map_or (λ z. z.slots) o []) next)) ∙ right-after;
      })

      -- the instances that were there are those of the interfaces among what has been done
      counted : e.instances ≡ length (outer_instances e.outer)
      counted = h.count ∙ sym (AllZip-long (StandsAs r) (interfaces_among (all_done done)) s.instances
          (instances_stand r done s v (λ y c. record { number = e.world.0; world = w; there = h.world_; listed = done-entry r w direction done x n y c }) h.shows)) ∙ ap length (sym instances-there)

      stands-itself : (path : Text) → interface_path r i.0 ≡ Some path → is_standing r i.0 new_instance ≡ true
      stands-itself path p =
          ap (λ (o : Option Text). is_standing r i.0 (record { interface = o; view = view })) (ap (λ (o : Option Text). interface_of (instance_key x.0 o)) p ∙ key-path x.0 path)
          ∙ instance-stands r v i.0 (path, record { types = view.types; functions = [] }) (record { path = p; shows = record { types = shows.types; functions = refl } })

      types-same : types_among (all_done (with_entry direction done x)) ≡ types_among (all_done done)
      types-same = nothing-brought types_among (filter_map-append _) r w direction done x n (no-type x i.0 is)

      old-key : (j : ℕ) → is_at (nat_cmp j) i.0 ≡ false → j ≡ i.0 → ⊥
      old-key j other same = cc (sym (ap is_eq (equal-self nat_cmp_total i.0)) ∙ subst (λ (m : ℕ). is_at (nat_cmp m) i.0 ≡ false) same other)

      pub interface-behind : HasShown r w e' (with_entry direction done x)
      interface-behind = record {
        packages_ = h.packages_;
        world_ = h.world_;
        scope = after;
        followed = next;
        shows = steps.shows;
        order = order-next r w direction done x n (append e.outer (Declarations.instance (from_list ds) Declarations.no_more)) outer (name_of_item r canonical x) (refs.Instance k)
            (ap directions_of declared) (directions-around e.outer (from_list ds) ∙ h.order);
        agree = record {
          says = λ q m holds. subst (λ (zs : List Slot). SlotsStand zs m (standing_of r q)) (sym slots-more) (slots-kept slot (outer_slots e.outer) m (standing_of r q) (h.agree.says q m holds));
          once = h.agree.once;
        };
        sound = sound-then;
        stand = λ j c p. stands-then r (world_around e) (world_around e') new_instance i.0 instances-more (listed ∙ ap (insert_entry nat_cmp e.foreign.instances.entries i.0) counted) right-before
            right-after j (path-in-range r j p) (λ same. let path = some-of (interface_path r j) p in stands-itself path.0 (ap (interface_path r) (sym same) ∙ path.1))
            (λ other. elim (done-cases r w direction done x n j c) [
              | inl old ↦ h.stand j old p
              | inr new ↦ absurd (old-key j other (only-one i.0 j (subst (λ (ns : List ℕ). Contains ns j) (among-one x i.0 is) new)))
            ]);
        count = omega (arith, h.count, ap length (with-next r w direction done x n), length-append (interfaces_among (all_done done)) (interfaces_among (x ∷ [])), ap length (among-one x i.0 is));
        typed = omega (arith, h.typed, ap length after-slots ∙ length-append s.slots (slot ∷ []));
        known = λ m c. h.known m (subst (λ (ns : List ℕ). Contains ns m) types-same c);
        alone = λ m q. elim (h.alone m q) [ inl none ↦ inl none | inr c ↦ inr (subst (λ (ns : List ℕ). Contains ns m) (sym types-same) c) ];
      }

-- ---- the call

module _ (r : Resolve) (v : IsValid r) (w : World) (e e' : WorldEncoder) (done : Entries) (h : HasShown r w e done) (direction : Direction) (canonical : Bool) (x : Entry)
    (n : IsNext r w direction done x) (i : InterfaceId) (is : item_interface x.1 ≡ Some i.0) (k : ℕ) (rest : e' ≡ record e { outer = e'.outer; foreign = e'.foreign })
    (defines : DefinesInstance e e' i k) (outer : Declarations) (declared : outer ≡ declared_after e'.outer (declared_towards direction (name_of_item r canonical x) (refs.Instance k))) where
  there : (def : Interface) × (interface_at r i.0 ≡ Some def)
  there = interface-there r v w e done h direction x n i is

  encodes : EncodesInterface r (world_around e) (world_around e') i there.0 k
  encodes = subst (λ (q : Resolve). EncodesInterface q (world_around e) (world_around e') i there.0 k) h.packages_ (defines there.0 (ap (λ (q : Resolve). interface_at q i.0) h.packages_ ∙ there.1))

  abbrev before : Around
  before = encodes.part.before

  same-around : around_at before.declared e'.foreign ≡ before
  same-around = λ j. record { declared = before.declared; instances = (encodes.part.one_more j).instances; known = (encodes.part.one_more j).known }

  abbrev between : WorldEncoder
  between = with_outer e before.declared e'.foreign

  shown-between : HasShown r w between done
  shown-between = aliases-shown r w e done h before.declared e'.foreign (subst (λ (q : Resolve). GrowsAround q (world_around e) (around_at before.declared e'.foreign)) (sym h.packages_)
      (subst (GrowsAround r (world_around e)) (sym same-around) encodes.part.aliases.grown))

  declared-then : outer ≡ declared_after (append before.declared (Declarations.instance (from_list encodes.part.declared) Declarations.no_more))
      (declared_towards direction (name_of_item r canonical x) (refs.Instance k))
  declared-then = declared ∙ ap (λ (z : Around). declared_after z.declared (declared_towards direction (name_of_item r canonical x) (refs.Instance k))) encodes.part.one_more

  pub room : e'.instances < type_slots_of outer
  room = subst (λ (c : ℕ). c < type_slots_of outer) (sym (ap (λ (z : WorldEncoder). z.instances) rest))
      (room-behind r v w between done shown-between direction x n i is canonical encodes.part.declared encodes.part.is_instance.view k outer
      encodes.part.is_instance.followed encodes.shows encodes.part.index declared-then)

  pub interface-encoded : (e'' : WorldEncoder) → ListsInstance (record e' { outer = outer }) e'' i → HasShown r w e'' (with_entry direction done x)
  interface-encoded e'' lists =
      let all : e'' ≡ record between { outer = outer; foreign = record e'.foreign { instances = e''.foreign.instances }; instances = e.instances + 1 } = lists.rest
      ∙ (λ j. record (rest j) { outer = outer; foreign = record e'.foreign { instances = e''.foreign.instances }; instances = (rest j).instances + 1 }) in
      subst (λ (z : WorldEncoder). HasShown r w z (with_entry direction done x)) (sym all)
      (interface-behind r v w between done shown-between direction x n i is canonical encodes.part.declared encodes.part.is_instance.view k outer
      encodes.part.is_instance.followed encodes.shows encodes.part.index declared-then (record e'.foreign { instances = e''.foreign.instances }) refl
      (lists.listed ∙ ap (insert_entry nat_cmp e'.foreign.instances.entries i.0) (ap (λ (z : WorldEncoder). z.instances) rest)))
