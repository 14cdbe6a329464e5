-- A world that has no room in a component type weighs more than the largest number of 32 bits.
use Rattle.std.proofs.Common.{rules as std_rules, ◌≡◌, refl, sym, subst, ap, ◌∙◌, append-nil, ℕ, zero, ◌≤◌, inl, inr, Bool, true, List, [], ◌∷◌, ◌++◌, map, filter_map, slice_get, take, Option, Some, None, option_to_list, length, arith, suc, ◌+◌, ◌*◌, ◌⊎◌, false, not, ◌&&◌, flat_map, length-append, option_map}
use Rattle.std.proofs.{lemmas.List.map-append, lemmas.List.Sums.sum_by-cons, lemmas.List.Sums.sum_by-append, Common.String}
use Rattle.std.proofs.{lemmas.List.Concat.flat_map-append, lemmas.List.Filters.sum_by-filter_both, lemmas.List.Kept.AllPairs-filter, Math.Seq.take-append_seam}
use Rattle.std.proofs.lemmas.List.Elements.{Contains-append_left, filter_map-append, Contains-append_cases}
use Rattle.std.specs.List.{Contains, cons_option, filter}
use Rattle.std.specs.{Option.option_map_or, Prelude.if◌then◌else◌, Prelude.sum_by, Prelude.AllPairs, Prelude.unwrap_or}
use Rattle.indexmap.specs.IndexMap.{values}
use Rattle.wit_model.specs.Lookup.{world_at, interface_at, interface_path, canonical_path, canonical_suffix, key_text, type_at}
use Rattle.wit_model.specs.{Meaning.Signature, Meant.signature_of, Meant.item_external_id, Parts.function_types, Parts.same_owner, Calls.implemented}
use Rattle.wit_model.specs.Rules.{item_type, passes, is_member, is_name_key, interface_type_numbers, world_type_numbers, owner_in_range}
use Rattle.wit_model.specs.{Uses.item_interface, Uses.items_of, Uses.has, Uses.once, Text.Text, Text.text_of, Text.text_eq, Text.optional_text}
use Rattle.wit_model.specs.Valid.{IsValid, as_interface, as_world, function_names, functions_of_interface, functions_of_world, item_function}
use Rattle.wit_model.specs.Weight.{number_weight, function_weight, instance_numbers, whole_instance_weight, implemented_texts, item_weight, brought_into, world_numbers, world_weight}
use Rattle.wit_model.specs.declared.model.{Resolve.Resolve, World.World, WorldId.WorldId, Function.Function, TypeDef.TypeDef, TypeId.TypeId}
use Rattle.wit_model.specs.declared.model.{WorldKey.WorldKey, WorldItem.WorldItem, Interface.Interface, InterfaceId.InterfaceId, TypeOwner.TypeOwner}
use Rattle.comp_bytes.specs.{Raw.Declarations, Raw.ExternName, Writing.declaration_bytes, Fits.fits_name}
use Rattle.comp_meaning.specs.Follow.{Direction, import_, export_, Seen, Slot, function_in, new_scope, see}
use Rattle.encode_types.specs.{Counts.Shows, Counts.own_name, Leaves.Leaves, Plan.MetFrom, View.Agrees, Slots.function, KeyLaws.text_same, Room.limit}
use Rattle.encode_types.specs.Known.{Around, are_right, below, outer_instances, outer_scope, outer_slots, standing_instances, stands_around}
use Rattle.encode_types.specs.{Maps.IsKnown, Maps.LearnsOnly, Maps.MapsAgree, Maps.by_number, Standing.SlotsStand, Standing.standing_at, Extents.name_extent}
use Rattle.encode_names.specs.WorldNames.{name_of_item, written_path, written_suffix}
use Rattle.encode_names.specs.WorldSteps.{Entry, Entries, IsEntryOf, declared_towards, interfaces_among, seen_function, with_entry}
use Rattle.encode_names.proofs.{WorldSteps.functions_are_shown, NamesRead.no-suffix as no-suffix-written}
use Rattle.encode_types.proofs.Lists.{none-in}
use Rattle.wit_encode.specs.{Encoders.declared_after, OwnerScope.IsScopeOf, WholeWorlds.directions_of, WorldUses.StandBefore, WorldRoom.IsNamedTypeOf}
use Rattle.wit_encode.specs.{Instance.CanEncodeFunction, WorldItems.HasShown, WorldItems.IsNext, WorldItems.all_done, WorldItems.types_among}
use Rattle.wit_encode.specs.Worlds.{WorldEncoder, is_sound_outside, world_around, world_definitions, world_encoder_view, world_view_of}
use Rattle.wit_encode.specs.WorldRoom.{functions_among, type_ids_among, IsMetAmong, count_among, entries_in, WorldLacksRoom, an_interface, a_name, a_type, a_function, too_many, LackingWorldsAreHeavy}
use Rattle.wit_encode.proofs.{Components.steps-more, Components.see-slots, Reached.IsOwner, Reached.interface-owner, Reached.world-owner, Naming.valid-owner_in_range}
use Rattle.wit_encode.proofs.WorldShown.{function-listed, function-there, items_meet_standing, types-shown, no-type-exported}
use Rattle.wit_encode.proofs.{Directions.order-next, Meeting.meets-unnamed, Exporting.shows-nothing, OwnerScope.functions_encode, OwnerScope.table_is_scope}
use Rattle.wit_encode.proofs.{Extents.bytes-few, Directions.done-next, Directions.next-among, Directions.next-entry}
use Rattle.wit_encode.proofs.Weighing.{Differ, sum-among, contains-once, at-least, one-of, type-heavy, counted-once, counted-least, part-heavy-of, lacking-heavy}
use Rattle.encode_shown.proofs.{Basics.valid-references, Items.typed-item, Zips.given-contains, Used.contains-flat-from as from-flat}
use Rattle.comp_bytes.specs.declared.forms.ComponentTypeRef.{ComponentTypeRef}
use Rattle.wit_model.proofs.{PathParts.canonical_paths_join, OnePath.found-in}
use Rattle.wit_model.proofs.{Elements.contains-filter_map, Elements.has-contains, Elements.contains-has, ValidLemmas.world_passes}
use Rattle.base_lemmas.proofs.{Bools.left_of as first_true, Numbers.same-number, Lists.middle_get, Lists.filter_of_map}
use Rattle.base_lemmas.proofs.Elements.{all-contained, contains-later, contains-map, contains-one, map_from as from-map, filter_kept}
use Rattle.std.specs.declared.alloc.Global.{Global}
use Rattle.wit_model.specs.declared.model.WorldItem.TheVariants as item
use Rattle.wit_model.specs.declared.model.TypeOwner.TheVariants as owner
use Rattle.comp_bytes.specs.declared.forms.ComponentTypeRef.TheVariants as refs
use Rattle.comp_meaning.specs.Follow as follow
use Rattle.wit_model.specs.declared.model.WorldKey.TheVariants as key

-- ---- A function of a world, imported or exported behind what has been.

-- ---- nothing has been encoded

pub starts : (r : Resolve) (w : World) (e : WorldEncoder) → world_at r e.world.0 ≡ Some w → e.resolve.now ≡ r → e.outer ≡ Declarations.no_more → e.foreign.instances.entries ≡ []
    → e.foreign.known.entries ≡ [] → e.instances ≡ 0 → e.maps.id_to_index.entries ≡ [] → Agrees r (world_view_of r e) → HasShown r w e ([], [])
starts r w e there packages outer instances known count ids agree = search std_rules

-- ---- the place of the next item

abbrev pub second : Entry → WorldItem
second x = x.1

abbrev pub done_items : Entries → List WorldItem
done_items done = map (λ x. x.1) (all_done done)

module _ (r : Resolve) (w : World) (direction : Direction) (done : Entries) (e : Entry) (n : IsNext r w direction done e) where
  -- what has been done stands before the next item, and more behind it
  next-item : (rest : List WorldItem) × (items_of w ≡ done_items done ++ e.1 ∷ rest)
  next-item =
      let m = next-among r w direction done e n in
      (map second m.0, sym (map-append second w.imports.entries w.exports.entries) ∙ ap (map second) m.1 ∙ map-append second (all_done done) (e ∷ m.0))

  pub next-place : slice_get (items_of w) (length (done_items done)) ≡ Some e.1
  next-place = ap (λ xs. slice_get xs (length (done_items done))) next-item.1 ∙ middle_get (done_items done) e.1 next-item.0

  pub before-next : take (length (done_items done)) (items_of w) ≡ done_items done
  before-next = ap (take (length (done_items done))) next-item.1 ∙ take-append_seam (done_items done) (e.1 ∷ next-item.0)

-- the interfaces, and the types, among entries are those among their items
interfaces-given : (es : List Entry) → filter_map item_interface (map (λ x. x.1) es) ≡ interfaces_among es
interfaces-given [] = refl
interfaces-given (e ∷ es) = (elim (item_interface e.1) as (λ o. cons_option o (filter_map item_interface (map (λ x. x.1) es)) ≡ option_to_list o ++ filter_map item_interface (map (λ x. x.1) es))
    [ None ↦ refl | Some n ↦ refl ]) ∙ ap (λ xs. option_to_list (item_interface e.1) ++ xs) (interfaces-given es)

pub types-given : (es : List Entry) → filter_map item_type (map (λ x. x.1) es) ≡ types_among es
types-given es = filter_of_map item_type (λ x. x.1) es

-- ---- what stands before it

module _ (r : Resolve) (v : IsValid r) (w : World) (e : WorldEncoder) (done : Entries) (h : HasShown r w e done) (direction : Direction) (x : Entry) (n : IsNext r w direction done x) where
  abbrev place : ℕ
  place = length (done_items done)

  pub stand-before : StandBefore r w place (world_view_of r e).scope.instances
  stand-before j c p =
      let among : Contains (interfaces_among (all_done done)) j = subst (λ (ns : List ℕ). Contains ns j)
      (ap (filter_map item_interface) (before-next r w direction done x n) ∙ interfaces-given (all_done done)) c in
      subst (λ (b : Bool). Contains (if b then standing_instances r (world_around e) else []) j) (sym h.sound) (h.stand j among p)

  pub scope-of : IsScopeOf r (owner.World e.world) (world_view_of r e).scope
  scope-of =
      let t = table_is_scope r (owner.World e.world) v in
      record { packages_ = refl; place_ = refl; own = refl; declares = t.declares; names = t.names; sound = h.sound }

  module _ (f : Function) (is : x.1 ≡ item.Function f) where
    function-at : slice_get (items_of w) place ≡ Some (item.Function f)
    function-at = next-place r w direction done x n ∙ ap Some is

    -- it can be encoded
    pub can-encode : CanEncodeFunction r (world_view_of r e).scope f
    can-encode = functions_encode r (owner.World e.world) (world_view_of r e).scope f v scope-of (function-there r v e.world w h.world_ f place function-at)
        (items_meet_standing r e.world w place (item.Function f) (world_view_of r e).scope v h.world_ function-at scope-of stand-before)

    -- what it meets by way of unknown numbers is no named type of the world
    pub meets-none : (m : ℕ) → MetFrom r None e.maps (function_types f) m → own_name r (world_view_of r e).scope m ≡ None
    meets-none m (t, c, met) = meets-unnamed r (valid-references r v) (world_view_of r e).scope e.maps t m (λ id q def at home y d. known-before y
        (function-listed r v e.world w h.world_ f place function-at id (subst (λ u. Contains (function_types f) u) q c) y d)) met
      where
        known-before : (y : ℕ) → Contains (filter_map item_type (take place (items_of w))) y → IsKnown e.maps y
        known-before y c = h.known y (subst (λ (ns : List ℕ). Contains ns y) (ap (filter_map item_type) (before-next r w direction done x n) ∙ types-given (all_done done)) c)

-- ---- a function behind

-- a declaration that adds no slot and no instance leaves what stands
module _ (r : Resolve) (w : WorldId) (a a' : Around) (slots : outer_slots a'.declared ≡ outer_slots a.declared) (instances : outer_instances a'.declared ≡ outer_instances a.declared) (listed : a'.instances ≡ a.instances) (known : a'.known ≡ a.known) where
  pub standing-left : standing_instances r a' ≡ standing_instances r a
  standing-left = λ i. if are_right r (known i) (slots i) then filter (stands_around r (listed i) (instances i)) (below (length r.interfaces.items)) else []

  pub sound-left : (scope' : follow.Scope) → outer_scope a'.declared ≡ Some scope' → is_sound_outside r w a ≡ true → is_sound_outside r w a' ≡ true
  sound-left scope' next sound = search std_rules

pub see-instances : (direction : Direction) (seen : Seen) (s : follow.Scope) → (see direction seen s).instances ≡ s.instances
see-instances import_ seen s = refl
see-instances export_ seen s = refl

-- what a function brings
pub nothing-brought : {A : Type 0} (given : List Entry → List A) → ((es gs : List Entry) → given (es ++ gs) ≡ given es ++ given gs) → (r : Resolve) (w : World) (direction : Direction)
    (done : Entries) (x : Entry) → IsNext r w direction done x → given (x ∷ []) ≡ [] → given (all_done (with_entry direction done x)) ≡ given (all_done done)
nothing-brought given split r w direction done x n none =
    ap given (done-next r w direction done x n) ∙ split (all_done done) (x ∷ []) ∙ ap (λ xs. given (all_done done) ++ xs) none ∙ append-nil (given (all_done done))

signature-at : (o : Option Slot) (s : Signature) → standing_at o ≡ Some (function s) → function_in o ≡ Some s
signature-at x s h = search std_rules

pub function-behind : (r : Resolve) → IsValid r → (w : World) (e : WorldEncoder) (done : Entries) → HasShown r w e done
    → (direction : Direction) (canonical : Bool) (k : WorldKey) (f : Function) (n : ℕ) (outer : Declarations) → IsNext r w direction done (k, item.Function f)
    → SlotsStand (outer_slots e.outer) n (function (signature_of r f)) → outer ≡ declared_after e.outer (declared_towards direction (name_of_item r canonical (k, item.Function f)) (refs.Func n))
    → HasShown r w (record e { outer = outer }) (with_entry direction done (k, item.Function f))
function-behind r v w e done h direction canonical k f n outer next stands is =
    let x : Entry = (k, item.Function f) in
    let entry : IsEntryOf r x = record { number = e.world.0; world = w; there = h.world_; listed = next-entry r w direction done x next } in
    let slots_there : outer_slots e.outer ≡ h.scope.slots = ap (λ o. option_map_or (λ s. s.slots) o []) h.followed in
    let signature : function_in (slice_get h.scope.slots n) ≡ Some (signature_of r f) =
    signature-at (slice_get h.scope.slots n) (signature_of r f) (subst (λ (xs : List Slot). SlotsStand xs n (function (signature_of r f))) slots_there stands) in
    let steps = functions_are_shown r canonical direction done h.scope k f n v entry h.shows signature in
    let seen : Seen = seen_function (name_of_item r canonical x) (signature_of r f) in
    let after : follow.Scope = see direction seen h.scope in
    let followed : outer_scope outer ≡ Some after = ap outer_scope is ∙ steps-more new_scope h.scope after e.outer (declared_towards direction (name_of_item r canonical x) (refs.Func n)) h.followed
    steps.step in
    let slots : outer_slots outer ≡ outer_slots e.outer = ap (λ o. option_map_or (λ s. s.slots) o []) followed ∙ see-slots direction seen h.scope ∙ sym slots_there in
    let instances : outer_instances outer ≡ outer_instances e.outer = ap (λ o. option_map_or (λ s. s.instances) o []) followed ∙ see-instances direction seen h.scope ∙ sym
    (ap (λ o. option_map_or (λ s. s.instances) o []) h.followed) in
    let interfaces : interfaces_among (all_done (with_entry direction done x)) ≡ interfaces_among (all_done done) =
    nothing-brought interfaces_among (flat_map-append _) r w direction done x next refl in
    let types : types_among (all_done (with_entry direction done x)) ≡ types_among (all_done done) = nothing-brought types_among (filter_map-append _) r w direction done x next refl in
    let a = world_around e in
    let a' = record a { declared = outer } in
    record {
      packages_ = h.packages_;
      world_ = h.world_;
      scope = after;
      followed = followed;
      shows = steps.shows;
      order = order-next r w direction done x next e.outer outer (name_of_item r canonical x) (refs.Func n) (ap directions_of is) h.order;
      agree = subst (λ (xs : List Slot). MapsAgree r e.maps (SlotsStand xs)) (sym slots) h.agree;
      sound = sound-left r e.world a a' slots instances refl refl after followed h.sound;
      stand = λ i c p. subst (λ (xs : List ℕ). Contains xs i) (sym (standing-left r e.world a a' slots instances refl refl)) (h.stand i (subst (λ (xs : List ℕ). Contains xs i) interfaces c) p);
      count = h.count ∙ ap length (sym interfaces);
      typed = subst (λ (xs : List Slot). e.instances ≤ length xs) (sym (see-slots direction seen h.scope)) h.typed;
      known = λ m c. h.known m (subst (λ (xs : List ℕ). Contains xs m) types c);
      alone = λ m q. elim (h.alone m q) [ inl none ↦ inl none | inr c ↦ inr (subst (λ (xs : List ℕ). Contains xs m) (sym types) c) ];
    }

-- ---- the function is encoded

pub function-encoded : (r : Resolve) → IsValid r → (w : World) (e e' : WorldEncoder) (done : Entries) → HasShown r w e done
    → (direction : Direction) (canonical : Bool) (k : WorldKey) (f : Function) (n : ℕ) (outer : Declarations)
    → IsNext r w direction done (k, item.Function f) → Leaves r (world_encoder_view e) (world_encoder_view e') → LearnsOnly (MetFrom r None e.maps (function_types f)) e.maps e'.maps
    → Shows r (world_encoder_view e).scope e.maps e'.maps (world_definitions e.outer) (world_definitions e'.outer) → SlotsStand (outer_slots e'.outer) n (function (signature_of r f))
    → outer ≡ declared_after e'.outer (declared_towards direction (name_of_item r canonical (k, item.Function f)) (refs.Func n))
    → HasShown r w (record e' { outer = outer }) (with_entry direction done (k, item.Function f))
function-encoded r v w e e' done h direction canonical k f n outer next leaves only shows stands is =
    let none : (m : ℕ) → MetFrom r None e.maps (function_types f) m → own_name r (world_view_of r e).scope m ≡ None = meets-none r v w e done h direction (k, item.Function f) next f refl in
    let exported = shows-nothing r (world_encoder_view e).scope e.maps e'.maps (world_definitions e.outer) (world_definitions e'.outer) (MetFrom r None e.maps (function_types f)) leaves.agree.once
    only none shows ∙ sym (append-nil (world_definitions e.outer).exports) in
    let same : done.0 ++ [] ≡ done.0 = append-nil done.0 in
    let left : HasShown r w e' (done.0 ++ [], done.1) = types-shown r w e e' done h leaves.scope_stays leaves.grows [] exported [] tt refl (inr refl) leaves.agree
    (λ m c. let old = h.known m (subst (λ (es : List Entry). Contains (types_among (es ++ done.1)) m) same c) in (old.0, leaves.maps_grow.keeps (by_number m) old.0 old.1))
    (λ m q. elim (only.each m q.0 q.1) [
      | inl old ↦ elim (h.alone m (q.0, old)) [ inl nothing ↦ inl nothing | inr c ↦ inr (subst (λ (es : List Entry). Contains (types_among (es ++ done.1)) m) (sym same) c) ]
      | inr met ↦ inl (none m met)
    ]) in
    function-behind r v w e' done (subst (λ (es : List Entry). HasShown r w e' (es, done.1)) same left) direction canonical k f n outer next stands is

-- ---- How many bytes an import or an export of a world takes.

pub declared-few : (direction : Direction) (name : ExternName) (described : ComponentTypeRef) → length (declaration_bytes (declared_towards direction name described)) ≤ name_extent name
declared-few import_ name described = bytes-few.imports name described
declared-few export_ name described = bytes-few.exports name described

-- ---- names that don't fit are long

abbrev pub long : Option Text → ℕ
long t = sum_by length (option_to_list t)

some-long : (t : Text) → long (Some t) ≡ length t
some-long t = omega (arith, sum_by-cons length t [])

pub long-is : (o : Option Text) → long o ≡ length (unwrap_or o [])
long-is None = refl
long-is (Some t) = some-long t

pub name-fits : (name : ExternName) (total : ℕ) → length name.text ≤ total → long name.implements ≤ total → long name.version_suffix ≤ total → long name.external_id ≤ total → total ≤ limit
    → fits_name name ≡ true
name-fits name total a b c d l = search std_rules

-- a canonical path and its suffix are no longer than the path
module _ (r : Resolve) (n : ℕ) where
  no-suffix : canonical_path r n ≡ None → canonical_suffix r n ≡ None
  no-suffix = search std_rules

  -- both together
  path-both : length (unwrap_or (canonical_path r n) []) + long (canonical_suffix r n) ≤ long (interface_path r n)
  path-both = go (canonical_path r n) (canonical_suffix r n) refl (canonical_paths_join r n) no-suffix
    where
      go : (c s : Option Text) → canonical_path r n ≡ c → interface_path r n ≡ option_map (λ path. path ++ unwrap_or s []) c → (c ≡ None → s ≡ None)
          → length (unwrap_or c []) + long s ≤ long (interface_path r n)
      go None s is e none = omega (arith, ap long (none refl))
      go (Some p) s is e none = omega (arith, ap long e ∙ (some-long (p ++ unwrap_or s []) ∙ length-append p (unwrap_or s [])), long-is s)

  pub written-long : (canonical : Bool) → length (written_path r canonical n) ≤ long (interface_path r n)
  written-long true = omega (arith, path-both)
  written-long false = omega (arith, long-is (interface_path r n))

  pub suffix-long : (canonical : Bool) → long (written_suffix r canonical (Some n)) ≤ long (interface_path r n)
  suffix-long true = omega (arith, path-both)
  suffix-long false = omega arith

  pub written-both : (canonical : Bool) → length (written_path r canonical n) + long (written_suffix r canonical (Some n)) ≤ long (interface_path r n)
  written-both true = path-both
  written-both false = omega (arith, written-long false)

-- an interface under a label is implemented, or inline
pub implemented-as : (r : Resolve) (name : String Global) (i : WorldItem) (n : ℕ) → item_interface i ≡ Some n → (implemented r (key.Name name) i ≡ None) ⊎ (implemented r (key.Name name) i ≡ Some n)
implemented-as r name i n at = search std_rules

-- an item of an interface
interface-name : (r : Resolve) (canonical : Bool) (k : WorldKey) (i : WorldItem) (id : InterfaceId) (external : Option Text) (texts : ℕ)
    → item_interface i ≡ Some id.0 → item_external_id r i ≡ external
    → texts ≡ length (key_text r k) + (sum_by length (implemented_texts r k id.0) + long external) → texts ≤ limit → fits_name (name_of_item r canonical (k, i)) ≡ true
interface-name r canonical (key.Interface j) i id external texts at given sum low =
    let path : long (interface_path r j.0) ≡ length (key_text r (key.Interface j)) = long-is (interface_path r j.0) in
    name-fits (name_of_item r canonical (key.Interface j, i)) texts (omega (arith, written-long r j.0 canonical, path, sum)) (omega arith)
    (omega (arith, suffix-long r j.0 canonical, path, sum)) (omega (arith, ap long given, sum)) low
interface-name r canonical (key.Name name) i id external texts at given sum low = by (implemented-as r name i id.0 at)
  where
    by : (implemented r (key.Name name) i ≡ None) ⊎ (implemented r (key.Name name) i ≡ Some id.0) → fits_name (name_of_item r canonical (key.Name name, i)) ≡ true
    by (inl none) = name-fits (name_of_item r canonical (key.Name name, i)) texts (omega (arith, sum)) (omega (arith, ap (λ o. long (option_map (written_path r canonical) o)) none))
        (omega (arith, ap (λ o. long (written_suffix r canonical o)) none ∙ ap long (no-suffix-written r canonical))) (omega (arith, ap long given, sum)) low
    by (inr there) = name-fits (name_of_item r canonical (key.Name name, i)) texts (omega (arith, sum))
        (let a = ap (λ o. long (option_map (written_path r canonical) o)) there ∙ some-long (written_path r canonical id.0) in let b = written-long r id.0 canonical in omega (arith, a, b, sum))
        (omega (arith, ap (λ o. long (written_suffix r canonical o)) there, suffix-long r id.0 canonical, sum)) (omega (arith, ap long given, sum)) low

-- ---- type numbers of interfaces

-- the types of an interface, and what these functions of it name
abbrev pub numbers-of : Resolve → (Interface → List Function) → ℕ → List ℕ
numbers-of r fs j = option_map_or (λ d. instance_numbers r d (fs d)) (interface_at r j) []

-- the number is that of a type, and stands in the instance type of one of these interfaces
abbrev StandsAmong : Resolve → (Interface → List Function) → List ℕ → ℕ → Type 0
StandsAmong r fs js n = (d : TypeDef) × (type_at r n ≡ Some d) × (j : ℕ) × Contains js j × Contains (numbers-of r fs j) n

number-least : (r : Resolve) (o : TypeOwner) (n : ℕ) (d : TypeDef) → type_at r n ≡ Some d → 64 ≤ number_weight r o n
number-least r o n d at = search std_rules

whole-least : (r : Resolve) (j : ℕ) → sum_by (number_weight r (as_interface j)) (numbers-of r functions_of_interface j) ≤ whole_instance_weight r j
whole-least r j = search std_rules

abbrev pub each : List ℕ → ℕ
each ns = sum_by (λ n. 64) ns

-- each number of these weighs 64 at least
each-least : (g : ℕ → ℕ) (ns : List ℕ) → ((n : ℕ) → Contains ns n → 64 ≤ g n) → each ns ≤ sum_by g ns
each-least g [] h = omega arith
each-least g (n ∷ ns) h = omega (arith, each-least g ns (λ m c. h m (contains-later n ns m c)), h n (0, omega arith, refl), sum_by-cons g n ns, sum_by-cons (λ n. 64) n ns)

module _ (r : Resolve) (fs : Interface → List Function) where
  -- named types of these interfaces do
  pub named-stands : IsValid r → (js : List ℕ) (n : ℕ) → IsNamedTypeOf r js n → StandsAmong r fs js n
  named-stands v js n t = (t.def, t.there, t.interface.0, t.among, subst (λ (o : Option Interface). Contains (option_map_or (λ d. instance_numbers r d (fs d)) o []) n) (sym found.1) inside)
    where
      found : (d : Interface) × (interface_at r t.interface.0 ≡ Some d)
      found = found-in r.interfaces.items t.interface.0 (subst (λ (o : TypeOwner). owner_in_range r o ≡ true) t.owned (valid-owner_in_range r v n t.def t.there))

      owned : same_owner t.def.owner (owner.Interface t.interface) ≡ true
      owned = subst (λ (o : TypeOwner). same_owner o (owner.Interface t.interface) ≡ true) (sym t.owned) (same-number t.interface.0)

      inside : Contains (instance_numbers r found.0 (fs found.0)) n
      inside = contains-once _ n (Contains-append_left (interface_type_numbers found.0) _ n ((interface-owner r v t.interface found.0 found.1).listed n t.def t.there t.named_ owned))

  -- and the interfaces weigh 64 for each of these numbers
  pub numbers-weigh : (weight : ℕ → ℕ) → ((j : ℕ) → sum_by (number_weight r (as_interface j)) (numbers-of r fs j) ≤ weight j) → (js ns : List ℕ) → AllPairs Differ ns
      → ((n : ℕ) → Contains ns n → StandsAmong r fs js n) → each ns ≤ sum_by weight js
  numbers-weigh weight least [] [] apart h = omega arith
  numbers-weigh weight least [] (n ∷ ns) apart h = none-in (h n (0, omega arith, refl)).2 (h n (0, omega arith, refl)).3
  numbers-weigh weight least (j ∷ js) ns apart h =
      let own = numbers-of r fs j in
      let first = filter (has own) ns in
      let others = filter (λ n. not (has own n)) ns in
      let rest = numbers-weigh weight least js others (AllPairs-filter Differ (λ n. not (has own n)) ns apart)
      (λ n c. let k = filter_kept (λ n. not (has own n)) ns n c in later n k.1 (h n k.0)) in
      let heavy = each-least (number_weight r (as_interface j)) first (λ n c. let x = h n (filter_kept (has own) ns n c).0 in number-least r (as_interface j) n x.0 x.1) in
      let inside = sum-among (number_weight r (as_interface j)) first own (AllPairs-filter Differ (has own) ns apart) (λ n c. has-contains own n (filter_kept (has own) ns n c).1) in
      let both = sum_by-filter_both (has own) (λ n. not (has own n)) (λ n. refl) (λ n. 64) ns in
      omega (arith, rest, heavy, inside, least j, both, sum_by-cons weight j js)
    where
      later : (n : ℕ) → not (has (numbers-of r fs j) n) ≡ true → StandsAmong r fs (j ∷ js) n → StandsAmong r fs js n
      later n out (d, at, k, (zero, l, e), there) = cc (contains-has (numbers-of r fs j) n (subst (λ (m : ℕ). Contains (numbers-of r fs m) n) (sym e) there))
      later n out (d, at, k, (suc p, l, e), there) = (d, at, k, (p, omega (arith, l), e), there)

module _ (r : Resolve) where
  abbrev entry-weight : Entry → ℕ
  entry-weight e = item_weight r e.0 e.1

  -- the entries weigh 64 for each function and interface, and what the interfaces do
  entries-weigh : (es : List Entry) → 64 * count_among es + sum_by (whole_instance_weight r) (interfaces_among es) ≤ sum_by entry-weight es
  entries-weigh [] = omega arith
  entries-weigh ((k, item.Function f) ∷ es) = omega (arith, entries-weigh es, sum_by-cons entry-weight (k, item.Function f) es)
  entries-weigh ((k, item.Type_ id) ∷ es) = omega (arith, entries-weigh es, sum_by-cons entry-weight (k, item.Type_ id) es)
  entries-weigh ((k, item.Interface id stability docs external) ∷ es) =
      omega (arith, entries-weigh es, sum_by-cons entry-weight (k, item.Interface id stability docs external) es, sum_by-cons (whole_instance_weight r) id.0 (interfaces_among es))

-- ---- a world

module _ (r : Resolve) (v : IsValid r) (w : WorldId) (def : World) (home : world_at r w.0 ≡ Some def) where
  abbrev es : List Entry
  es = entries_in def

  abbrev weigh : ℕ → ℕ
  weigh n = number_weight r (as_world w.0) n

  abbrev pub numbers : List ℕ
  numbers = once (world_numbers r def ++ flat_map (brought_into r) (filter_map item_interface (items_of def)))

  abbrev total : ℕ
  total = 64 + (sum_by weigh numbers + sum_by (entry-weight r) es)

  pub weight-is : world_weight r w.0 ≡ total
  unfolding world_weight
  weight-is = search std_rules

  item-of : (e : Entry) → Contains es e → Contains (items_of def) e.1
  item-of e c = subst (λ (is : List WorldItem). Contains is e.1) (map-append second def.imports.entries def.exports.entries) (contains-map second es e c)

  pub listed : (t : TypeId) → Contains (type_ids_among es) t → Contains (world_type_numbers def) t.0
  listed t c =
      let x = from-map (λ (n : ℕ). number n) (types_among es) t c in
      let e = given-contains (λ (e : Entry). item_type e.1) es x.0 x.1 in
      subst (λ (m : ℕ). Contains (world_type_numbers def) m) (ap (λ (t : TypeId). t.0) x.2) (imported x.0 e.0 e.1 e.2)
    where
      number : ℕ → TypeId
      number n = record { 0 = n }

      imported : (n : ℕ) (e : Entry) → Contains es e → item_type e.1 ≡ Some n → Contains (world_type_numbers def) n
      imported n e c is = elim (Contains-append_cases def.imports.entries def.exports.entries e c) [
        | inl a ↦ contains-filter_map item_type (values def.imports) e.1 n (contains-map (λ (x : Entry). x.1) def.imports.entries e a)
            (subst (λ (o : Option ℕ). Contains (option_to_list o) n) (sym is) (contains-one n))
        | inr b ↦ (let t = typed-item e.1 n is in absurd (no-type-exported r v w def home e.0 t.0 (subst (λ (i : WorldItem). Contains def.exports.entries (e.0, i)) t.1 b)))
      ]

  pub among : (f : Function) → Contains (functions_among es) f → Contains (functions_of_world def) f
  among f c =
      let e = given-contains (λ (e : Entry). item_function e.1) es f c in
      contains-filter_map item_function (items_of def) e.0.1 f (item-of e.0 e.1) (subst (λ (o : Option Function). Contains (option_to_list o) f) (sym e.2) (contains-one f))

  pub own : IsOwner r v (owner.World w) (world_type_numbers def) (functions_of_world def)
  own = world-owner r v w def home

  pub counted : (n : ℕ) → IsMetAmong r es n → Contains numbers n
  counted n m = contains-once _ n (Contains-append_left (world_numbers r def) _ n
      (counted-once r v (owner.World w) (world_type_numbers def) (functions_of_world def) own (type_ids_among es) (functions_among es) listed among n m))

  entry-within : (e : Entry) → Contains es e → entry-weight r e ≤ total
  entry-within e c = omega (arith, one-of (entry-weight r) es e c)

  -- ---- functions

  abbrev is-keyed : Entry → Bool
  is-keyed e = passes (λ f. is_name_key (text_of f.name) e.0 && is_member r (as_world w.0) f) (item_function e.1)

  pub keyed : (e : Entry) → Contains es e → is-keyed e ≡ true
  unfolding function_names
  keyed e c = all-contained is-keyed es e (world_passes function_names r v.rules.function_names w.0 def home) c

  function-name : (canonical : Bool) (k : WorldKey) (f : Function) → Contains es (k, item.Function f) → function_weight f ≤ limit → fits_name (name_of_item r canonical (k, item.Function f)) ≡ true
  function-name canonical (key.Interface i) f c low = let h = keyed (key.Interface i, item.Function f) c in absurd cc
  function-name canonical (key.Name name) f c low =
      let same = text_same (text_of name) (text_of f.name) (first_true (text_eq (text_of name) (text_of f.name)) _ (keyed (key.Name name, item.Function f) c)) in
      let parts = sum_by-cons length (text_of f.name) (option_to_list (optional_text f.external_id)) in
      name-fits (name_of_item r canonical (key.Name name, item.Function f)) (function_weight f) (omega (arith, ap length same, parts)) (omega arith)
      (omega (arith, ap long (no-suffix-written r canonical))) (omega (arith, parts)) low

  item-name : (canonical : Bool) (k : WorldKey) (i : WorldItem) → Contains es (k, i) → item_type i ≡ None → entry-weight r (k, i) ≤ limit → fits_name (name_of_item r canonical (k, i)) ≡ true
  item-name canonical k (item.Function f) c none low = function-name canonical k f c low
  item-name canonical k (item.Type_ id) c none low = absurd cc
  item-name canonical k (item.Interface id stability docs external) c none low =
      let texts = sum_by length (key_text r k ∷ (implemented_texts r k id.0 ++ option_to_list (optional_text external))) in
      let first = sum_by-cons length (key_text r k) (implemented_texts r k id.0 ++ option_to_list (optional_text external)) in
      let rest = sum_by-append length (implemented_texts r k id.0) (option_to_list (optional_text external)) in
      interface-name r canonical k (item.Interface id stability docs external) id (optional_text external) texts refl refl (omega (arith, first, rest)) (omega (arith, low))

  -- ---- the whole

  no-lack : total ≤ limit → WorldLacksRoom r def → ⊥
  no-lack light (an_interface i d c at lacks) =
      let e = from-flat (λ (e : Entry). option_to_list (item_interface e.1)) es i.0 c in
      absurd (omega (arith, lacking-heavy r i d v at lacks, of-interface e.0 i.0 e.2, entry-within e.0 e.1, light))
    where
      of-interface : (e : Entry) (n : ℕ) → Contains (option_to_list (item_interface e.1)) n → whole_instance_weight r n ≤ entry-weight r e
      of-interface (k, item.Interface id stability docs external) n (zero, l, e) = omega (arith, ap (whole_instance_weight r) e)
      of-interface (k, item.Interface id stability docs external) n (suc p, l, e) = absurd (omega (arith, l))
      of-interface (k, item.Function f) n c = none-in n c
      of-interface (k, item.Type_ id) n c = none-in n c
  no-lack light (a_name canonical e c none unfit) = cc (item-name canonical e.0 e.1 c none (omega (arith, entry-within e c, light)))
  no-lack light (a_type n d m at lacks) =
      let heavy = part-heavy-of r v (owner.World w) (world_type_numbers def) (functions_of_world def) own (type_ids_among es) (functions_among es) listed among n d m at lacks in
      absurd (omega (arith, heavy, one-of weigh numbers n (counted n m), light))
  no-lack light (a_function f c unfit) =
      let e = given-contains (λ (e : Entry). item_function e.1) es f c in
      absurd (omega (arith, type-heavy r f unfit, of-function e.0 e.2, entry-within e.0 e.1, light))
    where
      of-function : (e : Entry) → item_function e.1 ≡ Some f → entry-weight r e ≡ function_weight f
      of-function (k, item.Function g) e = let same : g ≡ f = cc in ap function_weight same
      of-function (k, item.Interface id stability docs external) e = absurd cc
      of-function (k, item.Type_ id) e = absurd cc
  no-lack light (too_many m) =
      let met = sum-among weigh m.met numbers m.are_met.different (λ n c. counted n (m.are_met.all n c)) in
      let met-each = at-least weigh m.met (λ n c. counted-least r v (owner.World w) (world_type_numbers def) (functions_of_world def) own (type_ids_among es) (functions_among es) listed among n
      (m.are_met.all n c)) in
      let brought = numbers-weigh r functions_of_interface (whole_instance_weight r) (whole-least r) (interfaces_among es) m.brought m.are_brought.different
      (λ n c. named-stands r functions_of_interface v (interfaces_among es) n (m.are_brought.all n c)) in
      let brought-each = at-least (λ (n : ℕ). 64) m.brought (λ n c. omega arith) in
      absurd (omega (arith, met, met-each, brought, brought-each, entries-weigh r es, m.many, light))

pub lacking-worlds-heavy : LackingWorldsAreHeavy
lacking-worlds-heavy r w def v home lacks =
    let no : world_weight r w.0 ≤ limit → ⊥ = λ l. no-lack r v w def home (omega (arith, l, weight-is r v w def home)) lacks in
    omega (arith, no)
