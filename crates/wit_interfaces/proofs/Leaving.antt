-- What an encoder of interfaces leaves: behind aliases, an instance type, and an import that uses it, it can be used on.
use Rattle.std.proofs.Common.{rules as std_rules, ◌≡◌, refl, sym, subst, ap, ◌∙◌, ℕ, zero, suc, ◌+◌, ◌≤◌, ◌<◌, nat_lt, nat_cmp, Bool, true, false, ◌&&◌, if◌then◌else◌, List, [], ◌∷◌, ◌++◌, length, length-append, Some, slice_get, is_some, arith}
use Rattle.std.proofs.{lemmas.Cmp.nat_cmp_total, Math.Seq.take-append_seam, lemmas.Bool.lt-ltb, lemmas.Bool.and_from as both, lemmas.List.Folds.list_all-append}
use Rattle.std.specs.{BTreeMap.insert_entry, BTreeMap.is_at, Ordering.is_eq, List.Contains, List.filter, List.list_all, Option.option_map_or}
use Rattle.wit_model.specs.{Text.Text, Lookup.interface_path, Lookup.place_of, Lookup.place_of_path, Valid.IsValid}
use Rattle.wit_model.specs.declared.model.{Resolve.Resolve, Interface.Interface, InterfaceId.InterfaceId, WorldId.WorldId, Function.Function}
use Rattle.comp_bytes.specs.{Raw.Declaration, Raw.Declarations, Raw.ExternName, Raw.append, Raw.from_list, Held.type_slots_of}
use Rattle.comp_meaning.specs.Follow.{import_, Key, Slot, View as InstanceView, component_step, in_scope, instance_types, instance_view, new_scope, see, used_view}
use Rattle.encode_shown.specs.Views.{ShowsTypes}
use Rattle.encode_names.specs.{WorldNames.name_of_interface, WorldSteps.declared_towards, WorldSteps.seen_instance, WorldSteps.with_instance}
use Rattle.encode_names.proofs.PathsRead.{path-key}
use Rattle.encode_names.proofs.WorldSteps.{below-more, instance-step, slot-behind, types-appended, unused}
use Rattle.encode_types.specs.declared.maps.TypeEncodingMaps.{TypeEncodingMaps}
use Rattle.encode_types.specs.Known.{Around, GrowsAround, no_around, are_right, below, is_standing, known_instance, outer_instances, outer_scope, outer_slots, standing_instances, stands_around}
use Rattle.encode_types.specs.{Scope.Scope, Slots.Keeps, Standing.SlotsStand, Standing.is_slot_of, View.View}
use Rattle.encode_types.proofs.Tables.{equal-self}
use Rattle.wit_encode.specs.Dependencies.{imported_instance, with_import}
use Rattle.wit_encode.specs.{Instance.EncodesPart, Worlds.is_sound_outside, Worlds.used_types, Worlds.world_resources, Worlds.world_scope, Worlds.world_view}
use Rattle.wit_encode.proofs.{Components.steps-count, Components.steps-instance, Components.steps-more, WorldInterfaces.Leaves, WorldInterfaces.aliases-leave, Contents.slots-kept, Imported.at-same, Importing.importable-stands, Importing.right-more, WorldShown.SoundOutside, WorldShown.sound-again, WorldShown.sound-outside, ImportLoop.path-in-range, ImportsStand.instance-stands, LatestInstances.found-other, LatestInstances.stands-then}
use Rattle.wit_interfaces.specs.InterfaceEncoders.{CanEncodeInterfaces}
use Rattle.base_lemmas.proofs.Elements.{filter_kept as filter-contains}
use Rattle.wit_model.specs.declared.model.TypeOwner.TheVariants as owner
use Rattle.comp_bytes.specs.declared.forms.ComponentTypeRef.TheVariants as refs
use Rattle.comp_meaning.specs.Follow as follow

-- ---- lists

below-only : (n j : ℕ) → Contains (below n) j → j < n
below-only zero j (k, l, e) = absurd (omega (arith, l))
below-only (suc n) j (zero, l, e) = let same : n ≡ j = e in omega (arith, same)
below-only (suc n) j (suc k, l, e) = let more = below-only n j (k, omega (arith, l), e) in omega (arith, more)

types-few : (xs : List Slot) → instance_types xs ≤ length xs
types-few [] = omega arith
types-few (Slot.value t ∷ xs) = let more = types-few xs in omega (arith, more)
types-few (Slot.resource p t ∷ xs) = let more = types-few xs in omega (arith, more)
types-few (Slot.function f ∷ xs) = let more = types-few xs in omega (arith, more)
types-few (Slot.instance ds n ∷ xs) = let more = types-few xs in omega (arith, more)

-- ---- where the surroundings stay

-- An encoder whose surroundings are the same, and that has no fewer slots, can be used on.
pub scope-can : (v v' : View) → CanEncodeInterfaces v → v'.scope ≡ v.scope → v.slot_count ≤ v'.slot_count → CanEncodeInterfaces v'
scope-can v v' h same more = record {
  valid = subst (λ (s : Scope). IsValid s.packages) (sym same) h.valid;
  sound = ap (λ (s : Scope). s.is_sound) same ∙ h.sound;
  listed = subst (λ (s : Scope). (i k : ℕ) → known_instance s.others.listed i ≡ Some k → Contains s.instances i) (sym same) h.listed;
  counted = subst (λ (s : Scope). s.others.instance_count ≡ length s.others.instances) (sym same) h.counted;
  typed = subst (λ (s : Scope). s.others.instance_count ≤ s.others.instance_types) (sym same) h.typed;
  used = subst (λ (s : Scope). list_all (λ n. nat_lt n v'.slot_count) s.others.used ≡ true) (sym same) (below-more v.slot_count v'.slot_count v.scope.others.used more h.used);
}

-- ---- from one component type to the next

-- The encoder can be used on, old slots stand for what they did, and the same interfaces stand.
pub record GoesOn (r : Resolve) (w : WorldId) (count count' : ℕ) (maps : TypeEncodingMaps) (a a' : Around) : Type 0 where
  pub can : CanEncodeInterfaces (world_view r w count' a' maps)
  pub kept : Keeps (SlotsStand (outer_slots a.declared)) (SlotsStand (outer_slots a'.declared))
  pub stand : (j : ℕ) → Contains (world_scope r w count a).instances j → Contains (world_scope r w count' a').instances j

module _ (r : Resolve) (w : WorldId) (count : ℕ) (maps : TypeEncodingMaps) where
  -- behind aliases
  pub aliases-go-on : (a a' : Around) → CanEncodeInterfaces (world_view r w count a maps) → GrowsAround r a a' → GoesOn r w count count maps a a'
  aliases-go-on a a' h g =
      let leaves : Leaves r w count a a' = subst (Leaves r w count a) (sym g.is) (aliases-leave r w count maps a g.made h.sound g.are) in
      record {
        can = scope-can (world_view r w count a maps) (world_view r w count a' maps) h leaves.scope_stays leaves.more;
        kept = leaves.kept;
        stand = λ j c. subst (λ (s : Scope). Contains s.instances j) (sym leaves.scope_stays) c;
      }

  module _ (a : Around) (h : CanEncodeInterfaces (world_view r w count a maps)) (es : List Declaration) where
    s : SoundOutside r w a
    s = sound-outside r w a h.sound

    abbrev x : Slot
    x = Slot.instance es (length s.scope.slots)

    -- behind an instance type
    abbrev typed : Around
    typed = record { declared = append a.declared (Declarations.instance (from_list es) Declarations.no_more); instances = a.instances; known = a.known }

    slots-there : outer_slots a.declared ≡ s.scope.slots
    slots-there = ap (λ o. option_map_or (λ z. z.slots) o []) s.followed

    instances-there : outer_instances a.declared ≡ s.scope.instances
    instances-there = ap (λ o. option_map_or (λ z. z.instances) o []) s.followed

    used-there : used_types a.declared ≡ s.scope.used
    used-there = ap (λ o. option_map_or (λ z. z.used) o []) s.followed

    followed-typed : outer_scope typed.declared ≡ Some (in_scope x s.scope)
    followed-typed = steps-instance new_scope s.scope a.declared es s.followed

    slots-typed : outer_slots typed.declared ≡ outer_slots a.declared ++ x ∷ []
    slots-typed = ap (λ o. option_map_or (λ z. z.slots) o []) followed-typed ∙ ap (λ xs. xs ++ x ∷ []) (sym slots-there)

    sound-slots : (next : follow.Scope) → next.slots ≡ s.scope.slots ++ x ∷ [] → list_all (is_slot_of (world_resources r w)) next.slots ≡ true
    sound-slots next e =
        let test = is_slot_of (world_resources r w) in
        ap (list_all test) e ∙ list_all-append test s.scope.slots (x ∷ []) ∙ both (list_all test s.scope.slots) (test x && true) s.slots refl

    right-slots : (next : follow.Scope) → next.slots ≡ s.scope.slots ++ x ∷ [] → are_right r a.known next.slots ≡ true
    right-slots next e = ap (are_right r a.known) e ∙ right-more r a.known s.scope.slots x s.right

    sound-typed : SoundOutside r w typed
    sound-typed = record { scope = in_scope x s.scope; followed = followed-typed; slots = sound-slots (in_scope x s.scope) refl; right = right-slots (in_scope x s.scope) refl }

    -- with these listed, where the declarations can be followed, the interfaces stand that stand by themselves
    stand-typed : standing_instances r typed ≡ standing_instances r a
    stand-typed = ap (λ b. if b then filter (stands_around r a.instances (outer_instances typed.declared)) (below (length r.interfaces.items)) else [])
        (ap (are_right r a.known) (slots-typed ∙ ap (λ xs. xs ++ x ∷ []) slots-there) ∙ right-slots (in_scope x s.scope) refl)
        ∙ ap (λ xs. filter (stands_around r a.instances xs) (below (length r.interfaces.items))) (ap (λ o. option_map_or (λ z. z.instances) o []) followed-typed ∙ sym instances-there)
        ∙ sym (ap (λ b. if b then filter (stands_around r a.instances (outer_instances a.declared)) (below (length r.interfaces.items)) else []) (ap (are_right r a.known) slots-there ∙ s.right))

    into : (b : Around) (n : ℕ) → is_sound_outside r w b ≡ true → (j : ℕ) → Contains (standing_instances r b) j → Contains (world_scope r w n b).instances j
    into b n sound j c = subst (λ (q : Bool). Contains (if q then standing_instances r b else []) j) (sym sound) c

    out-of : (b : Around) (n j : ℕ) → Contains (world_scope r w n b).instances j → Contains (standing_instances r b) j
    out-of b n j c = importable-stands (is_sound_outside r w b) (standing_instances r b) j c

    stays-typed : (j : ℕ) → Contains (world_scope r w count a).instances j → Contains (world_scope r w count typed).instances j
    stays-typed j c = into typed count (sound-again r w typed sound-typed) j (subst (λ (ns : List ℕ). Contains ns j) (sym stand-typed) (out-of a count j c))

    types-typed : instance_types (outer_slots typed.declared) ≡ instance_types (outer_slots a.declared) + 1
    types-typed = ap instance_types slots-typed ∙ types-appended (outer_slots a.declared) (x ∷ [])

    count-typed : length (outer_slots typed.declared) ≡ length (outer_slots a.declared) + 1
    count-typed = ap length slots-typed ∙ length-append (outer_slots a.declared) (x ∷ [])

    pub type-goes-on : GoesOn r w count count maps a typed
    type-goes-on = record {
      can = record {
        valid = h.valid;
        sound = sound-again r w typed sound-typed;
        listed = λ i k e. stays-typed i (h.listed i k e);
        counted = h.counted ∙ ap length (instances-there ∙ sym (ap (λ o. option_map_or (λ z. z.instances) o []) followed-typed));
        typed = (let few = h.typed in let more = types-typed in omega (arith, few, more));
        used = below-more (length (outer_slots a.declared)) (length (outer_slots typed.declared)) (used_types typed.declared) (let more = count-typed in omega (arith, more))
            (ap (list_all (λ n. nat_lt n (length (outer_slots a.declared)))) (ap (λ o. option_map_or (λ z. z.used) o []) followed-typed ∙ sym used-there) ∙ h.used);
      };
      kept = λ i m c. subst (λ (xs : List Slot). SlotsStand xs i m) (sym slots-typed) (slots-kept x (outer_slots a.declared) i m c);
      stand = stays-typed;
    }

    -- ---- behind the import that uses it

    module _ (canonical : Bool) (i : InterfaceId) (path : Text) (is : interface_path r i.0 ≡ Some path) (view : InstanceView)
        (viewed : instance_view (place_of r (owner.Interface i)) (outer_slots a.declared) es ≡ Some view) (shows : ShowsTypes r i.0 view) (k : ℕ) (index : k ≡ type_slots_of a.declared) where
      abbrev name : ExternName
      name = name_of_interface r canonical i.0

      abbrev number : ℕ
      number = length s.scope.slots

      abbrev imported : Around
      imported = with_import r canonical i k count typed

      abbrev next : follow.Scope
      next = see import_ (seen_instance name (Key.path path) view) (with_instance (Key.path path) view number (in_scope x s.scope))

      same-number : k ≡ number
      same-number =
          let counted : number ≡ length new_scope.slots + type_slots_of a.declared = steps-count new_scope s.scope a.declared s.followed in
          index ∙ (let same : type_slots_of a.declared ≡ number = omega (arith, counted) in same)

      in-range : list_all (λ n. nat_lt n number) s.scope.used ≡ true
      in-range = subst (λ (xs : List Slot). list_all (λ n. nat_lt n (length xs)) s.scope.used ≡ true) slots-there
          (ap (list_all (λ n. nat_lt n (length (outer_slots a.declared)))) (sym used-there) ∙ h.used)

      seen-as : used_view (in_scope x s.scope).slots (follow.instance_place (Some path)) (slice_get (in_scope x s.scope).slots number) ≡ Some view
      seen-as = ap (used_view (in_scope x s.scope).slots (follow.instance_place (Some path))) (slot-behind s.scope.slots x)
          ∙ ap (λ slots. instance_view (follow.instance_place (Some path)) slots es) (take-append_seam s.scope.slots (x ∷ []) ∙ sym slots-there)
          ∙ ap (λ o. instance_view (place_of_path o) (outer_slots a.declared) es) (sym is) ∙ viewed

      stepped : component_step (in_scope x s.scope) (declared_towards import_ name (refs.Instance k)) ≡ Some next
      stepped = ap (λ m. component_step (in_scope x s.scope) (declared_towards import_ name (refs.Instance m))) same-number
          ∙ instance-step name number (in_scope x s.scope) (Key.path path) view (path-key r h.valid i.0 path is canonical) (unused number s.scope.used in-range) seen-as import_

      followed-imported : outer_scope imported.declared ≡ Some next
      followed-imported = steps-more new_scope (in_scope x s.scope) next typed.declared (declared_towards import_ name (refs.Instance k)) followed-typed stepped

      slots-imported : outer_slots imported.declared ≡ outer_slots a.declared ++ x ∷ []
      slots-imported = ap (λ o. option_map_or (λ z. z.slots) o []) followed-imported ∙ ap (λ xs. xs ++ x ∷ []) (sym slots-there)

      instances-imported : outer_instances imported.declared ≡ outer_instances a.declared ++ imported_instance (path, view) ∷ []
      instances-imported = ap (λ o. option_map_or (λ z. z.instances) o []) followed-imported ∙ ap (λ ys. ys ++ imported_instance (path, view) ∷ []) (sym instances-there)

      sound-imported : SoundOutside r w imported
      sound-imported = record { scope = next; followed = followed-imported; slots = sound-slots next refl; right = right-slots next refl }

      right-before : are_right r a.known (outer_slots a.declared) ≡ true
      right-before = ap (are_right r a.known) slots-there ∙ s.right

      right-imported : are_right r a.known (outer_slots imported.declared) ≡ true
      right-imported = ap (are_right r a.known) (ap (λ o. option_map_or (λ z. z.slots) o []) followed-imported) ∙ right-slots next refl

      standing : is_standing r i.0 (imported_instance (path, view)) ≡ true
      standing = instance-stands r h.valid i.0 (path, view) (record { path = is; shows = shows })

      inside : (j : ℕ) → Contains (standing_instances r a) j → j < length r.interfaces.items
      inside j c = below-only (length r.interfaces.items) j (filter-contains (stands_around r a.instances (outer_instances a.declared)) (below (length r.interfaces.items)) j
          (subst (λ (b : Bool). Contains (if b then filter (stands_around r a.instances (outer_instances a.declared)) (below (length r.interfaces.items)) else []) j) right-before c)).0

      stands-imported : (j : ℕ) → j < length r.interfaces.items → (is_at (nat_cmp j) i.0 ≡ false → Contains (standing_instances r a) j) → Contains (standing_instances r imported) j
      stands-imported j l old = stands-then r a imported (imported_instance (path, view)) i.0 instances-imported (ap (insert_entry nat_cmp a.instances i.0) h.counted) right-before right-imported j l
          (λ e. standing) old

      pub own-stands : Contains (world_scope r w (count + 1) imported).instances i.0
      own-stands = into imported (count + 1) (sound-again r w imported sound-imported) i.0 (stands-imported i.0 own-inside (λ other. absurd (own-other other)))
        where
          own-inside : i.0 < length r.interfaces.items
          own-inside = path-in-range r i.0 (ap is_some is)

          own-other : is_at (nat_cmp i.0) i.0 ≡ false → ⊥
          own-other other = let own : is_at (nat_cmp i.0) i.0 ≡ true = ap is_eq (equal-self nat_cmp_total i.0) in let wrong : true ≡ false = sym own ∙ other in let z : ⊥ = cc in z

      stays-imported : (j : ℕ) → Contains (world_scope r w count a).instances j → Contains (world_scope r w (count + 1) imported).instances j
      stays-imported j c =
          let old = out-of a count j c in
          into imported (count + 1) (sound-again r w imported sound-imported) j (stands-imported j (inside j old) (λ other. old))

      listed-imported : (j m : ℕ) → known_instance (insert_entry nat_cmp a.instances i.0 count) j ≡ Some m → Contains (world_scope r w (count + 1) imported).instances j
      listed-imported j m e = by (is_at (nat_cmp j) i.0) refl
        where
          by : (b : Bool) → is_at (nat_cmp j) i.0 ≡ b → Contains (world_scope r w (count + 1) imported).instances j
          by true q = subst (λ (n : ℕ). Contains (world_scope r w (count + 1) imported).instances n) (sym (at-same j i.0 q)) own-stands
          by false q = stays-imported j (h.listed j m (sym (found-other i.0 count j a.instances q) ∙ e))

      used-imported : list_all (λ n. nat_lt n (length (outer_slots imported.declared))) (used_types imported.declared) ≡ true
      used-imported =
          let test : ℕ → Bool = λ n. nat_lt n (length (outer_slots imported.declared)) in
          let more : length (outer_slots imported.declared) ≡ length s.scope.slots + 1 =
          ap length (ap (λ o. option_map_or (λ z. z.slots) o []) followed-imported) ∙ length-append s.scope.slots (x ∷ []) in
          ap (list_all test) (ap (λ o. option_map_or (λ z. z.used) o []) followed-imported) ∙ list_all-append test s.scope.used (number ∷ [])
          ∙ both (list_all test s.scope.used) (test number && true) (below-more number (length (outer_slots imported.declared)) s.scope.used (omega (arith, more)) in-range)
          (both (test number) true (lt-ltb number (length (outer_slots imported.declared)) (omega (arith, more))) refl)

      -- each instance has a type of its own
      pub typed-imported : count < type_slots_of imported.declared
      typed-imported =
          let all : length next.slots ≡ length new_scope.slots + type_slots_of imported.declared = steps-count new_scope next imported.declared followed-imported in
          let more : length next.slots ≡ length s.scope.slots + 1 = length-append s.scope.slots (x ∷ []) in
          let few = h.typed in
          let kinds : instance_types (outer_slots a.declared) ≤ length (outer_slots a.declared) = types-few (outer_slots a.declared) in
          let same : length (outer_slots a.declared) ≡ length s.scope.slots = ap length slots-there in
          omega (arith, all, more, few, kinds, same)

      pub import-goes-on : GoesOn r w count (count + 1) maps a imported
      import-goes-on = record {
        can = record {
          valid = h.valid;
          sound = sound-again r w imported sound-imported;
          listed = listed-imported;
          counted = (let old = h.counted in let more : length (outer_instances imported.declared) ≡ length (outer_instances a.declared) + 1 =
              ap length instances-imported ∙ length-append (outer_instances a.declared) (imported_instance (path, view) ∷ []) in omega (arith, old, more));
          typed = (let few = h.typed in let more : instance_types (outer_slots imported.declared) ≡ instance_types (outer_slots a.declared) + 1 =
              ap instance_types slots-imported ∙ types-appended (outer_slots a.declared) (x ∷ []) in omega (arith, few, more));
          used = used-imported;
        };
        kept = λ n m c. subst (λ (xs : List Slot). SlotsStand xs n m) (sym slots-imported) (slots-kept x (outer_slots a.declared) n m c);
        stand = stays-imported;
      }

-- ---- the calls

module _ (r : Resolve) (w : WorldId) (maps : TypeEncodingMaps) where
  both-go-on : (c d e : ℕ) (a b z : Around) → GoesOn r w c d maps a b → GoesOn r w d e maps b z → GoesOn r w c e maps a z
  both-go-on c d e a b z first second = record { can = second.can; kept = λ i m s. second.kept i m (first.kept i m s); stand = λ j s. second.stand j (first.stand j s) }

  module _ (count : ℕ) (a a' : Around) (h : CanEncodeInterfaces (world_view r w count a maps)) (i : InterfaceId) (def : Interface) (written : List (Text × Function)) (fs : List Function) (k : ℕ) (e : EncodesPart r a a' i def written fs k) where
    abbrev before : Around
    before = e.before

    aliased : GoesOn r w count count maps a before
    aliased = aliases-go-on r w count maps a before h e.aliases.grown

    -- behind aliases and an instance type
    pub part-goes-on : GoesOn r w count count maps a a'
    part-goes-on = subst (GoesOn r w count count maps a) (sym e.one_more) (both-go-on count count count a before _ aliased (type-goes-on r w count maps before aliased.can e.declared))

    module _ (canonical : Bool) (path : Text) (is : interface_path r i.0 ≡ Some path) (shows : ShowsTypes r i.0 e.is_instance.view) where
      -- and behind the import that uses it
      pub whole-goes-on : GoesOn r w count (count + 1) maps a (with_import r canonical i k count a')
      whole-goes-on = subst (λ (z : Around). GoesOn r w count (count + 1) maps a (with_import r canonical i k count z)) (sym e.one_more)
          (both-go-on count count (count + 1) a before _ aliased (import-goes-on r w count maps before aliased.can e.declared canonical i path is e.is_instance.view e.is_instance.followed
          shows k e.index))

      pub whole-stands : Contains (world_scope r w (count + 1) (with_import r canonical i k count a')).instances i.0
      whole-stands = subst (λ (z : Around). Contains (world_scope r w (count + 1) (with_import r canonical i k count z)).instances i.0) (sym e.one_more)
          (own-stands r w count maps before aliased.can e.declared canonical i path is e.is_instance.view e.is_instance.followed shows k e.index)

      pub whole-room : count < type_slots_of (with_import r canonical i k count a').declared
      whole-room = subst (λ (z : Around). count < type_slots_of (with_import r canonical i k count z).declared) (sym e.one_more)
          (typed-imported r w count maps before aliased.can e.declared canonical i path is e.is_instance.view e.is_instance.followed shows k e.index)

-- ---- where nothing has been declared

pub fresh-can : (r : Resolve) (w : WorldId) (count : ℕ) (a : Around) (maps : TypeEncodingMaps) → IsValid r → count ≡ 0 → a ≡ no_around → CanEncodeInterfaces (world_view r w count a maps)
fresh-can r w count a maps valid none empty = search std_rules

pub fresh-sound : (r : Resolve) (w : WorldId) (a : Around) → a ≡ no_around → is_sound_outside r w a ≡ true
fresh-sound r w a empty = ap (is_sound_outside r w) empty
