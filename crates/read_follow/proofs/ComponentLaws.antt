-- One entry of a component type after the other.
use Rattle.std.proofs.Common.{rules as std_rules, ◌≡◌, inl, inr, refl, sym, ap, ◌∙◌, subst, ℕ, zero, suc, ◌+◌, ◌-◌, ◌<◌, ◌≤◌, ◌==◌, ◌&&◌, arith, Bool, true, false, cond, List, [], ◌∷◌, ◌++◌, map, append_assoc, length, length-append, Option, Some, None, slice_get, unwrap_or}
use Rattle.std.proofs.{Math.ListN.length-map, lemmas.List.append-nil, lemmas.Option.same_Some as some_same, lemmas.Option.slice_get_within as found_below}
use Rattle.std.proofs.lemmas.Bool.{cases_lt}
use Rattle.std.specs.{List.AllByRecursion, List.list_any, Option.option_map_or}
use Rattle.wit_model.specs.{Meaning.Signature, Text.Text, Text.text_eq, Tree.Place, Tree.Tree}
use Rattle.comp_bytes.specs.{FirstByte.function_type_at, Levels.Entry as RawEntry, Levels.holds, Levels.plain, Levels.entry_at, Raw.Alias, Raw.Declaration, Raw.DefinedType, Raw.FunctionType}
use Rattle.comp_bytes.specs.Reading.{◌>>=◌, Reader, sequence_at}
use Rattle.comp_meaning.specs.{ByLevels.all_used, ByLevels.entry_scope, ByLevels.entry_step, Reads.steps}
use Rattle.comp_meaning.specs.Follow.{Scope as MeantScope, component_step, definition, exported_slot, find_type, function_signature, in_scope, new_scope, provided}
use Rattle.read_follow.specs.declared.{bodies.Body.Body, refusal.Refusal.Refusal, scopes.Instance.Instance, slots.Slot.Slot, views.ShownType.ShownType}
use Rattle.read_follow.specs.{Bodies.held_declaration_at, Bodies.items_in, Bodies.IsBody, Slots.no_signature, Slots.slot_in, Slots.slots_in, Slots.AreNames}
use Rattle.read_follow.specs.{Defining.AddsForms, Defining.Grows, Defining.IsDefined, Defining.IsDefinedFunction, Defining.IsUndefined, Found.Refuses}
use Rattle.read_follow.specs.Following.{shown_type, AreTables, IsShownIn, IsSlotIn, IsTypeSlot}
use Rattle.read_follow.specs.Functions.{functions_in, signature_in, FunctionShape, IsFunctionIn}
use Rattle.read_follow.specs.Numbering.{all_in, bare_parts, parts_in, scoped_trees, slot_parts, trees_along, trees_since, CountUp}
use Rattle.read_follow.specs.{Pieces.AreAlike, ReadKeys.function_byte}
use Rattle.read_follow.specs.{Placed.apart, Placed.HasNoNames, Placed.MayMeet, Placed.SignatureOver, Placed.SlotOver, Places.has_path, Places.ArePlacesOf}
use Rattle.read_follow.specs.Scopes.{are_settled, find_slot, instance_in, meant_at, path_of, slot_of_instance, start_of, taken_from, waiting, weight, weights, world_signatures, world_trees, Enters, Goes, HasStages, IsFollowedTo, IsInstanceIn, IsPlacedWorld, IsScopedIn, IsScopeOf, IsStage, IsWorld, Stops, StopsAt, World}
use Rattle.plan_meaning.specs.Shapes.{Shape, named_shape, node_shape, part_tree, shape_trees, IsTable}
use Rattle.read_follow.proofs.DefiningLaws.{all_at, longer, no_shapes, same_list, scoped_grown}
use Rattle.read_follow.proofs.FollowingLaws.{functions_wider, joins_all, joins_grow, names_of, ranges_of, slot_counted}
use Rattle.read_follow.proofs.{NumberingLaws.count_below, NumberingLaws.count_scoped, PlacedLaws.stood, ScopedLaws.all_still_scoped, ScopedLaws.slot_numbered}
use Rattle.read_follow.proofs.{ReadKeyLaws.entered_as, ReadKeyLaws.function_entry, SectionLaws.alike}
use Rattle.read_follow.proofs.{OverLaws.definition_over, OverLaws.signature_over, PlaceLaws.below_pathless, Refusing.refused, SlotLaws.mapped_none}
use Rattle.read_follow.proofs.PlacedScopes.{extended_placed, found_over, none_past, path_marked, path_met}
use Rattle.read_follow.proofs.ScopeLaws.{all_before, extended_world, goes_on, none_behind, plus_slot, waiting_push, waits, world_with}
use Rattle.read_follow.proofs.StepLaws.{after_first, grow_on, guarded, headed, none_left, none_less, peeled, sequence_more, unread}
use Rattle.base_lemmas.proofs.{Elements.all_both, Lists.append_of_map, Lists.mapped_get, Lists.slice_front, Lists.within_there as slice_there, Numbers.less}
use Rattle.comp_meaning.specs.Follow as follow
use Rattle.read_follow.specs.declared.slots.Slot.TheVariants as slots

-- ---- the same step in other words

-- ---- the entry in front

module _ (old : World) (bytes : List ℕ) where
  -- it was read, and followed
  pub read_goes : (x : RawEntry) (rest : List ℕ) (new : World) → entry_at bytes ≡ Some (x, rest) → Goes (weight x) (λ m. entry_step m x) old new → Enters bytes rest old new
  read_goes x rest new e g y behind is =
      let same : (x, rest) ≡ (y, behind) = some_same (x, rest) (y, behind) (sym e ∙ is) in
      (ap (λ (p : RawEntry × List ℕ). p.1) same, subst (λ (p : RawEntry × List ℕ). Goes (weight p.0) (λ m. entry_step m p.0) old new) same g)

  pub read_stops : (x : RawEntry) (rest : List ℕ) (paths : List (Option Text)) (e : Refusal) → entry_at bytes ≡ Some (x, rest) → Stops (λ m. entry_step m x) old paths e → StopsAt bytes old paths e
  read_stops x rest paths e is h y behind at = subst (λ (p : RawEntry × List ℕ). Stops (λ m. entry_step m p.0) old paths e) (some_same (x, rest) (y, behind) (sym is ∙ at)) h

  -- none is there
  pub unread_stops : (paths : List (Option Text)) (e : Refusal) → Refuses e (entry_at bytes) → StopsAt bytes old paths e
  unread_stops paths e r x behind at place of = refused e (entry_at bytes) (entry_step (meant_at place old) x) (λ none. absurd ((absurd cc))) r

pub stops_alike : (e other : Refusal) (bytes : List ℕ) (old : World) (paths : List (Option Text)) → AreAlike e other → StopsAt bytes old paths e → StopsAt bytes old paths other
stops_alike e other bytes old paths a h x behind at place of = alike e other (entry_step (meant_at place old) x) a (h x behind at place of)

-- ---- a sequence

nothing_read : {A : Type 0} (reader : Reader A) (bytes : List ℕ) (xs : List A × List ℕ) → sequence_at reader zero bytes ≡ Some xs → length xs.0 ≡ 0
unfolding sequence_at
nothing_read {A = A} reader bytes xs e = let same : ([], bytes) ≡ xs = some_same ([], bytes) xs e in ap (λ (p : List A × List ℕ). length p.0) (sym same)

sequence_length : {A : Type 0} (reader : Reader A) (n : ℕ) (bytes : List ℕ) (xs : List A × List ℕ) → sequence_at reader n bytes ≡ Some xs → length xs.0 ≡ n
sequence_length reader zero bytes xs e = nothing_read reader bytes xs e
sequence_length {A = A} reader (suc n) bytes xs e = by (reader bytes) (sym (sequence_more reader n bytes) ∙ e) (λ behind. sequence_length reader n behind)
  where
    more : (x : A) (o : Option (List A × List ℕ)) → ((ys : List A × List ℕ) → o ≡ Some ys → length ys.0 ≡ n) → headed x o ≡ Some xs → length xs.0 ≡ suc n
    more x None f h = absurd cc
    more x (Some ys) f h = let same : (x ∷ ys.0, ys.1) ≡ xs = cc in let long = f ys refl in let many : length xs.0 ≡ length (x ∷ ys.0) = ap (λ (p : List A × List ℕ). length p.0) (sym same) in
        omega (arith, long, many)

    by : (o : Option (A × List ℕ)) → after_first reader n o ≡ Some xs → ((behind : List ℕ) (ys : List A × List ℕ) → sequence_at reader n behind ≡ Some ys → length ys.0 ≡ n) → length xs.0 ≡ suc n
    by x h f = search (std_rules, more)

-- ---- a slot more

module _ (old : World) (st : IsWorld old) where
  abbrev with_slots : List Shape → List FunctionShape → List Slot → World
  with_slots more more_fs ss = record old { shapes = more; signatures = more_fs; slots = ss }

  pushed : (more : List Shape) (more_fs : List FunctionShape) (gs : Grows old.shapes more) (gf : Grows old.signatures more_fs) (tables : AreTables (length old.paths) more more_fs)
      → (s : Slot) → IsSlotIn more more_fs s
      → ((base : List Shape) (places : ℕ) → IsPlacedWorld base places old → SlotOver (MayMeet (map has_path old.paths) old.home)
      (slot_in (shape_trees apart more) (functions_in (shape_trees apart more) more_fs) s))
      → AddsForms old.shapes more → (few : ℕ) (step : MeantScope → Option MeantScope) (ss : List Slot) → ss ≡ old.slots ++ s ∷ [] → length more + waits s ≤ length old.shapes + few
      → CountUp (length old.shapes) (slot_parts s) (length more)
      → ((place : ℕ → Place) → ArePlacesOf old.paths place → step (meant_at place old) ≡ Some
      (in_scope (slot_in (shape_trees place more) (functions_in (shape_trees place more) more_fs) s) (meant_at place old)))
      → Goes few step old (with_slots more more_fs ss)
  pushed more more_fs gs gf tables s is over forms few step ss next count counted follows =
      goes_on old st more more_fs old.paths gs gf (same_list old.paths) tables (s ∷ []) [] [] [] [] few step (with_slots more more_fs ss)
      (λ i. world_with old.home more more_fs old.paths (next i) (sym (append-nil old.instances) i) (sym (append-nil old.imports) i) (sym (append-nil old.exports) i) (sym (append-nil old.used) i))
      (extended_world old st more more_fs old.paths gs gf (same_list old.paths) tables (s ∷ []) [] [] [] [] (is, tt) tt tt tt) (λ base places p.
      extended_placed old st more more_fs old.paths gs gf (same_list old.paths) tables (s ∷ []) [] [] [] [] base places (length old.shapes) p [] (length more) (omega arith) (over base places p, tt)
      (λ j x at past. absurd (none_past old.instances j x at past)) tt tt tt (tt, tt) (λ j x at past. absurd (none_past old.instances j x at past))
      (λ n q name low at. inl (forms.names n q name at)) (λ n form parts low at. forms.formed n form parts at) refl (λ j x c at here past. absurd (none_past old.imports j x at past)))
      (all_before old.paths (old.instances ++ [])) (none_behind (length old.paths) old.paths) (let same = ap (λ us. waiting us 0 (old.slots ++ s ∷ [])) (append-nil old.used) in
      let push = waiting_push old.used 0 old.slots s in
      omega (arith, same, push, count)) (all_in None (parts_in (s ∷ []))) (slot_numbered old st more more_fs old.paths gs gf (same_list old.paths) tables s [] [] is counted)
      (λ place of. follows place of ∙ ap Some (plus_slot (meant_at place old) (slot_in (shape_trees place more) (functions_in (shape_trees place more) more_fs) s)))

  names_at : (place : ℕ → Place) → AreNames (world_trees place old) old.slots
  names_at place = names_of place old.shapes old.signatures old.slots st.tables.table st.slots

  pub defined_goes : (d : DefinedType) (more : List Shape) (ss : List Slot) → IsTable more → IsDefined old.shapes old.slots d more ss
      → Goes 1 (λ m. component_step m (Declaration.defined d)) old (with_slots more old.signatures ss)
  defined_goes d more ss table is = pushed more old.signatures is.grown (same_list old.signatures) (record {
    table = table;
    placed = is.placed (length old.paths) st.tables.placed;
    signatures = functions_wider (length old.shapes) (length more) old.signatures (longer old.shapes more is.grown) st.tables.signatures;
  }) (slots.Value is.part) is.range (λ base places p. definition_over (MayMeet (map has_path old.paths) old.home) (meant_at apart old).slots p.slots d (part_tree (shape_trees apart more) is.part)
      (is.found apart (world_signatures apart old) (names_at apart)))
      is.forms 1 (λ m. component_step m (Declaration.defined d)) ss is.next (let count = is.count in omega (arith, count)) (length more, is.counted, refl)
      (λ place of. ap (λ o. o >>= λ t. Some (in_scope (follow.value t) (meant_at place old))) (is.found place (world_signatures place old) (names_at place)))

  pub defined_stops : (d : DefinedType) (e : Refusal) → IsUndefined old.shapes old.slots d e → Stops (λ m. component_step m (Declaration.defined d)) old old.paths e
  defined_stops d e r place of = refused e (definition (meant_at place old).slots d) (component_step (meant_at place old) (Declaration.defined d))
      (λ none. ap (λ o. o >>= λ t. Some (in_scope (follow.value t) (meant_at place old))) none) (r place (world_signatures place old) (names_at place))

  pub signed_goes : (f : FunctionType) (more_fs : List FunctionShape) (ss : List Slot) → IsDefinedFunction old.signatures old.slots f more_fs ss
      → Goes 1 (λ m. component_step m (Declaration.function f)) old (with_slots old.shapes more_fs ss)
  signed_goes f more_fs ss is = pushed old.shapes more_fs (same_list old.shapes) (joins_grow old.signatures more_fs is.shape is.joins) (record {
    table = st.tables.table;
    placed = st.tables.placed;
    signatures = joins_all (IsFunctionIn (length old.shapes)) old.signatures more_fs is.shape is.joins st.tables.signatures
        (is.ranges (length old.shapes) (ranges_of old.shapes old.signatures old.slots st.slots));
  }) (slots.Function is.number) (found_below more_fs is.number is.shape is.at) (λ base places p.
      subst (λ (s : Signature). SignatureOver (MayMeet (map has_path old.paths) old.home) s)
      (sym (ap (λ o. unwrap_or o no_signature) (mapped_get (signature_in (world_trees apart old)) more_fs is.number is.shape is.at)))
      (signature_over (MayMeet (map has_path old.paths) old.home) (meant_at apart old).slots p.slots f (signature_in (world_trees apart old) is.shape)
      (is.found (world_trees apart old) (world_signatures apart old)))) (no_shapes old.shapes) 1 (λ m. component_step m (Declaration.function f)) ss is.next (omega arith) refl (λ place of.
      ap (λ o. o >>= λ s. Some (in_scope (follow.function s) (meant_at place old))) (is.found (world_trees place old) (world_signatures place old))
      ∙ ap (λ s. Some (in_scope (follow.function s) (meant_at place old)))
      (sym (ap (λ o. unwrap_or o no_signature) (mapped_get (signature_in (world_trees place old)) more_fs is.number is.shape is.at))))

  pub signed_stops : (f : FunctionType) (e : Refusal) → ((T : List Tree) (F : List Signature) → Refuses e (function_signature (slots_in T F old.slots) f))
      → Stops (λ m. component_step m (Declaration.function f)) old old.paths e
  signed_stops f e r place of = refused e (function_signature (meant_at place old).slots f) (component_step (meant_at place old) (Declaration.function f))
      (λ none. ap (λ o. o >>= λ s. Some (in_scope (follow.function s) (meant_at place old))) none) (r (world_trees place old) (world_signatures place old))

  -- the type of a function is in front, and is followed as it is read
  module _ (is_async : Bool) (bytes front : List ℕ) (begins : bytes ≡ 1 ∷ function_byte is_async ∷ front) where
    pub function_enters : (rest : List ℕ) (more_fs : List FunctionShape) (ss : List Slot)
        → ((f : FunctionType) (behind : List ℕ) → function_type_at is_async front ≡ Some (f, behind) → (rest ≡ behind) × IsDefinedFunction old.signatures old.slots f more_fs ss)
        → Enters bytes rest old (with_slots old.shapes more_fs ss)
    function_enters rest more_fs ss h x behind at = by (function_type_at is_async front) refl (sym (function_entry is_async bytes front begins) ∙ at)
      where
        by : (o : Option (FunctionType × List ℕ)) → function_type_at is_async front ≡ o → entered_as o ≡ Some (x, behind)
            → (rest ≡ behind) × Goes (weight x) (λ m. entry_step m x) old (with_slots old.shapes more_fs ss)
        by None e s = absurd cc
        by (Some f) e s =
            let same : (plain (Declaration.function f.0), f.1) ≡ (x, behind) = some_same (plain (Declaration.function f.0), f.1) (x, behind) s in
            let d = h f.0 f.1 e in (
              d.0 ∙ ap (λ (p : RawEntry × List ℕ). p.1) same,
              subst (λ (p : RawEntry × List ℕ). Goes (weight p.0) (λ m. entry_step m p.0) old (with_slots old.shapes more_fs ss)) same (signed_goes f.0 more_fs ss d.1),
            )

    pub function_stops : (e : Refusal)
        → ((f : FunctionType) (behind : List ℕ) → function_type_at is_async front ≡ Some (f, behind) → (T : List Tree) (F : List Signature) → Refuses e (function_signature (slots_in T F old.slots) f))
        → StopsAt bytes old old.paths e
    function_stops e h x behind at = by (function_type_at is_async front) refl (sym (function_entry is_async bytes front begins) ∙ at)
      where
        by : (o : Option (FunctionType × List ℕ)) → function_type_at is_async front ≡ o → entered_as o ≡ Some (x, behind) → Stops (λ m. entry_step m x) old old.paths e
        by None e s = absurd cc
        by (Some f) is s =
            subst (λ (p : RawEntry × List ℕ). Stops (λ m. entry_step m p.0) old old.paths e) (some_same (plain (Declaration.function f.0), f.1) (x, behind) s) (signed_stops f.0 e (h f.0 f.1 is))

  -- ---- aliases

  module _ (place : ℕ → Place) (of : ArePlacesOf old.paths place) where
    abbrev T : List Tree
    T = world_trees place old

    abbrev F : List Signature
    F = world_signatures place old

    found_meant : (name : Text) (ts : List ShownType) → find_type name (map (shown_type T F) ts) ≡ (find_slot name ts >>= λ s. Some (slot_in T F s))
    found_meant name [] = refl
    found_meant name (t ∷ ts) = search (std_rules, found_meant name ts)

    path_is : (p : ℕ) → p < length old.paths → has_path (path_of (place p)) ≡ has_path (unwrap_or (slice_get old.paths p) None)
    path_is p below =
        let found = slice_there old.paths p below in
        ap (λ x. has_path (path_of x)) (of p found.0 found.1) ∙ ((search std_rules) ∙ ap (λ o. has_path (unwrap_or o None)) (sym found.1))

    provided_slot : (b : Bool) (o : Option Slot) → ((o >>= λ s. Some (slot_in T F s)) >>= λ slot. provided b slot) ≡ ((o >>= λ s. provided b s) >>= λ s. Some (slot_in T F s))
    provided_slot b None = refl
    provided_slot b (Some s) = guarded b s (slot_in T F)

    exported_meant : (name : Text) (m : ℕ)
        → exported_slot name (slice_get (meant_at place old).instances m) ≡ (slot_of_instance old.paths name (slice_get old.instances m) >>= λ s. Some (slot_in T F s))
    exported_meant name m = by (slice_get old.instances m) refl
      where
        by : (o : Option Instance) → slice_get old.instances m ≡ o
            → exported_slot name (slice_get (map (instance_in place T F) old.instances) m) ≡ (slot_of_instance old.paths name o >>= λ s. Some (slot_in T F s))
        by x e = search (std_rules, mapped_none, mapped_get, found_meant, provided_slot, path_is, all_at)

    alias_meant : (a : Alias) → component_step (meant_at place old) (Declaration.alias_of a) ≡ (taken_from old.paths old.instances a >>= λ s. Some (in_scope (slot_in T F s) (meant_at place old)))
    alias_meant (Alias.of_outer scopes n) = refl
    alias_meant (Alias.of_export m name) = ap (λ o. o >>= λ slot. Some (in_scope slot (meant_at place old))) (exported_meant name m) ∙ by (slot_of_instance old.paths name (slice_get old.instances m))
      where
        by : (o : Option Slot) → ((o >>= λ s. Some (slot_in T F s)) >>= λ slot. Some (in_scope slot (meant_at place old))) ≡ (o >>= λ s. Some (in_scope (slot_in T F s) (meant_at place old)))
        by x = search std_rules

  found_in : (name : Text) (ts : List ShownType) → AllByRecursion (IsShownIn old.shapes old.signatures) ts → (s : Slot) → find_slot name ts ≡ Some s → IsSlotIn old.shapes old.signatures s
      × IsTypeSlot s
  found_in name [] h s e = absurd cc
  found_in name (t ∷ ts) h s e = by (text_eq name t.name.now) e (found_in name ts h.1 s)
    where
      by : (b : Bool) → cond b (Some t.slot) (find_slot name ts) ≡ Some s → (find_slot name ts ≡ Some s → IsSlotIn old.shapes old.signatures s × IsTypeSlot s) → IsSlotIn old.shapes old.signatures s
          × IsTypeSlot s
      by x f rest = search std_rules

  given_if : (b : Bool) (o : Option Slot) (s : Slot) → (o >>= λ x. provided b x) ≡ Some s → (b ≡ true) × (o ≡ Some s)
  given_if x y s e = search std_rules

  taken_in : (a : Alias) (s : Slot) → taken_from old.paths old.instances a ≡ Some s → IsSlotIn old.shapes old.signatures s × IsTypeSlot s
  taken_in (Alias.of_outer scopes n) s e = absurd cc
  taken_in (Alias.of_export m name) s e = by (slice_get old.instances m) refl e
    where
      by : (o : Option Instance) → slice_get old.instances m ≡ o → slot_of_instance old.paths name o ≡ Some s → IsSlotIn old.shapes old.signatures s × IsTypeSlot s
      by None at f = absurd cc
      by (Some x) at f =
          let inside = all_at (IsInstanceIn old.shapes old.signatures old.paths) old.instances m x st.instances at in
          found_in name x.view.types.items inside.types s (given_if (has_path (unwrap_or (slice_get old.paths x.place) None)) (find_slot name x.view.types.items) s f).1

  -- what an alias takes over is a name of a place with a path
  taken_over : (base : List Shape) (places : ℕ) → IsPlacedWorld base places old → (a : Alias) (s : Slot) → taken_from old.paths old.instances a ≡ Some s
      → SlotOver (MayMeet (map has_path old.paths) old.home) (slot_in (world_trees apart old) (world_signatures apart old) s)
  taken_over base places p (Alias.of_outer scopes n) s e = absurd cc
  taken_over base places p (Alias.of_export m name) s e = by (slice_get old.instances m) refl e
    where
      by : (o : Option Instance) → slice_get old.instances m ≡ o → slot_of_instance old.paths name o ≡ Some s
          → SlotOver (MayMeet (map has_path old.paths) old.home) (slot_in (world_trees apart old) (world_signatures apart old) s)
      by None at f = absurd cc
      by (Some x) at f =
          let k = given_if (has_path (unwrap_or (slice_get old.paths x.place) None)) (find_slot name x.view.types.items) s f in
          found_over old.shapes st.tables.table old.signatures (MayMeet (map has_path old.paths) old.home) x.place (path_met old.paths old.home x.place (path_marked old.paths x.place k.0))
          name x.view.types.items (all_at (IsInstanceIn old.shapes old.signatures old.paths) old.instances m x st.instances at).types (p.instances m x at).named s k.1

  no_wait : (s : Slot) → IsTypeSlot s → waits s ≡ 0
  no_wait x h = search std_rules

  pub alias_goes : (a : Alias) (s : Slot) (ss : List Slot) → taken_from old.paths old.instances a ≡ Some s → ss ≡ old.slots ++ s ∷ []
      → Goes 1 (λ m. component_step m (Declaration.alias_of a)) old (with_slots old.shapes old.signatures ss)
  alias_goes a s ss taken next =
      let h = taken_in a s taken in
      pushed old.shapes old.signatures (same_list old.shapes) (same_list old.signatures) st.tables s h.0 (λ base places p. taken_over base places p a s taken) (no_shapes old.shapes)
      1 (λ m. component_step m (Declaration.alias_of a)) ss next (omega (arith, no_wait s h.1)) (slot_counted old.shapes old.signatures s h.0)
      (λ place of. alias_meant place of a ∙ ap (λ o. o >>= λ x. Some (in_scope (slot_in (world_trees place old) (world_signatures place old) x) (meant_at place old))) taken)

  pub alias_stops : (a : Alias) (e : Refusal) → Refuses e (taken_from old.paths old.instances a) → Stops (λ m. component_step m (Declaration.alias_of a)) old old.paths e
  alias_stops a e r place of = refused e (taken_from old.paths old.instances a) (component_step (meant_at place old) (Declaration.alias_of a))
      (λ none. alias_meant place of a ∙ ap (λ o. o >>= λ x. Some (in_scope (slot_in (world_trees place old) (world_signatures place old) x) (meant_at place old))) none) r

  -- ---- instance types

  pub held_goes : (b : Body) (around : ℕ) (ss : List Slot) → IsBody held_declaration_at b → around ≡ length old.slots → ss ≡ old.slots ++ slots.Instance b around ∷ []
      → Goes (weight (holds (items_in held_declaration_at b))) (λ m. entry_step m (holds (items_in held_declaration_at b))) old (with_slots old.shapes old.signatures ss)
  held_goes b around ss whole behind next =
      let many = sequence_length held_declaration_at b.count b.bytes.now (items_in held_declaration_at b, []) whole in
      pushed old.shapes old.signatures (same_list old.shapes) (same_list old.signatures) st.tables (slots.Instance b around) whole (λ base places p. tt) (no_shapes old.shapes)
      (length (items_in held_declaration_at b)) (λ m. entry_step m (holds (items_in held_declaration_at b))) ss next (omega (arith, many)) refl
      (λ place of. ap (λ n. Some (in_scope (follow.instance (items_in held_declaration_at b) n) (meant_at place old)))
      (length-map old.slots (slot_in (world_trees place old) (world_signatures place old)) ∙ sym behind))

-- ---- all entries

abbrev pub place_in : List (Option Text) → ℕ → Place
place_in paths n = follow.instance_place (unwrap_or (slice_get paths n) None)

pub places_are : (paths : List (Option Text)) → ArePlacesOf paths (place_in paths)
places_are paths n o e = ap (λ x. follow.instance_place (unwrap_or x None)) e

pub places_before : (paths more : List (Option Text)) → Grows paths more → (place : ℕ → Place) → ArePlacesOf more place → ArePlacesOf paths place
places_before paths more g place of n o e = of n o (ap (λ (ps : List (Option Text)). slice_get ps n) g.is ∙ (slice_front paths g.more n (found_below paths n o e) ∙ e))

-- one entry more
one_step : {S A : Type 0} (step : S → A → Option S) (state : S) (xs : List A) (x : A) → steps step state (xs ++ x ∷ []) ≡ (steps step state xs >>= λ next. step next x)
one_step {S = S} step state [] x = by (step state x)
  where
    by : (o : Option S) → (o >>= λ next. Some next) ≡ o
    by x = search std_rules
one_step {S = S} {A = A} step state (y ∷ xs) x = by (step state y) (λ next. one_step step next xs x)
  where
    by : (o : Option S) → ((next : S) → steps step next (xs ++ x ∷ []) ≡ (steps step next xs >>= λ last. step last x))
        → (o >>= λ next. steps step next (xs ++ x ∷ [])) ≡ ((o >>= λ next. steps step next xs) >>= λ last. step last x)
    by x more = search (std_rules, more)

-- ---- stages

module _ (base : List Shape) (count : ℕ) (es : List RawEntry) (now next : World) (few : ℕ) (step : MeantScope → Option MeantScope) (g : Goes few step now next) where
  stage_on : (n : ℕ) (w : World) → IsStage base count es now n w → IsStage base count es next n w
  stage_on n w s = record {
    world = s.world;
    home = g.home ∙ s.home;
    shapes_grow = grow_on w.shapes now.shapes next.shapes s.shapes_grow g.shapes_grow;
    paths_grow = grow_on w.paths now.paths next.paths s.paths_grow g.paths_grow;
    instances_grow = grow_on w.instances now.instances next.instances s.instances_grow g.instances_grow;
    imports_grow = grow_on w.imports now.imports next.imports s.imports_grow g.imports_grow;
    placed = s.placed;
    front = s.front;
    back = s.back;
    split = s.split;
    long = s.long;
    follows = s.follows;
  }

  stages_on : (i : ℕ) → HasStages base count es i now → IsStage base count es next (i + 1) next → HasStages base count es (i + 1) next
  stages_on i stages last n low = elim (cases_lt i n) [
    | inl past ↦ (let same : i + 1 ≡ n = omega (arith, low, past) in (next, subst (λ (k : ℕ). IsStage base count es next k next) same last))
    | inr le ↦ (let s = stages n le in (s.0, stage_on n s.0 s.1))
  ]

module _ (start : World) (b : Body) where
  abbrev all : List RawEntry
  all = items_in entry_at b

  abbrev whole_scope : Option MeantScope → Option MeantScope
  whole_scope o = o >>= λ scope. provided (all_used scope.used 0 scope.slots) scope

  module _ (i : ℕ) (rest : List ℕ) (now : World) (f : IsFollowedTo start b i rest now) (more : i < b.count) where
    left_here : sequence_at entry_at (suc (b.count - (i + 1))) rest ≡ Some (f.es, [])
    left_here = ap (λ k. sequence_at entry_at k rest) (sym (less b.count i more)) ∙ f.left

    -- there is an entry
    pub not_unread : (e : Refusal) → Refuses e (entry_at rest) → Refuses e (entry_scope all)
    not_unread e r = refused e (entry_at rest) (entry_scope all) (λ none. absurd (unread entry_at (b.count - (i + 1)) rest f.es left_here none)) r

    module _ (x : RawEntry) (behind : List ℕ) (at : entry_at rest ≡ Some (x, behind)) where
      steps_on : (place : ℕ → Place) → ArePlacesOf now.paths place → (o : Option MeantScope) → entry_step (meant_at place now) x ≡ o
          → (ys : List RawEntry) → f.es ≡ x ∷ ys → steps entry_step new_scope all ≡ (o >>= λ next. steps entry_step next ys)
      steps_on place of o e ys same = sym (f.follows place of) ∙ (ap (steps entry_step (meant_at place now)) same ∙ ap (λ p. p >>= λ next. steps entry_step next ys) e)

      reached : (next : World) → Goes (weight x) (λ m. entry_step m x) now next → (ys : List RawEntry) → f.es ≡ x ∷ ys → IsStage start.shapes start.home all next (i + 1) next
      reached next g ys same =
          let front = f.stage.front in
          let long = f.stage.long in
          record {
            world = g.world;
            home = refl;
            shapes_grow = same_list next.shapes;
            paths_grow = same_list next.paths;
            instances_grow = same_list next.instances;
            imports_grow = same_list next.imports;
            placed = g.placed start.shapes start.home f.placed;
            front = front ++ x ∷ [];
            back = ys;
            split = f.behind ∙ (ap (λ zs. front ++ zs) same ∙ sym (append_assoc front (x ∷ []) ys));
            long = omega (arith, (length-append front (x ∷ [])), long);
            follows = λ place of. one_step entry_step new_scope front x ∙ (ap (λ o. o >>= λ m. entry_step m x) (f.stage.follows place (places_before now.paths next.paths g.paths_grow place of))
                ∙ g.follows place of);
          }

      pub followed_on : (next : World) → Goes (weight x) (λ m. entry_step m x) now next → IsFollowedTo start b (i + 1) behind next
      unfolding reached
      followed_on next g =
          let p = peeled entry_at (b.count - (i + 1)) rest f.es left_here x behind at in
          record {
            world = g.world;
            shapes_grow = grow_on start.shapes now.shapes next.shapes f.shapes_grow g.shapes_grow;
            signatures_grow = grow_on start.signatures now.signatures next.signatures f.signatures_grow g.signatures_grow;
            paths_grow = grow_on start.paths now.paths next.paths f.paths_grow g.paths_grow;
            placed = g.placed start.shapes start.home f.placed;
            met = g.met (length start.paths) f.met;
            order = g.order (length start.paths) f.met f.order;
            es = p.0;
            left = p.1;
            count = omega (arith, f.count, g.count, ap weights p.2);
            follows = λ place of. sym (steps_on place (places_before now.paths next.paths g.paths_grow place of) (Some (meant_at place next)) (g.follows place of) p.0 p.2);
            stage = reached next g p.0 p.2;
            behind = (reached next g p.0 p.2).split;
            parts = f.parts ++ g.numbers.parts;
            counted = count_scoped (length start.shapes) f.parts (length now.shapes) g.numbers.parts (length next.shapes) f.counted g.numbers.counted;
            trees = λ place of.
                let T = world_trees place now in
                let U = world_trees place next in
                let along = trees_along (meant_at place next) p.0 in
                ap (λ ts. ts ++ along) (append_of_map _ _ _ ∙ ap (λ ts. ts ++ scoped_trees U g.numbers.parts)
                (scoped_grown place now.shapes next.shapes g.shapes_grow f.parts (count_below (length start.shapes) (bare_parts f.parts) (length now.shapes) f.counted)))
                ∙ (append_assoc (scoped_trees T f.parts) (scoped_trees U g.numbers.parts) along
                ∙ (ap (λ ts. scoped_trees T f.parts ++ ts) (sym (ap (trees_along (meant_at place now)) p.2
                ∙ (ap (λ o. option_map_or (λ last. trees_since (meant_at place now) last ++ trees_along last p.0) o []) (g.follows place of) ∙ ap (λ ts. ts ++ along) (g.numbers.trees place of))))
                ∙ f.trees place (places_before now.paths next.paths g.paths_grow place of)));
            scoped = all_both (λ (p : Option ℕ × ℕ). IsScopedIn next p.0 p.1) f.parts g.numbers.parts
                (all_still_scoped now next g.shapes_grow g.paths_grow g.home g.instances_grow f.parts (count_below (length start.shapes) (bare_parts f.parts) (length now.shapes) f.counted) f.scoped)
                (g.numbers.scoped start.shapes start.home (g.placed start.shapes start.home f.placed));
            stages = stages_on start.shapes start.home all now next (weight x) (λ m. entry_step m x) g i f.stages (reached next g p.0 p.2);
          }

      pub nothing_on : (paths : List (Option Text)) (e : Refusal) → Grows now.paths paths → Stops (λ m. entry_step m x) now paths e → Refuses e (entry_scope all)
      nothing_on paths e grows h =
          let p = peeled entry_at (b.count - (i + 1)) rest f.es left_here x behind at in
          let place = place_in paths in
          refused e (entry_step (meant_at place now) x) (entry_scope all)
          (λ none. ap whole_scope (steps_on place (places_before now.paths paths grows place (places_are paths)) None none p.0 p.2)) (h place (places_are paths))

    -- the entry that is in front is followed, whichever it is
    pub entered_on : (behind : List ℕ) (next : World) → Enters rest behind now next → IsFollowedTo start b (i + 1) behind next
    entered_on behind next g = by (entry_at rest) refl
      where
        by : (o : Option (RawEntry × List ℕ)) → entry_at rest ≡ o → IsFollowedTo start b (i + 1) behind next
        by None e = absurd (unread entry_at (b.count - (i + 1)) rest f.es left_here e)
        by (Some x) e =
            let h = g x.0 x.1 e in
            subst (λ (bytes : List ℕ). IsFollowedTo start b (i + 1) bytes next) (sym h.0) (followed_on x.0 x.1 e next h.1)

    pub stopped_on : (paths : List (Option Text)) (e : Refusal) → Grows now.paths paths → StopsAt rest now paths e → Refuses e (entry_scope all)
    stopped_on paths e grows h = by (entry_at rest) refl
      where
        by : (o : Option (RawEntry × List ℕ)) → entry_at rest ≡ o → Refuses e (entry_scope all)
        by None none = absurd (unread entry_at (b.count - (i + 1)) rest f.es left_here none)
        by (Some x) is = nothing_on x.0 x.1 is paths e grows (h x.0 x.1 is)

  pub followed_whole : (i : ℕ) (rest : List ℕ) (now : World) → IsFollowedTo start b i rest now → i ≤ b.count → b.count ≤ i → IsFollowedTo start b b.count [] now
  followed_whole i rest now f le ge = subst (λ (n : ℕ). IsFollowedTo start b n [] now) (omega (arith, le, ge))
      (subst (λ (bytes : List ℕ). IsFollowedTo start b i bytes now) (none_left entry_at (b.count - i) rest f.es (omega (arith, ge)) f.left).1 f)

-- nothing has been followed
pub followed_none : (home : ℕ) (shapes : List Shape) (fs : List FunctionShape) (paths : List (Option Text)) (b : Body) → AreTables (length paths) shapes fs → slice_get paths home ≡ Some None
    → HasNoNames home shapes → IsBody entry_at b → (new : World) → new ≡ start_of home shapes fs paths → IsFollowedTo (start_of home shapes fs paths) b 0 b.bytes.now new
followed_none home shapes fs paths b tables own fresh whole new e = subst (λ (w : World). IsFollowedTo (start_of home shapes fs paths) b 0 b.bytes.now w) (sym e) (record {
  world = world;
  shapes_grow = same_list shapes;
  signatures_grow = same_list fs;
  paths_grow = same_list paths;
  placed = placed;
  met = all_before paths [];
  order = λ j x at. absurd cc;
  es = items_in entry_at b;
  left = ap (λ n. sequence_at entry_at n b.bytes.now) (none_less b.count) ∙ whole;
  count = omega arith;
  follows = λ place of. refl;
  stage = begun 0 refl;
  behind = refl;
  parts = [];
  counted = refl;
  trees = λ place of. refl;
  scoped = tt;
  stages = λ n low. (start_of home shapes fs paths, begun n (omega (arith, low)));
})
  where
    world : IsWorld (start_of home shapes fs paths)
    world = record { tables = tables; own = own; slots = tt; instances = tt; imports = tt; exports = tt }

    placed : IsPlacedWorld shapes home (start_of home shapes fs paths)
    placed = record {
      grows = same_list shapes;
      within = omega arith;
      home = omega arith;
      fresh = fresh;
      slots = tt;
      imports = tt;
      exports = tt;
      named = tt;
      imports_keyed = tt;
      exports_keyed = tt;
      formed = λ n form parts low at. inl (found_below shapes n (node_shape form parts) at);
      instances = λ j x at. absurd cc;
      seen = λ j x at. absurd cc;
      names = λ n q name low at. inl (found_below shapes n (named_shape q name) at);
      counts = [];
      many = refl;
      counted = λ j s c at here. absurd cc;
    }

    begun : (n : ℕ) → 0 ≡ n → IsStage shapes home (items_in entry_at b) (start_of home shapes fs paths) n (start_of home shapes fs paths)
    begun n none = record {
      world = world;
      home = refl;
      shapes_grow = same_list shapes;
      paths_grow = same_list paths;
      instances_grow = same_list [];
      imports_grow = same_list [];
      placed = placed;
      front = [];
      back = items_in entry_at b;
      split = refl;
      long = none;
      follows = λ place of. refl;
    }

-- ---- what is used at the end

settled_meant : (T : List Tree) (F : List Signature) (used : List ℕ) (n : ℕ) (ss : List Slot) → AreNames T ss → all_used used n (slots_in T F ss) ≡ are_settled used n ss
settled_meant T F used n [] h = refl
settled_meant T F used n (slots.Value part ∷ ss) h = settled_meant T F used (suc n) ss h
settled_meant T F used n (slots.Resource part ∷ ss) h = search (std_rules, settled_meant T F used (suc n) ss h.1)
settled_meant T F used n (slots.Function f ∷ ss) h = settled_meant T F used (suc n) ss h
settled_meant T F used n (slots.Instance b around ∷ ss) h = ap (λ v. list_any (λ m. m == n) used && v) (settled_meant T F used (suc n) ss h)

module _ (home : ℕ) (shapes : List Shape) (fs : List FunctionShape) (before paths : List (Option Text)) (own : paths ≡ before ++ None ∷ []) (new_home : home ≡ length before) (b : Body) (now : World) (f : IsFollowedTo (start_of home shapes fs paths) b b.count [] now) where
  steps_end : (place : ℕ → Place) → ArePlacesOf now.paths place → steps entry_step new_scope (items_in entry_at b) ≡ Some (meant_at place now)
  steps_end place of = sym (f.follows place of) ∙ ap (steps entry_step (meant_at place now)) (none_left entry_at (b.count - b.count) [] f.es (omega arith) f.left).0

  scope_is : (place : ℕ → Place) → ArePlacesOf now.paths place → (v : Bool) → are_settled now.used 0 now.slots ≡ v → entry_scope (items_in entry_at b) ≡ provided v (meant_at place now)
  scope_is place of v e = ap (λ o. o >>= λ scope. provided (all_used scope.used 0 scope.slots) scope) (steps_end place of)
      ∙ ap (λ w. provided w (meant_at place now))
      (settled_meant (world_trees place now) (world_signatures place now) now.used 0 now.slots (names_of place now.shapes now.signatures now.slots f.world.tables.table f.world.slots) ∙ e)

  all_entries : length (items_in entry_at b) ≡ b.count
  all_entries =
      let none = none_left entry_at (b.count - b.count) [] f.es (omega arith) f.left in
      ap (λ (es : List RawEntry). length es) (f.behind ∙ (ap (λ es. f.stage.front ++ es) none.0 ∙ append-nil f.stage.front)) ∙ f.stage.long

  pub scope_shown : are_settled now.used 0 now.slots ≡ true → IsScopeOf shapes fs before b now
  scope_shown e = record {
    world = f.world;
    shapes_grow = f.shapes_grow;
    signatures_grow = f.signatures_grow;
    paths_grow = grow_on before paths now.paths (record { more = None ∷ []; is = own }) f.paths_grow;
    count = (let count = f.count in omega (arith, count));
    placed = subst (λ (n : ℕ). IsPlacedWorld shapes n now) new_home f.placed;
    met = λ q path at. elim (f.met q path at) [ inl below ↦ inl (below_pathless before paths own q path (stood paths now.paths f.paths_grow q (Some path) below at)) | inr met ↦ inr met ];
    order = λ j x at q path there less. elim (f.order j x at q path there less) [
      | inl below ↦ inl (below_pathless before paths own q path (stood paths now.paths f.paths_grow q (Some path) below there))
      | inr met ↦ inr met
    ];
    stages = λ n low. (let many = all_entries in subst (λ (k : ℕ). (w : World) × IsStage shapes k (items_in entry_at b) now n w) new_home (f.stages n (omega (arith, low, many))));
    parts = f.parts;
    counted = f.counted;
    trees = λ place of.
        let none = none_left entry_at (b.count - b.count) [] f.es (omega arith) f.left in
        sym (append-nil (scoped_trees (world_trees place now) f.parts))
        ∙ (ap (λ es. scoped_trees (world_trees place now) f.parts ++ trees_along (meant_at place now) es) (sym none.0) ∙ f.trees place of);
    scoped = f.scoped;
    shows = λ place of. scope_is place of true e;
  }

  pub no_scope : are_settled now.used 0 now.slots ≡ false → entry_scope (items_in entry_at b) ≡ None
  no_scope e = scope_is (place_in now.paths) (places_are now.paths) false e
