-- What instances of a component type show, and what they use.
use Rattle.std.proofs.Common.{rules as std_rules, ◌≡◌, ◌⊎◌, inl, inr, refl, sym, ap, ◌∙◌, subst, ℕ, ◌+◌, ◌<◌, ◌≤◌, ◌==◌, arith, Bool, false, not, ◌||◌, eqb, List, [], ◌∷◌, ◌++◌, map, length, length-append, take, Option, Some, None, slice_get, Result, IfOk, IfErr}
use Rattle.std.proofs.{Math.ListN.length-map, lemmas.Bool.cases_lt, lemmas.List.append-nil, lemmas.List.take-map, lemmas.Option.slice_get_within as found_below}
use Rattle.std.specs.List.{list_any}
use Rattle.wit_model.specs.{Meaning.Signature, Text.Text, Tree.Place, Tree.Tree}
use Rattle.comp_bytes.specs.Reading.{◌>>=◌}
use Rattle.comp_meaning.specs.Follow.{Scope as MeantScope, Seen as MeantSeen, Key, Slot as Meant, View as MeantView, interface_of, text_of_key, see, see_instance, used_view, when}
use Rattle.read_follow.specs.declared.{bodies.Body.Body, scopes.Seen.Seen, slots.Slot.Slot, views.View.View}
use Rattle.read_follow.specs.declared.{instance_keys.InstanceKey.InstanceKey, names.ExternName.ExternName, refusal.Refusal.Refusal, scopes.Instance.Instance}
use Rattle.read_follow.specs.{Bodies.held_declaration_at, Bodies.items_in, Slots.resource_slot, Slots.slot_in, Slots.slots_in}
use Rattle.read_follow.specs.{Defining.Grows, ExternNames.raw_name, Placed.apart, Placed.ComeBefore, Placed.HasNoNames, Placed.IsTypeNamed, Placed.MayMeet}
use Rattle.read_follow.specs.Following.{is_path, slots_at, AreMarked, AreSlotsIn, AreTables, IsSlotIn, State}
use Rattle.read_follow.specs.{Functions.functions_in, Functions.FunctionShape, InstanceScopes.tables_of, InstanceScopes.IsViewOf, InstanceScopes.ShowsNothing}
use Rattle.read_follow.specs.Numbering.{all_in, held_trees, instance_trees, scoped_trees, used_trees, CountUp}
use Rattle.read_follow.specs.Places.{has_path, key_at, path_text, place_number, ArePlacesOf, IsFreshKey, IsKeyIn, IsKeyOf, IsOnlyNew}
use Rattle.read_follow.specs.Scopes.{direction, instance_in, meant_at, path_of, seen_in, view_in, viewed, waiting, Goes, HasNoUsedView, IsFirstOf, IsImportNamed, IsInstanceIn, IsInstanceSeen, IsKeyPlaced, IsPlacedInstance, IsPlacedWorld, IsShownAs, IsShownBy, by_instance, IsUsedView, IsWorld, ShownOver, Stops, World}
use Rattle.plan_meaning.specs.Shapes.{Shape, named_shape, shape_trees, IsTable}
use Rattle.read_follow.proofs.{DefiningLaws.all_at, DefiningLaws.longer, FollowingLaws.name_part, FollowingLaws.slots_stay, FollowingLaws.if_err as if_refused}
use Rattle.read_follow.proofs.{NumberingLaws.bare_all, NumberingLaws.scoped_all, PlacedLaws.stands_on, PlacedLaws.stood, SlotLaws.at_slot, SlotLaws.no_slot}
use Rattle.read_follow.proofs.PlacedScopes.{added_seen, both_pass, extended_placed, import_passes, imported_many, one_counted, only_last, seen_passes}
use Rattle.read_follow.proofs.{Refusing.refused, ScopedLaws.instance_scoped}
use Rattle.read_follow.proofs.ScopeLaws.{exported, extended, extended_world, goes_on, imported, one_behind, plus, plus_instance, waiting_used, world_with}
use Rattle.read_follow.proofs.SeeLaws.{added_exports, added_imports, all_exported, all_imported, exports_are, imports_are, seen_plus}
use Rattle.base_lemmas.proofs.{Lists.at_last, Lists.get_back, Numbers.nothing_more as none_before}
use Rattle.comp_meaning.specs.Follow as follow
use Rattle.read_follow.specs.declared.scopes.Shown.TheVariants as shown
use Rattle.read_follow.specs.declared.slots.Slot.TheVariants as slots

-- ---- the view of an instance type

if_ok : {A : Type 0} (P Q : A → Type 0) (r : Result A Refusal) → ((x : A) → P x → Q x) → IfOk r P → IfOk r Q
if_ok y z u f h = search std_rules

when_none : {A : Type 0} (b : Bool) → when {A = A} b None ≡ None
when_none x = search std_rules

turned : (a b : ℕ) → eqb a b ≡ (b == a)
turned a b = search std_rules

pub any_turned : (n : ℕ) (xs : List ℕ) → list_any (eqb n) xs ≡ list_any (λ m. m == n) xs
any_turned n [] = refl
any_turned n (x ∷ xs) = λ i. turned n x i || any_turned n xs i

module _ (marks : List Bool) (here : ℕ) (start : State) (ss : List Slot) (used : List ℕ) (n : ℕ) where
  pub used_shown : (b : Body) (around : ℕ) (now : State) (r : Result View Refusal) (outer : List Slot) → outer ≡ take around ss → list_any (λ m. m == n) used ≡ false
      → slice_get ss n ≡ Some (slots.Instance b around) → IfOk r (λ v. IsViewOf marks here start outer b v now) → IfOk r (λ v. IsUsedView marks here start ss used n v now)
  used_shown b around now r outer is unused at h = search std_rules

  module _ (place : ℕ → Place) where
    abbrev T : List Tree
    T = shape_trees place start.shapes

    abbrev F : List Signature
    F = functions_in (shape_trees place start.shapes) start.signatures

    pub used_is : (b : Body) (around : ℕ) → slice_get ss n ≡ Some (slots.Instance b around)
        → used_view (slots_at place start ss) (place here) (slice_get (slots_at place start ss) n) ≡ follow.instance_view (place here) (slots_at place start (take around ss))
        (items_in held_declaration_at b)
    used_is b around at = ap (used_view (slots_at place start ss) (place here)) (at_slot ss n T F (slots.Instance b around) at)
        ∙ ap (λ xs. follow.instance_view (place here) xs (items_in held_declaration_at b)) (take-map (slot_in T F) around ss)

    abbrev unless_used : Option Meant → Option MeantView
    unless_used o = when (not (list_any (λ m. m == n) used)) (used_view (slots_at place start ss) (place here) o)

    pub no_value : (part : ℕ) (s : Slot) → slice_get ss n ≡ Some s → s ≡ slots.Value part → unless_used (slice_get (slots_at place start ss) n) ≡ None
    no_value part s at is = ap unless_used (at_slot ss n T F s at) ∙ (ap (λ x. unless_used (Some (slot_in T F x))) is ∙ when_none (not (list_any (λ m. m == n) used)))

    pub no_function : (f : ℕ) (s : Slot) → slice_get ss n ≡ Some s → s ≡ slots.Function f → unless_used (slice_get (slots_at place start ss) n) ≡ None
    no_function f s at is = ap unless_used (at_slot ss n T F s at) ∙ (ap (λ x. unless_used (Some (slot_in T F x))) is ∙ when_none (not (list_any (λ m. m == n) used)))

    pub nothing : slice_get ss n ≡ None → unless_used (slice_get (slots_at place start ss) n) ≡ None
    nothing none = ap unless_used (no_slot ss n T F none) ∙ when_none (not (list_any (λ m. m == n) used))

    pub no_resource : IsTable start.shapes → AreSlotsIn start.shapes start.signatures ss → (part : ℕ) (s : Slot) → slice_get ss n ≡ Some s → s ≡ slots.Resource part
        → unless_used (slice_get (slots_at place start ss) n) ≡ None
    no_resource table inside part s at is = ap unless_used (at_slot ss n T F s at) ∙ (ap (λ x. unless_used (Some (slot_in T F x))) is
        ∙ (ap (λ t. unless_used (Some (resource_slot t))) (name_part place start.shapes part table
        (all_at (IsSlotIn start.shapes start.signatures) ss n (slots.Resource part) inside (at ∙ ap Some is))) ∙ when_none (not (list_any (λ m. m == n) used))))

  pub none_shown : (b : Body) (around : ℕ) (r : Result View Refusal) (outer : List Slot) → outer ≡ take around ss → slice_get ss n ≡ Some (slots.Instance b around)
      → IfErr r (λ e. ShowsNothing marks here start outer b e) → IfErr r (HasNoUsedView marks here start ss used n)
  none_shown b around r outer is at h = if_refused (λ e. ShowsNothing marks here start outer b e) (HasNoUsedView marks here start ss used n) r
      (λ e shows place marked. refused e (follow.instance_view (place here) (slots_at place start outer) (items_in held_declaration_at b)) (unless_used place (slice_get (slots_at place start ss) n))
      (λ none. ap (when (not (list_any (λ m. m == n) used))) (used_is place b around at
      ∙ (ap (λ (xs : List Slot). follow.instance_view (place here) (slots_at place start xs) (items_in held_declaration_at b)) (sym is) ∙ none)) ∙ when_none (not (list_any (λ m. m == n) used)))
      (shows place marked)) h

-- ---- an instance under its key

marked_paths : (paths : List (Option Text)) (place : ℕ → Place) → ArePlacesOf paths place → AreMarked (map has_path paths) place
marked_paths paths place of n b e = let m = get_back has_path paths n b e in ap is_path (of n m.0 m.1) ∙ ((search std_rules) ∙ m.2)

-- the interface of a key is that of its place
module _ (paths : List (Option Text)) (place : ℕ → Place) (of : ArePlacesOf paths place) where
  text_at : (p : ℕ) (path : Text) → slice_get paths p ≡ Some (Some path) → Some (path_text (place p)) ≡ path_of (place p)
  text_at p path at = ap (λ q. Some (path_text q)) (of p (Some path) at) ∙ sym (ap path_of (of p (Some path) at))

  interface_is : (key : InstanceKey) → IsKeyIn paths key → interface_of (key_at place key) ≡ path_of (place (place_number key))
  interface_is x h = search std_rules

  place_back : (q : Place) → follow.instance_place (path_of q) ≡ q
  place_back x = search std_rules

  place_is : (key : InstanceKey) → IsKeyIn paths key → follow.instance_place (interface_of (key_at place key)) ≡ place (place_number key)
  place_is key h = ap follow.instance_place (interface_is key h) ∙ place_back (place (place_number key))

module _ (old : World) (st : IsWorld old) (b : Bool) (name : ExternName) (n : ℕ) (paths : List (Option Text)) (key : InstanceKey) (is_key : IsKeyOf (follow.key_of (raw_name name)) paths key) where
  abbrev under_key : MeantScope → Key → Option MeantView → Option MeantScope
  under_key m k o = o >>= λ view. Some (see (direction b) (record { key = text_of_key k; shown = follow.Shown.instance k view; external_id = (raw_name name).external_id })
      (record m { instances = m.instances ++ record { interface = interface_of k; view = view } ∷ []; used = m.used ++ n ∷ [] }))

  abbrev view_asked : MeantScope → Key → Option MeantView
  view_asked m k = when (not (list_any (λ i. i == n) m.used)) (used_view m.slots (follow.instance_place (interface_of k)) (slice_get m.slots n))

  keyed : (place : ℕ → Place) → ArePlacesOf paths place → see_instance (direction b) (raw_name name) n (meant_at place old) ≡ under_key (meant_at place old) (key_at place key)
      (when (not (list_any (λ i. i == n) old.used)) (used_view (slots_at place (tables_of old.shapes old.signatures) old.slots) (place (place_number key))
      (slice_get (slots_at place (tables_of old.shapes old.signatures) old.slots) n)))
  keyed place of = search (std_rules, place_is paths place of key is_key.stands)

  pub instance_stops : (e : Refusal) → HasNoUsedView (map has_path paths) (place_number key) (tables_of old.shapes old.signatures) old.slots old.used n e
      → Stops (see_instance (direction b) (raw_name name) n) old paths e
  instance_stops e r place of = refused e (when (not (list_any (λ i. i == n) old.used))
      (used_view (slots_at place (tables_of old.shapes old.signatures) old.slots) (place (place_number key)) (slice_get (slots_at place (tables_of old.shapes old.signatures) old.slots) n)))
      (see_instance (direction b) (raw_name name) n (meant_at place old)) (λ none. keyed place of ∙ ap (under_key (meant_at place old) (key_at place key)) none) (r place (marked_paths paths place of))

  key_own : IsFreshKey old.paths key → ((path : Text) × (slice_get paths (place_number key) ≡ Some (Some path)))
      ⊎ ((slice_get paths (place_number key) ≡ Some None) × (length old.paths ≤ place_number key))
  key_own fresh = search std_rules

  -- what the instance type declares comes into the table
  held_numbered : (gp : Grows old.paths paths) (v : View) (more : List Shape) (more_fs : List FunctionShape)
      → (u : IsUsedView (map has_path paths) (place_number key) (tables_of old.shapes old.signatures) old.slots old.used n v (tables_of more more_fs)) → (place : ℕ → Place) → ArePlacesOf paths place
      → used_trees (slots_in (shape_trees place more) (functions_in (shape_trees place more) more_fs) (old.slots ++ [])) (length old.instances)
      (instance_in place (shape_trees place more) (functions_in (shape_trees place more) more_fs) (record { place = place_number key; view = v }) ∷ []) (n ∷ [])
      ≡ scoped_trees (shape_trees place more) (all_in (Some (length old.instances)) u.view.parts)
  held_numbered gp v more more_fs u place of =
      let T = shape_trees place old.shapes in
      let F = functions_in T old.signatures in
      let U = shape_trees place more in
      let G = functions_in U more_fs in
      let here = place (place_number key) in
      let around = ap (slots_in U G) (append-nil old.slots) ∙ slots_stay (length old.paths) old.shapes more old.signatures more_fs st.tables u.view.shapes_grow u.view.signatures_grow place
      old.slots st.slots in
      let scope = Some (length old.instances) in
      append-nil (all_in scope (instance_trees (slots_in U G (old.slots ++ [])) (follow.instance_place (path_of here)) (slice_get (slots_in U G (old.slots ++ [])) n)))
      ∙ (ap (all_in scope) ((λ i. instance_trees (around i) ((place_back paths place of here) i) (slice_get (around i) n))
      ∙ (ap (instance_trees (slots_in T F old.slots) here) (at_slot old.slots n T F (slots.Instance u.body u.around) u.slot)
      ∙ (ap (λ xs. held_trees (follow.instance_steps here xs follow.new_instance (items_in held_declaration_at u.body))) (take-map (slot_in T F) u.around old.slots)
      ∙ u.view.trees place (marked_paths paths place of)))) ∙ scoped_all U scope u.view.parts)

  -- a name that neither an instance nor an import shows
  not_shown : (q : ℕ) (label : Text) (part : ℕ) → ((i : ℕ) (y : Instance) → slice_get old.instances i ≡ Some y → y.place ≡ q → ⊥) → (q ≡ old.home → ⊥) → IsShownBy old q label part → ⊥
  not_shown q label part none not_home x = search std_rules

  -- the instance that is added
  module _ (gp : Grows old.paths paths) (fresh : IsFreshKey old.paths key) (v : View) (more : List Shape) (more_fs : List FunctionShape)
      (u : IsUsedView (map has_path paths) (place_number key) (tables_of old.shapes old.signatures) old.slots old.used n v (tables_of more more_fs))
      (base : List Shape) (places : ℕ) (p : IsPlacedWorld base places old) (ss : List Slot) (im ex : List Seen) (us : List ℕ) where
    abbrev here : ℕ
    here = place_number key

    abbrev x : Instance
    x = record { place = here; view = v }

    abbrev world : World
    world = record { home = old.home; shapes = more; signatures = more_fs; paths = paths; slots = ss; instances = old.instances ++ x ∷ []; imports = im; exports = ex; used = us }

    instances_front : Grows old.instances (old.instances ++ x ∷ [])
    instances_front = record { more = x ∷ []; is = refl }

    no_path : (o : Option (Option Text)) (path : Text) → o ≡ Some None → o ≡ Some (Some path) → ⊥
    no_path o path e f = cc

    home_below : old.home < length old.paths
    home_below = found_below old.paths old.home None st.own

    not_home : here ≡ old.home → ⊥
    not_home same = elim (key_own fresh) [
      | inl path ↦ no_path (slice_get paths old.home) path.0 (stands_on old.paths paths gp old.home None st.own) (ap (slice_get paths) (sym same) ∙ path.1)
      | inr inline ↦ (let past = inline.1 in let below = home_below in absurd (omega (arith, past, below, same)))
    ]

    first_of_all : length old.paths ≤ here → IsFirstOf (old.instances ++ x ∷ []) (length old.instances) x
    first_of_all past i y e less same =
        let there = (all_at (IsInstanceIn old.shapes old.signatures old.paths) old.instances i y st.instances (stood old.instances (old.instances ++ x ∷ []) instances_front i y less e)).place in
        omega (arith, there, past, same)

    -- where it is the first of its place, that has no names yet
    no_names : HasNoNames here base → IsFirstOf (old.instances ++ x ∷ []) (length old.instances) x → HasNoNames here old.shapes
    no_names none first m label at = elim (p.names m here label (found_below old.shapes m (named_shape here label) at) at) [
      | inl below ↦ none m label (stood base old.shapes p.grows m (named_shape here label) below at)
      | inr by ↦ not_shown here label (14 + m) (λ i y e is. first i y (stands_on old.instances (old.instances ++ x ∷ []) instances_front i y e) (found_below old.instances i y e) is) not_home by
    ]

    -- and its names come behind all that there are
    comes_later : HasNoNames here base → IsFirstOf (old.instances ++ x ∷ []) (length old.instances) x → (i : ℕ) (y : Instance) → slice_get (old.instances ++ x ∷ []) i ≡ Some y
        → i < length old.instances → ComeBefore y.view.types.items v.types.items
    comes_later none first i y at less j k t z t_at z_at =
        let old_name = all_at (IsTypeNamed old.shapes y.place) y.view.types.items j t (p.instances i y (stood old.instances (old.instances ++ x ∷ []) instances_front i y less at)).named t_at in
        let new_name = all_at (IsTypeNamed more here) v.types.items k z u.view.placed.named z_at in
        elim (cases_lt new_name.number (length old.shapes)) [
          | inl below ↦ absurd (no_names none first new_name.number z.name.now (stood old.shapes more u.view.shapes_grow new_name.number (named_shape here z.name.now) below new_name.at))
          | inr past ↦ omega (arith, found_below old.shapes old_name.number (named_shape y.place t.name.now) old_name.at, old_name.is, new_name.is, past)
        ]

    instance_placed : IsPlacedInstance base places world (length old.instances) x
    instance_placed = record {
      shown = u.view.placed.shown;
      named = u.view.placed.named;
      own = elim (key_own fresh) [
        | inl path ↦ inl path
        | inr inline ↦ inr (record {
          none = inline.0;
          new = (let past = inline.1 in let below = home_below in let after = p.home in omega (arith, past, below, after));
          not_home = not_home;
          first = first_of_all inline.1;
        })
      ];
      rise = λ none first. u.view.placed.rise (no_names none first);
      later = comes_later;
    }

  pub instance_goes : Grows old.paths paths → IsFreshKey old.paths key → IsOnlyNew old.paths (place_number key) paths → (v : View) (more : List Shape) (more_fs : List FunctionShape)
      → IsUsedView (map has_path paths) (place_number key) (tables_of old.shapes old.signatures) old.slots old.used n v (tables_of more more_fs) → (new : World)
      → new ≡ world_with old.home more more_fs paths old.slots (old.instances ++ record { place = place_number key; view = v } ∷ [])
      (added_imports b old.imports (record { shown = shown.Instance key (length old.instances); external_id = name.external_id }))
      (added_exports b old.exports (record { shown = shown.Instance key (length old.instances); external_id = name.external_id })) (old.used ++ n ∷ [])
      → Goes 0 (see_instance (direction b) (raw_name name) n) old new
  instance_goes gp fresh only v more more_fs u new e =
      let x : Instance = record { place = place_number key; view = v } in
      let s : Seen = record { shown = shown.Instance key (length old.instances); external_id = name.external_id } in
      let gs = u.view.shapes_grow in
      let gf = u.view.signatures_grow in
      let tables : AreTables (length paths) more more_fs = subst (λ (k : ℕ). AreTables k more more_fs) (length-map paths has_path) u.view.tables in
      let fits : IsShownAs more more_fs paths (length (old.instances ++ x ∷ [])) s.shown = (is_key.stands, omega (arith, (length-append old.instances (x ∷ [])))) in
      goes_on old st more more_fs paths gs gf gp tables [] (x ∷ []) (imported b s) (exported b s) (n ∷ []) 0 (see_instance (direction b) (raw_name name) n) new
      (e ∙ (λ i. world_with old.home more more_fs paths (sym (append-nil old.slots) i) (old.instances ++ x ∷ []) (imports_are b old.imports s i) (exports_are b old.exports s i)
      (old.used ++ n ∷ []))) (extended_world old st more more_fs paths gs gf gp tables [] (x ∷ []) (imported b s) (exported b s) (n ∷ []) tt
      (record { place = search (std_rules, found_below); types = u.view.types; functions = u.view.functions }, tt)
      (all_imported (λ (y : Seen). IsShownAs more more_fs paths (length (old.instances ++ x ∷ [])) y.shown) b s fits)
      (all_exported (λ (y : Seen). IsShownAs more more_fs paths (length (old.instances ++ x ∷ [])) y.shown) b s fits)) (λ base places p.
      let seen = seen_passes (λ (y : MeantSeen). ShownOver (MayMeet (map has_path paths) old.home) y.shown)
      (seen_in apart (shape_trees apart more) (functions_in (shape_trees apart more) more_fs) (old.instances ++ x ∷ [])) b s tt in
      let c = length more in
      let world = extended old st more more_fs paths gs gf gp tables [] (x ∷ []) (imported b s) (exported b s) (n ∷ []) in
      extended_placed old st more more_fs paths gs gf gp tables [] (x ∷ []) (imported b s) (exported b s) (n ∷ []) base places (length old.shapes) p (imported b c) (length more) (omega arith) tt
      (λ j y at past.
      let last = only_last old.instances x j y at past in
      subst (λ (z : Instance). IsPlacedInstance base places world j z) last.1
      (subst (λ (m : ℕ). IsPlacedInstance base places world m x) (sym last.0)
      (instance_placed gp fresh v more more_fs u base places p (old.slots ++ []) (old.imports ++ imported b s) (old.exports ++ exported b s) (old.used ++ n ∷ []))))
      seen.0 seen.1 (import_passes (λ (y : Seen). IsImportNamed more old.home y.shown) b s tt)
      (both_pass (λ (y : Seen). IsKeyPlaced (old.instances ++ x ∷ []) y.shown) b s (x, at_last old.instances x, refl))
      (λ j y at past. subst (λ (m : ℕ). IsInstanceSeen world m) (sym (only_last old.instances x j y at past).0)
      (added_seen world old.imports old.exports b s key (length old.instances) refl refl refl))
      (λ j q label low at. elim (u.view.placed.names j q label at) [ inl below ↦ inl below | inr h ↦ inr (by_instance (length old.instances) x (at_last old.instances x) (sym h.0) h.1) ])
      (λ j form parts low at. u.view.placed.formed j form parts at) (imported_many b c s)
      (one_counted base places (length old.shapes) old p world b s c refl (longer old.shapes more gs) (omega arith) tt))
      (λ q path at. elim (only q path at) [ inl below ↦ inl below | inr same ↦ inr (record { number = length old.instances; one = x; at = at_last old.instances x; place = sym same }) ])
      (one_behind (length old.paths) paths x (λ q path at less. elim (only q path at) [ inl below ↦ below | inr same ↦ absurd (omega (arith, less, same)) ]))
      (let same = ap (λ zs. waiting (old.used ++ n ∷ []) 0 zs) (append-nil old.slots) in
      omega (
        arith,
        same,
        (subst (λ k. waiting (old.used ++ k ∷ []) 0 old.slots + u.body.count ≤ waiting old.used 0 old.slots) (none_before n)
            (waiting_used old.used n 0 old.slots (slots.Instance u.body u.around) u.slot (ap (λ k. list_any (λ m. m == k) old.used) (none_before n) ∙ u.unused))),
        u.view.count,
      )) (all_in (Some (length old.instances)) u.view.parts) (
        subst (λ (ps : List ℕ). CountUp (length old.shapes) ps (length more)) (sym (bare_all (Some (length old.instances)) u.view.parts)) u.view.counted,
        (λ place of. held_numbered gp v more more_fs u place of),
        (λ base places p. instance_scoped (extended old st more more_fs paths gs gf gp tables [] (x ∷ []) (imported b s) (exported b s) (n ∷ [])) (length old.instances) x (at_last old.instances x)
            u.view.parts u.view.over),
      ) (λ place of.
      let U = shape_trees place more in
      let G = functions_in U more_fs in
      let m = meant_at place old in
      let k = key_at place key in
      let meant : MeantSeen = record { key = text_of_key k; shown = follow.Shown.instance k (view_in U G v); external_id = (raw_name name).external_id } in
      keyed place of ∙ (ap (λ w. under_key m k (when (not w) (used_view (slots_at place (tables_of old.shapes old.signatures) old.slots) (place (place_number key))
      (slice_get (slots_at place (tables_of old.shapes old.signatures) old.slots) n)))) u.unused
      ∙ (ap (under_key m k) (used_is (map has_path paths) (place_number key) (tables_of old.shapes old.signatures) old.slots old.used n place u.body u.around u.slot
      ∙ u.view.shows place (marked_paths paths place of)) ∙ ap Some (plus_instance b m (record { interface = interface_of k; view = view_in U G v }) meant n
      ∙ ((λ i. plus m [] (record { interface = interface_is paths place of key is_key.stands i; view = view_in U G v } ∷ []) (imported b meant) (exported b meant) (n ∷ []))
      ∙ seen_plus b (seen_in place U G (old.instances ++ x ∷ [])) m [] (instance_in place U G x ∷ []) (n ∷ []) s meant
      (λ i. record { key = text_of_key k; shown = follow.Shown.instance k (viewed U G (at_last old.instances x i)); external_id = (raw_name name).external_id }))))))
