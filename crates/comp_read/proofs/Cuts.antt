-- The places of a beginning among all places, each where it stands first.
use Rattle.std.proofs.Common.{rules as std_rules, ◌≡◌, refl, sym, ap, subst, ◌∙◌, ℕ, ◌+◌, ◌<◌, ◌≤◌, inl, inr, arith, true, List, [], ◌∷◌, ◌++◌, length, length-append, map, Option, Some, None, slice_get, take, zero, suc, append_assoc, drop}
use Rattle.std.proofs.lemmas.{Bool.cases_lt, Option.slice_get_within as found_below, Option.same_Some as same-some, List.take-append-drop}
use Rattle.std.proofs.Math.{ListN.length-map, Seq.take-append_seam}
use Rattle.std.proofs.lemmas.List.Elements.{Contains-append_cases, Contains-append_left, Contains-append_right}
use Rattle.std.specs.{Borrow.Bor, List.Contains, List.flat_map}
use Rattle.wit_model.specs.{Text.Text, Tree.Place, Uses.once}
use Rattle.wit_model.proofs.{Elements.contains-get, Elements.contains-flat, Elements.contains-has, Elements.has-contains, Chains.has_once}
use Rattle.comp_bytes.specs.Levels.{Entry, PartType, Piece}
use Rattle.comp_meaning.specs.{Rules.distinct, ByLevels.entry_step, Follow.new_scope, Reads.steps}
use Rattle.comp_meaning.proofs.RulesLemmas.{not_twice}
use Rattle.plan_meaning.specs.NumberedViews.{NumberedType, Tables, path_at}
use Rattle.plan_meaning.specs.{NumberedWorlds.NumberedInstance, NumberedWorlds.NumberedScope, NumberedWorlds.NumberedSeen, Shapes.Shape, Shapes.named_shape}
use Rattle.read_follow.specs.declared.{scopes.Instance.Instance, scopes.Seen.Seen, scopes.Shown.Shown, slots.Slot.Slot, views.ShownType.ShownType}
use Rattle.read_follow.specs.{Following.IsSlotIn, Following.IsTypeSlot, Functions.FunctionShape, Placed.IsTypeNamed}
use Rattle.read_follow.specs.Scopes.{IsImportNamed, IsShownAs, IsShownBy, IsStage, World, by_import, by_instance, world_of, meant_at, seen_in, world_signatures, world_trees}
use Rattle.read_follow.proofs.{DefiningLaws.all_at, DefiningLaws.longer, ComponentLaws.place_in, ComponentLaws.places_are, ComponentLaws.places_before}
use Rattle.read_follow.proofs.PlacedLaws.{stands_on, stood}
use Rattle.read_parts.specs.declared.{following.Followed.Followed, members.Member.Member}
use Rattle.read_parts.specs.{Input.IsFollowed, Members.entries_of, Members.scope_of, Members.IsStagedMember}
use Rattle.read_numbers.specs.NumberedInput.{tables_of}
use Rattle.read_numbers.specs.NumberedParts.{instance_view, numbered_instance, numbered_scope, numbered_seen, numbered_shown, numbered_slot, numbered_type}
use Rattle.read_numbers.specs.PlacedNumbers.{part_of, ArePlacedScopes, IsFirstSeen, IsInstanceAt, scopes_in}
use Rattle.read_numbers.proofs.{PlacedViews.slot_number, ScopeNumbers.path_back}
use Rattle.comp_read.specs.Cuts.{IsCut, StandsBefore, StandsBehind}
use Rattle.base_lemmas.proofs.{Elements.map_from, Elements.get-contains}
use Rattle.base_lemmas.proofs.Lists.{get_back, heads_equal, mapped_get, one_item, tails_equal, append_of_map, map_of_map, front_at, none_there, slice_front, slice_take}
use Rattle.plan_laws.proofs.{ShownAlike.joined_more, MetNames.flat_cases, Sources.IsOnce, Sources.all_once, Sources.none_twice}
use Rattle.comp_read.proofs.{ShownOrder.joined_behind}
use Rattle.plan_meaning.specs.NumberedWorlds as worlds
use Rattle.read_follow.specs.declared.scopes.Shown.TheVariants as shown
use Rattle.comp_meaning.specs.Follow as follow

-- ---- What was in the table behind some first entries of a part comes before what was not.

-- two beginnings of one length are the same
one_front : {A : Type 0} (xs ys us vs : List A) → xs ++ ys ≡ us ++ vs → length xs ≡ length us → xs ≡ us
one_front [] ys [] vs e long = refl
one_front [] ys (u ∷ us) vs e long = absurd (omega (arith, long))
one_front (x ∷ xs) ys [] vs e long = absurd (omega (arith, long))
one_front (x ∷ xs) ys (u ∷ us) vs e long = search (std_rules, heads_equal, tails_equal, one_front xs ys us vs (tails_equal x u (xs ++ ys) (us ++ vs) e) (omega (arith, long)))

-- the type of a slot is one of so many
slot_below : (shapes : List Shape) (fs : List FunctionShape) (s : Slot) → IsSlotIn shapes fs s → IsTypeSlot s → part_of (numbered_slot s) < 14 + length shapes
slot_below shapes fs x inside kind = search (std_rules, found_below)

module _ (pieces : List Piece) (x : Followed) (followed : IsFollowed pieces x) (placed : ArePlacedScopes (tables_of x) (scopes_in x)) where
  abbrev t : Tables
  t = tables_of x

  abbrev ws : List NumberedScope
  ws = scopes_in x

  abbrev ms : List Member
  ms = x.members.items

  abbrev world_in : Member → World
  world_in y = world_of x.table x.functions x.places (scope_of y.part)

  abbrev scope_in : Member → NumberedScope
  scope_in y = numbered_scope x.places (scope_of y.part)

  member_of : (n : ℕ) (w : NumberedScope) → slice_get ws n ≡ Some w → (y : Member) × (slice_get ms n ≡ Some y) × (scope_in y ≡ w)
  member_of n w e = get_back scope_in ms n w e

  -- the instance that was followed, and its place
  record IsOf (n j : ℕ) (i : NumberedInstance) : Type 0 where
    member : Member
    there : slice_get ms n ≡ Some member
    one : Instance
    at : slice_get (scope_of member.part).instances.items j ≡ Some one
    is : numbered_instance one ≡ i

  of_instance : (n j : ℕ) (i : NumberedInstance) → IsInstanceAt ws n j i → IsOf n j i
  of_instance n j i inst =
      let y = member_of n inst.scope inst.at in
      let o = get_back numbered_instance (scope_of y.0.part).instances.items j i (subst (λ (w : NumberedScope). slice_get w.instances j ≡ Some i) (sym y.2) inst.instance_at) in
      record { member = y.0; there = y.1; one = o.0; at = o.1; is = o.2 }

  instance_there : (n j : ℕ) (y : Member) (o : Instance) → slice_get ms n ≡ Some y → slice_get (scope_of y.part).instances.items j ≡ Some o → IsInstanceAt ws n j (numbered_instance o)
  instance_there n j y o there at = search (std_rules, mapped_get scope_in ms n y there, mapped_get numbered_instance (scope_of y.part).instances.items j o)

  -- no instance has the place of a scope's own names
  not_home : (n j : ℕ) (i : NumberedInstance) → IsInstanceAt ws n j i → (k : ℕ) (y : Member) → slice_get ms k ≡ Some y → i.place ≡ (scope_of y.part).home → ⊥
  not_home n j i inst k y there same = by (path_at t i.place) refl
    where
      by : (o : Option Text) → path_at t i.place ≡ o → ⊥
      by None e = placed.not_home n k j i (scope_in y) inst (mapped_get scope_in ms k y there) e same
      by (Some path) e = let wrong : Some path ≡ None = sym e ∙ (ap (path_at t) same ∙ (placed.each k (scope_in y) (mapped_get scope_in ms k y there)).home) in absurd cc

  -- ---- a cut

  module _ (m : ℕ) (raw : Text × PartType) (at : slice_get followed.parts m ≡ Some raw) (member : Member) (there : slice_get ms m ≡ Some member) (front back : List Entry)
      (split : entries_of raw.1 ≡ front ++ back) where
    abbrev pub staged : IsStagedMember x.table x.functions x.places ms m member (entries_of raw.1)
    staged = followed.followed.staged m member raw there at

    pub within : length front ≤ length (entries_of raw.1)
    within = let long = length-append front back in let same = ap (λ (es : List Entry). length es) split in omega (arith, long, same)

    abbrev pub then : World
    then = (staged.stages (length front) within).0

    pub stage : IsStage staged.base staged.count (entries_of raw.1) (world_in member) (length front) then
    stage = (staged.stages (length front) within).1

    pub same_front : stage.front ≡ front
    same_front = one_front stage.front stage.back front back (sym stage.split ∙ split) stage.long

    abbrev many : ℕ
    many = length then.shapes

    base_within : length staged.base ≤ many
    base_within = longer staged.base then.shapes stage.placed.grows

    one_member : (n : ℕ) (y : Member) → slice_get ms n ≡ Some y → n ≡ m → member ≡ y
    one_member n y e same = one_item ms n member y (subst (λ (k : ℕ). slice_get ms k ≡ Some member) (sym same) there) e

    -- a name among those types was shown before
    data WasShown (q : ℕ) (name : Text) : Type 0 where
      by_view : (n j : ℕ) (i : NumberedInstance) → IsInstanceAt ws n j i → i.place ≡ q → StandsBefore m (length then.instances) n j → WasShown q name
      by_name : (n j : ℕ) (y : Member) (s : Seen) (label : Bor (List ℕ)) (part : ℕ) (d : Option ℕ) → slice_get ms n ≡ Some y → slice_get (scope_of y.part).imports.items j ≡ Some s
          → s.shown ≡ shown.Type label part d → label.now ≡ name → q ≡ (scope_of y.part).home → StandsBefore m (length then.imports) n j → WasShown q name

    was_shown : (number q : ℕ) (name : Text) → number < many → slice_get x.table number ≡ Some (named_shape q name) → WasShown q name
    was_shown number q name low e = elim (stage.placed.names number q name low row) [
      | inl base_low ↦
          let earlier = staged.names number q name (stood staged.base then.shapes stage.placed.grows number (named_shape q name) base_low row) in
          from_earlier earlier.number earlier.member earlier.below earlier.at earlier.by
      | inr by ↦ from_here by
    ]
      where
        row : slice_get then.shapes number ≡ Some (named_shape q name)
        row = stood then.shapes x.table stage.shapes_grow number (named_shape q name) low e

        from_earlier : {part : ℕ} (k : ℕ) (y : Member) → k < m → slice_get ms k ≡ Some y → IsShownBy (world_in y) q name part → WasShown q name
        from_earlier k y less y_at (by_instance j o o_at place among) = by_view k j (numbered_instance o) (instance_there k j y o y_at o_at) place (inl less)
        from_earlier k y less y_at (by_import j s label d s_at is named own) = by_name k j y s label _ d y_at s_at is named own (inl less)

        from_here : {part : ℕ} → IsShownBy then q name part → WasShown q name
        from_here (by_instance j o o_at place among) = by_view m j (numbered_instance o)
            (instance_there m j member o there (stands_on then.instances (world_in member).instances stage.instances_grow j o o_at)) place (inr (refl, found_below then.instances j o o_at))
        from_here (by_import j s label d s_at is named own) = by_name m j member s label _ d there (stands_on then.imports (world_in member).imports stage.imports_grow j s s_at) is named (own
            ∙ sym stage.home) (inr (refl, found_below then.imports j s s_at))

    -- ---- what came before

    views_before : (n j : ℕ) (i : NumberedInstance) → IsInstanceAt ws n j i → StandsBefore m (length then.instances) n j → (y : NumberedType) → Contains i.view.types y → part_of y.slot < 14 + many
    views_before n j i inst before y c =
        let o = of_instance n j i inst in
        let z = map_from numbered_type o.one.view.types.items y (subst (λ (k : NumberedInstance). Contains k.view.types y) (sym o.is) c) in
        let z_at = contains-get o.one.view.types.items z.0 z.1 in
        subst (λ (k : NumberedType). part_of k.slot < 14 + many) z.2 (by o z.0 z_at.0 z_at.1 before)
      where
        by : (o : IsOf n j i) (z : ShownType) (k : ℕ) → slice_get o.one.view.types.items k ≡ Some z → StandsBefore m (length then.instances) n j → part_of (numbered_slot z.slot) < 14 + many
        by o z k z_at (inl less) = omega (arith, staged.types_below n o.member o.there less j o.one o.at k z z_at, slot_number z.slot, base_within)
        by o z k z_at (inr (same, low)) =
            let shown_in = all_at _ _ k z
            (all_at _ _ j o.one stage.world.instances (stood then.instances (world_in member).instances stage.instances_grow j o.one low
            (subst (λ (w : Member). slice_get (scope_of w.part).instances.items j ≡ Some o.one) (sym (one_member n o.member o.there same)) o.at))).types z_at in
            slot_below then.shapes then.signatures z.slot shown_in.slot shown_in.kind

    types_before : (n j : ℕ) (w : NumberedScope) (s : NumberedSeen) (d : Option ℕ) → slice_get ws n ≡ Some w → slice_get w.imports j ≡ Some s → s.shown ≡ worlds.declares d
        → StandsBefore m (length then.imports) n j → (number : ℕ) → slice_get t.shapes number ≡ Some (named_shape w.home s.key) → number < many
    types_before n j w s d w_at s_at is before number row =
        let y = member_of n w w_at in
        let vs = map instance_view (scope_of y.0.part).instances.items in
        let u = get_back (numbered_seen x.places vs) (scope_of y.0.part).imports.items j s (subst (λ (k : NumberedScope). slice_get k.imports j ≡ Some s) (sym y.2) s_at) in
        by y.0 y.1 u.0 u.1 u.0.shown refl (ap (λ (k : NumberedSeen). k.shown) u.2 ∙ is)
        (subst (λ (k : NumberedSeen). slice_get t.shapes number ≡ Some (named_shape (scope_of y.0.part).home k.key)) (sym u.2)
        (subst (λ (k : NumberedScope). slice_get t.shapes number ≡ Some (named_shape k.home s.key)) (sym y.2) row)) before
      where
        by : (y : Member) → slice_get ms n ≡ Some y → (u : Seen) → slice_get (scope_of y.part).imports.items j ≡ Some u → (a : Shown) → u.shown ≡ a
            → numbered_shown (map instance_view (scope_of y.part).instances.items) u.shown ≡ worlds.declares d
            → slice_get x.table number ≡ Some (named_shape (scope_of y.part).home (numbered_seen x.places (map instance_view (scope_of y.part).instances.items) u).key)
            → StandsBefore m (length then.imports) n j → number < many
        by y y_at u u_at (shown.Instance key k) e wrong here side = search std_rules
        by y y_at u u_at (shown.Function name k) e wrong here side = search std_rules
        by y y_at u u_at (shown.Type name part o) e same here side =
            let part_is = subst (λ (v : Shown). IsImportNamed x.table (scope_of y.part).home v) e
            (all_at (λ (v : Seen). IsImportNamed x.table (scope_of y.part).home v.shown) (scope_of y.part).imports.items j u (followed.followed.placed n y y_at).placed.named u_at) in
            omega (
              arith,
              followed.followed.tables.table.apart part_is.number number (named_shape (scope_of y.part).home name.now) part_is.at
                  (subst (λ (v : Shown). slice_get x.table number ≡ Some (named_shape (scope_of y.part).home
                  (numbered_seen x.places (map instance_view (scope_of y.part).instances.items) (record { shown = v; external_id = u.external_id })).key)) e here),
              part_is.is,
              part_low y y_at u u_at name part o e side,
            )
          where
            part_low : (y : Member) → slice_get ms n ≡ Some y → (u : Seen) → slice_get (scope_of y.part).imports.items j ≡ Some u → (name : Bor (List ℕ)) (part : ℕ) (o : Option ℕ)
                → u.shown ≡ shown.Type name part o → StandsBefore m (length then.imports) n j → part < 14 + many
            part_low y y_at u u_at name part o e (inl less) = omega (arith, staged.imports_below n y y_at less j u u_at name part o e, base_within)
            part_low y y_at u u_at name part o e (inr (same, low)) = (subst (λ (v : Shown). IsShownAs then.shapes then.signatures then.paths (length then.instances) v) e
                (all_at _ _ j u stage.world.imports (stood then.imports (world_in member).imports stage.imports_grow j u low
                (subst (λ (w : Member). slice_get (scope_of w.part).imports.items j ≡ Some u) (sym (one_member n y y_at same)) u_at)))).0

    -- ---- what came behind

    not_first : (n j : ℕ) (i : NumberedInstance) → IsFirstSeen ws n j i.place → StandsBehind m (length then.instances) n j → (k l : ℕ) (o : NumberedInstance) → IsInstanceAt ws k l o
        → o.place ≡ i.place → StandsBefore m (length then.instances) k l → ⊥
    not_first n j i first (inl more) k l o o_at same (inl less) = first.scopes k l o (omega (arith, more, less)) o_at same
    not_first n j i first (inl more) k l o o_at same (inr (one, low)) = first.scopes k l o (omega (arith, more, one)) o_at same
    not_first n j i first (inr (one, le)) k l o o_at same (inl less) = first.scopes k l o (omega (arith, one, less)) o_at same
    not_first n j i first (inr (one, le)) k l o o_at same (inr (two, low)) = first.instances l o (omega (arith, le, low)) (subst (λ (z : ℕ). IsInstanceAt ws z l o) (two ∙ sym one) o_at) same

    views_behind : (n j : ℕ) (i : NumberedInstance) → IsInstanceAt ws n j i → IsFirstSeen ws n j i.place → StandsBehind m (length then.instances) n j
        → (y : NumberedType) → Contains i.view.types y → 14 + many ≤ part_of y.slot
    views_behind n j i inst first behind y c =
        let o = of_instance n j i inst in
        let z = map_from numbered_type o.one.view.types.items y (subst (λ (k : NumberedInstance). Contains k.view.types y) (sym o.is) c) in
        let z_at = contains-get o.one.view.types.items z.0 z.1 in
        let name = all_at (IsTypeNamed x.table o.one.place) o.one.view.types.items z_at.0 z.0 ((followed.followed.placed n o.member o.there).placed.instances j o.one o.at).named z_at.1 in
        subst (λ (k : NumberedType). 14 + many ≤ part_of k.slot) z.2 (elim (cases_lt name.number many) [
          | inl low ↦ absurd (by (ap (λ (k : NumberedInstance). k.place) o.is) (was_shown name.number o.one.place z.0.name.now low name.at))
          | inr past ↦ omega (arith, (slot_number z.0.slot ∙ name.is), past)
        ])
      where
        by : {q : ℕ} {name : Text} → q ≡ i.place → WasShown q name → ⊥
        by place (by_view k l o o_at same before) = not_first n j i first behind k l o o_at (same ∙ place) before
        by place (by_name k l y s label part d y_at s_at is named own before) = not_home n j i inst k y y_at (sym place ∙ own)

    types_behind : (n j : ℕ) (w : NumberedScope) (s : NumberedSeen) (d : Option ℕ) → slice_get ws n ≡ Some w → slice_get w.imports j ≡ Some s → s.shown ≡ worlds.declares d
        → distinct (map (λ (k : NumberedSeen). k.key) w.imports) ≡ true → StandsBehind m (length then.imports) n j
        → (number : ℕ) → slice_get t.shapes number ≡ Some (named_shape w.home s.key) → many ≤ number
    types_behind n j w s d w_at s_at is apart behind number row = elim (cases_lt number many) [ inl low ↦ absurd (by (was_shown number w.home s.key low row)) | inr past ↦ past ]
      where
        keys : List Text
        keys = map (λ (k : NumberedSeen). k.key) w.imports

        earlier : (k l : ℕ) → k ≡ n → StandsBefore m (length then.imports) k l → StandsBehind m (length then.imports) n j → l < j
        earlier k l same (inl less) (inl more) = absurd (omega (arith, less, more, same))
        earlier k l same (inl less) (inr (one, le)) = absurd (omega (arith, less, one, same))
        earlier k l same (inr (two, low)) (inl more) = absurd (omega (arith, two, more, same))
        earlier k l same (inr (two, low)) (inr (one, le)) = omega (arith, low, le)

        by : WasShown w.home s.key → ⊥
        by (by_view k l o o_at place before) = let y = member_of n w w_at in not_home k l o o_at n y.0 y.1 (place ∙ sym (ap (λ (k : NumberedScope). k.home) y.2))
        by (by_name k l y u label part o y_at u_at shows named own before) =
            let mine = member_of n w w_at in
            let one : k ≡ n = placed.homes k n (scope_in y) w (mapped_get scope_in ms k y y_at) w_at (sym own) in
            let same : mine.0 ≡ y = one_item ms n mine.0 y mine.1 (subst (λ (z : ℕ). slice_get ms z ≡ Some y) one y_at) in
            let is_w : scope_in y ≡ w = subst (λ (z : Member). scope_in z ≡ w) same mine.2 in
            (not_twice keys apart l j s.key (earlier k l one before behind) (let vs = map instance_view (scope_of y.part).instances.items in
            mapped_get (λ (k : NumberedSeen). k.key) w.imports l (numbered_seen x.places vs u)
            (subst (λ (k : NumberedScope). slice_get k.imports l ≡ Some (numbered_seen x.places vs u)) is_w (mapped_get (numbered_seen x.places vs) (scope_of y.part).imports.items l u u_at))
            ∙ ap Some (ap (λ (v : Shown). (numbered_seen x.places vs (record { shown = v; external_id = u.external_id })).key) shows ∙ named))
            (mapped_get (λ (k : NumberedSeen). k.key) w.imports j s s_at))

    pub is_cut : IsCut t ws m (length then.instances) (length then.imports) many
    is_cut = record { views_before = views_before; views_behind = views_behind; types_before = types_before; types_behind = types_behind }

-- ---- A cut behind some first entries of a part, and the scope that these show.

-- the places of the instances of a scope, in order
abbrev pub places_of_scope : NumberedScope → List ℕ
places_of_scope w = map (λ (i : NumberedInstance). i.place) w.instances

-- The cut is one where this scope is what the entries in front show.
pub record IsCutOf (t : Tables) (ws : List NumberedScope) (m : ℕ) (w : NumberedScope) (scope : follow.Scope) : Type 0 where
  pub instances : ℕ
  pub imports : ℕ
  pub many : ℕ
  pub cut : IsCut t ws m instances imports many
  pub imports_are : length scope.imports ≡ imports
  pub paths_are : map (λ i. i.interface) scope.instances ≡ map (path_at t) (take instances (places_of_scope w))

module _ (pieces : List Piece) (x : Followed) (followed : IsFollowed pieces x) (placed : ArePlacedScopes (tables_of x) (scopes_in x))
    (m : ℕ) (raw : Text × PartType) (at : slice_get followed.parts m ≡ Some raw) (member : Member) (there : slice_get x.members.items m ≡ Some member) (front back : List Entry)
    (split : entries_of raw.1 ≡ front ++ back) where
  abbrev was : World
  was = then pieces x followed placed m raw at member there front back split

  abbrev place : ℕ → Place
  place = place_in x.places

  abbrev items : List Instance
  items = (scope_of member.part).instances.items

  meant : steps entry_step new_scope front ≡ Some (meant_at place was)
  meant =
      let s = stage pieces x followed placed m raw at member there front back split in
      ap (steps entry_step new_scope) (sym (same_front pieces x followed placed m raw at member there front back split))
      ∙ s.follows place (places_before was.paths x.places s.paths_grow place (places_are x.places))

  -- the places of its instances
  taken_places : take (length was.instances) (places_of_scope (numbered_scope x.places (scope_of member.part))) ≡ map (λ (i : Instance). i.place) was.instances
  taken_places = search (std_rules, stage, map_of_map, append_of_map, length-map, take-append_seam)

  paths_meant : map (λ (i : follow.Instance). i.interface) (meant_at place was).instances ≡ map (path_at (tables_of x)) (map (λ (i : Instance). i.place) was.instances)
  paths_meant = search (std_rules, map_of_map, path_back)

  pub cut_of : (scope : follow.Scope) → steps entry_step new_scope front ≡ Some scope → IsCutOf (tables_of x) (scopes_in x) m (numbered_scope x.places (scope_of member.part)) scope
  cut_of scope read =
      let same : meant_at place was ≡ scope = same-some (meant_at place was) scope (sym meant ∙ read) in
      record {
        instances = length was.instances;
        imports = length was.imports;
        many = length was.shapes;
        cut = is_cut pieces x followed placed m raw at member there front back split;
        imports_are = ap (λ (s : follow.Scope). length s.imports) (sym same) ∙ length-map was.imports (seen_in place (world_trees place was) (world_signatures place was) was.instances);
        paths_are = ap (λ (s : follow.Scope). map (λ (i : follow.Instance). i.interface) s.instances) (sym same) ∙ (paths_meant ∙ ap (map (path_at (tables_of x))) (sym taken_places));
      }

-- ---- each number once

module _ (ps qs : List ℕ) where
  behind : (more : List ℕ) × (once (ps ++ qs) ≡ once ps ++ more)
  behind = let m = joined_more (once ps) qs in (m.0, sym (joined_behind ps qs) ∙ m.1)

  -- those of the beginning have the first numbers
  pub early : (k q : ℕ) → slice_get (once (ps ++ qs)) k ≡ Some q → k < length (once ps) → Contains ps q
  early k q e low = search (std_rules, has-contains, has_once, contains-has, get-contains, slice_front, behind)

  pub late : (k q : ℕ) → slice_get (once (ps ++ qs)) k ≡ Some q → length (once ps) ≤ k → Contains ps q → ⊥
  late k q e past c =
      let at = contains-get (once ps) q (has-contains (once ps) q (has_once q ps ∙ contains-has ps q c)) in
      omega (
        arith,
        found_below (once ps) at.0 q at.1,
        past,
        ((subst IsOnce (joined_behind [] (ps ++ qs)) (all_once [] (ps ++ qs) none_twice)) at.0 k q (ap (λ (zs : List ℕ). slice_get zs at.0) behind.1 ∙ front_at (once ps) behind.0 at.0 q at.1) e),
      )

-- ---- beginnings

-- what stands in a beginning has a number among its own
front_low : {A : Type 0} (xs : List A) (m n : ℕ) (x : A) → slice_get (take m xs) n ≡ Some x → n < m
front_low [] zero n x e = absurd (none_there n x e)
front_low [] (suc m) n x e = absurd (none_there n x e)
front_low (y ∷ xs) zero n x e = absurd (none_there n x e)
front_low (y ∷ xs) (suc m) zero x e = omega arith
front_low (y ∷ xs) (suc m) (suc n) x e = let low = front_low xs m n x e in omega (arith, low)

module _ {A : Type 0} (f : A → List ℕ) where
  pub split_flat : (ws : List A) (m : ℕ) (w : A) → slice_get ws m ≡ Some w → (i : ℕ) → (rest : List ℕ) × (flat_map f ws ≡ (flat_map f (take m ws) ++ take i (f w)) ++ rest)
  split_flat [] m w e i = absurd (none_there m w e)
  split_flat (v ∷ ws) zero w e i = search (std_rules, same-some v w e, take-append-drop i (f w), append_assoc (take i (f w)) (drop i (f w)) (flat_map f ws))
  split_flat (v ∷ ws) (suc m) w e i = search (std_rules, append_assoc, split_flat ws m w e i)

  module _ (ws : List A) where
    -- a number of the beginning stands in one of the items
    pub record IsOfFront (m i q : ℕ) : Type 0 where
      pub number : ℕ
      pub inner : ℕ
      pub one : A
      pub at : slice_get ws number ≡ Some one
      pub there : slice_get (f one) inner ≡ Some q
      pub before : StandsBefore m i number inner

    pub of_front : (m : ℕ) (w : A) → slice_get ws m ≡ Some w → (i q : ℕ) → Contains (flat_map f (take m ws) ++ take i (f w)) q → IsOfFront m i q
    of_front m w e i q c = elim (Contains-append_cases (flat_map f (take m ws)) (take i (f w)) q c) [
      | inl d ↦
          let u = flat_cases f (take m ws) q d in
          let u_at = contains-get (take m ws) u.0 u.1 in
          let low = front_low ws m u_at.0 u.0 u_at.1 in
          let q_at = contains-get (f u.0) q u.2 in
          record { number = u_at.0; inner = q_at.0; one = u.0; at = sym (slice_take ws m u_at.0 low) ∙ u_at.1; there = q_at.1; before = inl low }
      | inr d ↦
          let q_at = contains-get (take i (f w)) q d in
          let low = front_low (f w) i q_at.0 q q_at.1 in
          record { number = m; inner = q_at.0; one = w; at = e; there = sym (slice_take (f w) i q_at.0 low) ∙ q_at.1; before = inr (refl, low) }
    ]

    pub in_front : (m : ℕ) (w : A) → slice_get ws m ≡ Some w → (i n j : ℕ) (u : A) (q : ℕ) → slice_get ws n ≡ Some u → slice_get (f u) j ≡ Some q → StandsBefore m i n j
        → Contains (flat_map f (take m ws) ++ take i (f w)) q
    in_front m w e i n j u q at there (inl low) = Contains-append_left _ _ q (contains-flat f (take m ws) u q (get-contains _ n u (slice_take ws m n low ∙ at)) (get-contains _ j q there))
    in_front m w e i n j u q at there (inr (same, low)) =
        let one : u ≡ w = one_item ws m u w (subst (λ (k : ℕ). slice_get ws k ≡ Some u) same at) e in
        Contains-append_right (flat_map f (take m ws)) (take i (f w)) q (get-contains (take i (f w)) j q (slice_take (f w) i j low ∙ subst (λ (v : A). slice_get (f v) j ≡ Some q) one there))

    -- what isn't before stands behind
    pub behind_front : (m : ℕ) (w : A) → slice_get ws m ≡ Some w → (i q : ℕ) → (Contains (flat_map f (take m ws) ++ take i (f w)) q → ⊥) → (n j : ℕ) (u : A) → slice_get ws n ≡ Some u
        → slice_get (f u) j ≡ Some q → StandsBehind m i n j
    behind_front m w e i q none n j u at there = elim (cases_lt n m) [
      | inl low ↦ absurd (none (in_front m w e i n j u q at there (inl low)))
      | inr past ↦ elim (cases_lt m n) [
        | inl more ↦ inl more
        | inr le ↦
            let same : n ≡ m = omega (arith, past, le) in
            elim (cases_lt j i) [ inl low ↦ absurd (none (in_front m w e i n j u q at there (inr (same, low)))) | inr far ↦ inr (same, far) ]
      ]
    ]
