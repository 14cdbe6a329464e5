-- Views of one place show the same types.
use Rattle.plan_type_laws.proofs.{FirstFound.first_found, FirstFound.firsts_found, PartPlaces.slot_number}
use Rattle.plan_laws.specs.{ShownRules.ViewObeys, FirstViews.told, FirstViews.ViewsAreOrdered, ShownNames.IsInput, Owners.homes_in}
use Rattle.comp_meaning.specs.{Follow.ShownType, Rules.distinct, Same.same_option}
use Rattle.base_lemmas.proofs.{Lists.map_of_map, Bools.left_of as first_true, Bools.right_of as second_true}
use Rattle.base_lemmas.proofs.Elements.{all-contained, contains-one, map_from as from_map, contains-later, contains-map, last_of as one-contained, all_at}
use Rattle.std.proofs.Common.{rules as std_rules, ◌≡◌, refl, sym, ap, subst, ◌∙◌, ℕ, zero, suc, arith, Bool, true, false, ◌==◌, List, [], ◌∷◌, map, Option, Some, ◌⊎◌, inl, inr, filter, ◌++◌, None, ◌+◌, slice_get}
use Rattle.std.proofs.lemmas.{Bool.eq-eqb, Bool.eqb-true, Bool.and_from as both, Option.same_Some as same-some}
use Rattle.std.proofs.lemmas.List.Elements.{Contains-append_cases, Contains-append_left, Contains-append_right}
use Rattle.std.specs.{List.Contains, List.flat_map, List.list_all, List.AllByRecursion, Option.option_map_or, Cmp.Lexicographic.pointwise}
use Rattle.wit_model.proofs.Elements.{contains-flat, none-in, contains-get}
use Rattle.plan_meaning.specs.NumberedMembers.{NumberedMember, NumberedPart, interface, sights_of_members, sights_of_part, world, Homes}
use Rattle.plan_meaning.specs.NumberedViews.{NumberedSight, NumberedType, Tables, agree, agree_in_numbers, first_at, same_shown, place_at, shown_type, view_of, NumberedView, path_at, AreTables, NumberedFunction}
use Rattle.plan_meaning.specs.NumberedWorlds.{HasPath, sights_of_instance, NumberedInstance, NumberedSeen, NumberedShown, are_once, instance_of, seen_of, shown_of}
use Rattle.plan_meaning.specs.{FollowedNumbers.IsPartIn, FollowedNumbers.IsViewIn, FollowedNumbers.IsShownIn, FollowedNumbers.IsSeenIn, ReadWholes.place_shown}
use Rattle.plan_package.specs.{Views.views_of_part, Views.whole_view, Views.views_of_members, Views.types_alone, PlanWhole.shown_first}
use Rattle.plan_laws.proofs.{MetNames.flat_cases, MetNames.name_same, ShownRules.import_named, ShownRules.one_way as either_way, Owned.home_met}
use Rattle.plan_laws.proofs.Sources.{among_mapped, at_mapped, interface_views, mapped_cases, origin, part_at, view_among, view_in, world_in, IsWorldIn, member_view_in, one_under, Side, own_sight, seen_sight, side_shows, sight_of}
use Rattle.plan_laws.proofs.OwnPlaces.{Frame, a_view, a_world, frames, frames_of_part, frames_of_seen, frames_of_shown, inline_of, inline_seen, inlines, once_inside, Owned, one_owned}
use Rattle.read_exports.specs.Members.{numbered_member, numbered_members, numbered_part}
use Rattle.read_exports.specs.declared.members.{Member.Member, Part.Part}
use Rattle.read_rules.specs.declared.scopes.{Scope.Scope, Seen.Seen, Shown.Shown}
use Rattle.read_rules.specs.{Reached.numbered_import, Scopes.numbered_instance, Scopes.numbered_scope, Scopes.numbered_seen, Scopes.numbered_shown}
use Rattle.read_rules.specs.Tables.{given_text}
use Rattle.plan_types.specs.Showings.{NumberedShowing, showing_of, showings_of_members, showings_of_part, showings_of_seen, showings_of_shown, signatures_of_members, signatures_of_part, signatures_of_seen, signatures_of_shown, showings_of_import}
use Rattle.plan_type_laws.specs.ShownMarks.{has_no_path, own_places, places_of_part}
use Rattle.wit_model.specs.Text.{Text}
use Rattle.plan_parts.specs.Interfaces.{slot_part}
use Rattle.read_shown.specs.Instances.{instances_in}
use Rattle.read_shown.proofs.Agreement as agreement
use Rattle.comp_meaning.specs.Reads as reads
use Rattle.plan_meaning.specs.NumberedWorlds as worlds
use Rattle.read_exports.specs.declared.members.Part.TheVariants as parts
use Rattle.read_rules.specs.declared.scopes.Shown.TheVariants as shown
use Rattle.plan_laws.proofs.Sources as sources
use Rattle.comp_meaning.specs.Follow as follow
use Rattle.read_shown.specs.Instances as tree

-- ---- All views of one place tell the same of types.

-- ---- what is told of a type

pub option_same : {A : Type 0} (eq : A → A → Bool) → ((a b : A) → eq a b ≡ true → a ≡ b) → (a b : Option A) → same_option eq a b ≡ true → a ≡ b
option_same eq decides x y h = search std_rules

pub same_of_option : {A : Type 0} (eq : A → A → Bool) → ((a : A) → eq a a ≡ true) → (a : Option A) → same_option eq a a ≡ true
same_of_option eq itself x = search std_rules

shown_told : (x y : NumberedType) → same_shown x y ≡ true → told x ≡ told y
shown_told x y h = search std_rules

pub types_told : (xs ys : List NumberedType) → pointwise same_shown xs ys ≡ true → map told xs ≡ map told ys
types_told [] [] h = refl
types_told (x ∷ xs) (y ∷ ys) h = search (std_rules, shown_told, first_true, second_true, types_told xs ys (second_true (same_shown x y) (pointwise same_shown xs ys) h))
types_told _ _ h = let wrong : false ≡ true = h in absurd cc

pub told_types : (xs ys : List NumberedType) → map told xs ≡ map told ys → pointwise same_shown xs ys ≡ true
told_types [] [] e = refl
told_types (x ∷ xs) (y ∷ ys) e = search (std_rules, both, told_types xs ys cc)
told_types _ _ e = let wrong : ⊥ = cc in absurd wrong

-- ---- views that agree

alike : (s u : NumberedSight) → agree s u ≡ true → s.place ≡ u.place → map told s.view.types ≡ map told u.view.types
alike s u h e = search (std_rules, eq-eqb, types_told, first_true)

pub one_told : (all : List NumberedSight) → agree_in_numbers all ≡ true → (s u : NumberedSight) → Contains all s → Contains all u → s.place ≡ u.place → map told s.view.types ≡ map told u.view.types
one_told [] h s u c d p = none-in s c
one_told (x ∷ xs) h s u (zero, l, e) (zero, k, f) p = ap (λ (y : NumberedSight). map told y.view.types) (sym e ∙ f)
one_told (x ∷ xs) h s u (zero, l, e) (suc j, k, f) p = alike s u (ap (λ y. agree y u) (sym e) ∙ all-contained _ _ u (first_true _ _ h) (j, omega (arith, k), f)) p
one_told (x ∷ xs) h s u (suc i, l, e) (zero, k, f) p = sym (alike u s (ap (λ y. agree y s) (sym f) ∙ all-contained _ _ s (first_true _ _ h) (i, omega (arith, l), e)) (sym p))
one_told (x ∷ xs) h s u (suc i, l, e) (suc j, k, f) p = one_told xs (second_true (list_all (agree x) xs) (agree_in_numbers xs) h) s u (i, omega (arith, l), e) (j, omega (arith, k), f) p

-- ---- views with a path

module _ (t : Tables) where
  pub part_sight : (a : NumberedPart) (s : NumberedSight) → Contains (views_of_part a) s → HasPath t s.place → Contains (sights_of_part t a) s
  part_sight (world w) s c path =
      let from = from_map whole_view w.instances s c in
      let given : HasPath t from.0.place = subst (λ (x : NumberedSight). HasPath t x.place) (sym from.2) path in
      contains-flat (sights_of_instance t) w.instances from.0 s from.1 (subst (Contains (sights_of_instance t from.0)) from.2
      (subst (λ o. Contains (option_map_or (λ p. whole_view from.0 ∷ []) o []) (whole_view from.0)) (sym given.1) (contains-one (whole_view from.0))))
  part_sight (interface p v imports) s c path = c

  pub sight_there : (ms : List NumberedMember) (s : NumberedSight) → Contains (flat_map (λ (m : NumberedMember). views_of_part m.part) ms) s → HasPath t s.place → Contains (sights_of_members t ms) s
  sight_there ms s c path =
      let from = flat_cases (λ (m : NumberedMember). views_of_part m.part) ms s c in
      contains-flat (λ (m : NumberedMember). sights_of_part t m.part) ms from.0 s from.1 (part_sight from.0.part s from.2 path)

-- the names of the types of a view that obeys the rules differ
pub view_names : (t : Tables) (s : NumberedSight) → ViewObeys t s → distinct (map (λ (x : NumberedType). x.name) s.view.types) ≡ true
view_names t s obeys = sym (ap distinct (map_of_map (λ (x : ShownType). x.name) (shown_type t) s.view.types)) ∙ agreement.names_differ (place_at t s.place) (view_of t s.view) obeys

-- the first view of a place is of it
pub first_is : (q : ℕ) (all : List NumberedSight) (s : NumberedSight) → first_at q all ≡ Some s → Contains all s × (s.place ≡ q)
first_is q all s e = let found = first_found (λ (y : NumberedSight). q == y.place) all s e in (found.0, sym (eqb-true q s.place found.1))

-- ---- Where each type that is shown comes from: a view, or an import of a world.

module _ (t : Tables) (h : Homes) (ms : List Member) (members : List reads.Member) (input : IsInput t h ms members) (apart : are_once (own_places t (numbered_members ms)) ≡ true) where
  -- the places of a world stand once
  pub own_once : (m : Member) → Contains ms m → (w : Scope) → m.part ≡ parts.World w → are_once (filter (has_no_path t) (places_of_part (world (numbered_scope w)))) ≡ true
  own_once m c w is = subst (λ a. are_once (filter (has_no_path t) (places_of_part (numbered_part a))) ≡ true) is
      (once_inside (has_no_path t) (λ (x : NumberedMember). places_of_part x.part) (numbered_members ms) apart (numbered_member m) (contains-map numbered_member ms m c))

  -- ---- frames

  member_frame : (m : Member) → Contains ms m → (f : Frame) → Contains (frames_of_part (numbered_part m.part)) f → Contains (frames (numbered_members ms)) f
  member_frame m c f among = among_mapped (λ (x : NumberedMember). frames_of_part x.part) numbered_member ms m f c among

  pub home_frame : (m : Member) → Contains ms m → (w : Scope) → m.part ≡ parts.World w → Contains (frames (numbered_members ms)) (w.home, a_world (numbered_scope w))
  home_frame m c w is = member_frame m c (w.home, a_world (numbered_scope w))
      (subst (λ a. Contains (frames_of_part (numbered_part a)) (w.home, a_world (numbered_scope w))) (sym is) (zero, omega arith, refl))

  inline_frame : (ss : List NumberedSeen) (i : NumberedInstance) → Contains (inlines t ss) i → Contains (frames_of_seen ss) (i.place, a_view i.view)
  inline_frame ss i c =
      let from = flat_cases (λ (s : NumberedSeen). inline_of t s.shown) ss i c in
      contains-flat (λ (s : NumberedSeen). frames_of_shown s.shown) ss from.0 (i.place, a_view i.view) from.1 (by from.0.shown from.2)
    where
      by : (x : NumberedShown) → Contains (inline_of t x) i → Contains (frames_of_shown x) (i.place, a_view i.view)
      by (worlds.instance (worlds.label l p) v) among = search (std_rules, Frame, a_view, one-contained)
      by _ among = none-in i among

  -- a view without a path is that of its own place
  pub view_frame : (s : NumberedSight) → Contains (views_of_members (numbered_members ms)) s → path_at t s.place ≡ None → Contains (frames (numbered_members ms)) (s.place, a_view s.view)
  view_frame s c none =
      let m = mapped_cases (λ (x : NumberedMember). views_of_part x.part) numbered_member ms s c in
      member_frame m.0 m.1 (s.place, a_view s.view) (by m.0.part (λ w is. (world_in t h ms members input m.0 m.1 w is, own_once m.0 m.1 w is)) (part_at t ms input.numbers m.0 m.1) m.2)
    where
      outside : (p : ℕ) → HasPath t p → p ≡ s.place → ⊥
      outside p path e = let wrong : None ≡ Some path.0 = sym none ∙ (ap (path_at t) (sym e) ∙ path.1) in cc

      by : (a : Part) → ((w : Scope) → a ≡ parts.World w → IsWorldIn t h ms members input w × (are_once (filter (has_no_path t) (places_of_part (world (numbered_scope w)))) ≡ true))
          → IsPartIn t (numbered_part a) → Contains (views_of_part (numbered_part a)) s → Contains (frames_of_part (numbered_part a)) (s.place, a_view s.view)
      by (parts.World w) of good among =
          let is = (of w refl).0 in
          let from = from_map whole_view (map numbered_instance w.instances.now) s among in
          subst (λ (x : NumberedSight). Contains (frames_of_part (world (numbered_scope w))) (x.place, a_view x.view)) from.2
          (contains-later (w.home, a_world (numbered_scope w)) (frames_of_seen (map numbered_seen w.imports.now) ++ frames_of_seen (map numbered_seen w.exports.now)) (from.0.place, a_view from.0.view)
          (either (map numbered_seen w.imports.now) (map numbered_seen w.exports.now) from.0
          (Contains-append_cases (inlines t (map numbered_seen w.imports.now)) (inlines t (map numbered_seen w.exports.now)) from.0
          (inline_seen t (numbered_scope w) is.good is.scope is.shows is.stands.seen (of w refl).1 from.0 from.1 (ap (path_at t) (ap (λ (x : NumberedSight). x.place) from.2) ∙ none)))))
        where
          either : (xs ys : List NumberedSeen) (i : NumberedInstance) → Contains (inlines t xs) i ⊎ Contains (inlines t ys) i
              → Contains (frames_of_seen xs ++ frames_of_seen ys) (i.place, a_view i.view)
          either xs ys i (inl there) = Contains-append_left (frames_of_seen xs) (frames_of_seen ys) (i.place, a_view i.view) (inline_frame xs i there)
          either xs ys i (inr there) = Contains-append_right (frames_of_seen xs) (frames_of_seen ys) (i.place, a_view i.view) (inline_frame ys i there)
      by (parts.Interface p v imports) of good among = elim (interface_views p v imports s among) [
        | inl i ↦ absurd (outside (numbered_import i.0).0 (at_mapped (λ (x : ℕ × NumberedView). HasPath t x.0 × IsViewIn t x.0 x.1) numbered_import imports.now good.1 i.0 i.1).0
            (ap (λ (x : NumberedSight). x.place) i.2))
        | inr own ↦ absurd (outside p good.0.0 (ap (λ (x : NumberedSight). x.place) own))
      ]

  -- ---- sources

  -- a type that is shown is one of a view, or an import of a world
  pub data IsFrom (y : NumberedShowing) : Type 0 where
    of_view : (s : NumberedSight) → Contains (views_of_members (numbered_members ms)) s → IsViewIn t s.place s.view → (x : NumberedType) → Contains s.view.types x → showing_of x ≡ y → IsFrom y
    of_import : (m : Member) → Contains ms m → (w : Scope) → m.part ≡ parts.World w → (c : Seen) → Contains w.imports.now c → c.shown ≡ shown.Declares y.part y.declared → IsFrom y

  pub shown_from : (y : NumberedShowing) → Contains (showings_of_members ms) y → IsFrom y
  shown_from y c = let from = origin t h ms members input y c in by from.0 from.1 from.2
    where
      by : (m : Member) → Contains ms m → sources.IsShownIn m.part y → IsFrom y
      by m m_in (sources.in_view s there x among same) = of_view s (view_among ms m m_in s there) (view_in t m.part (part_at t ms input.numbers m m_in) s there) x among same
      by m m_in (sources.of_world w is s there part d e same) = of_import m m_in w is s there (e ∙ ap (λ (z : NumberedShowing). shown.Declares z.part z.declared) same)

-- ---- The types of the first view of a place are shown first as it shows them.

module _ (t : Tables) (h : Homes) (ms : List Member) (members : List reads.Member) (input : IsInput t h ms members) (agreed : agree_in_numbers (sights_of_members t (numbered_members ms)) ≡ true) (ordered : ViewsAreOrdered t ms) where
  abbrev pub views : List NumberedSight
  views = views_of_members (numbered_members ms)

  -- all views of a place tell the same
  pub views_told : (s u : NumberedSight) → Contains views s → Contains views u → s.place ≡ u.place → map told s.view.types ≡ map told u.view.types
  views_told s u c d same = by (path_at t s.place) refl
    where
      by : (o : Option Text) → path_at t s.place ≡ o → map told s.view.types ≡ map told u.view.types
      by (Some path) e = one_told (sights_of_members t (numbered_members ms)) agreed s u (sight_there t (numbered_members ms) s c (path, e))
          (sight_there t (numbered_members ms) u d (path, ap (path_at t) (sym same) ∙ e)) same
      by None e =
          let here = contains-get views s c in
          let there = contains-get views u d in
          ap (λ (x : NumberedSight). map told x.view.types) (same-some s u (sym here.1 ∙ (ap (slice_get views) (ordered.inline here.0 there.0 s u here.1 there.1 e same) ∙ there.1)))

  -- a type of the view under the number
  number_is : (s : NumberedSight) → Contains views s → (x : NumberedType) → Contains s.view.types x → IsShownIn t s.place x
  number_is s c x among = all_at (IsShownIn t s.place) s.view.types (member_view_in t ms input.numbers s c).types x among

  module _ (q : ℕ) (first : NumberedSight) (is_first : first_at q views ≡ Some first) where
    first_among : Contains views first
    first_among = (first_is q views first is_first).0

    -- what another view shows under the number is told by the first
    told_by_view : (x : NumberedType) → Contains first.view.types x → (is : IsShownIn t first.place x) → (s : NumberedSight) → Contains views s → (z : NumberedType) → Contains s.view.types z
        → slot_part z.slot ≡ 14 + is.number → told z ≡ told x
    told_by_view x among is s c z there part =
        let other = number_is s c z there in
        let here = name_same t.shapes s.place first.place z.name x.name other.number is.number other.name.named is.name.named
        (let a = slot_number t z.slot other.number other.slot in omega (arith, a, part)) in
        let found = from_map told first.view.types (told z) (subst (λ zs. Contains zs (told z)) (views_told s first c first_among here.0) (contains-map told s.view.types z there)) in
        sym found.2 ∙ ap told (one_under (λ (y : NumberedType). y.name) first.view.types (view_names t first (ordered.obey first first_among)) found.0 x found.1 among
        (ap (λ (y : Text × (Option ℕ × Option Text)). y.0) found.2 ∙ here.1))

    -- no world imports it
    not_imported : (x : NumberedType) (is : IsShownIn t first.place x) → (m : Member) → Contains ms m → (w : Scope) → m.part ≡ parts.World w → (c : Seen) → Contains w.imports.now c
        → (part : ℕ) (d : Option ℕ) → c.shown ≡ shown.Declares part d → part ≡ 14 + is.number → ⊥
    not_imported x is m among w is_world c there part d declares same =
        let named = import_named t input.tables h ms members input m among w is_world c there part d declares in
        ordered.apart first first_among (subst (Contains (homes_in ms)) (name_same t.shapes w.home first.place c.key.now x.name named.0 is.number named.2.named is.name.named
        (let a = named.1 in omega (arith, a, same))).0 (home_met ms m among w is_world))

    -- a type of the first view is shown first as it shows it
    pub first_told : (x : NumberedType) → Contains first.view.types x → (is : IsShownIn t first.place x) → (y : NumberedShowing) → shown_first ms is.number ≡ Some y → (y.declared ≡ x.declared)
        × (y.external_id ≡ x.external_id)
    first_told x among is y shown =
        let found = (firsts_found (showings_of_members ms)).0 is.number y shown in
        let from = origin t h ms members input y found.0 in
        by from.0 from.1 from.2 found.1
      where
        same : (z : NumberedType) → showing_of z ≡ y → told z ≡ told x → (y.declared ≡ x.declared) × (y.external_id ≡ x.external_id)
        same z e tells = (
          ap (λ (s : NumberedShowing). s.declared) (sym e) ∙ ap (λ (a : Text × (Option ℕ × Option Text)). a.1.0) tells,
          ap (λ (s : NumberedShowing). s.external_id) (sym e) ∙ ap (λ (a : Text × (Option ℕ × Option Text)). a.1.1) tells,
        )

        by : (m : Member) → Contains ms m → sources.IsShownIn m.part y → y.part ≡ 14 + is.number → (y.declared ≡ x.declared) × (y.external_id ≡ x.external_id)
        by m c (sources.in_view s there z z_there e) part = same z e (told_by_view x among is s (view_among ms m c s there) z z_there (ap (λ (u : NumberedShowing). u.part) e ∙ part))
        by m c (sources.of_world w is_world seen seen_there k d declares e) part =
            absurd (not_imported x is m c w is_world seen seen_there k d declares (ap (λ (u : NumberedShowing). u.part) e ∙ part))

-- ---- Each instance of a world has the place of one that it imports or exports.

-- one of these goes one of the two ways

module _ (t : Tables) (tables : AreTables t) where
  -- an import or an export that is an instance of the place
  shown_place : (home : ℕ) (ss : List NumberedSeen) → AllByRecursion (IsSeenIn t home) ss → (i : NumberedInstance) → HasPath t i.place → Contains (instances_in (map (seen_of t) ss)) (instance_of t i)
      → (s : NumberedSeen) × Contains ss s × (place_shown s.shown ≡ Some i.place)
  shown_place home ss seen i path c =
      let from = flat_cases (λ (s : follow.Seen). tree.instance_of s.shown) (map (seen_of t) ss) (instance_of t i) c in
      let s = from_map (seen_of t) ss from.0 from.1 in
      (s.0, s.1, by s.0.key s.0.external_id s.0.shown (all_at (IsSeenIn t home) ss seen s.0 s.1) (subst (λ (x : follow.Seen). Contains (tree.instance_of x.shown) (instance_of t i)) (sym s.2) from.2))
    where
      by : (key : Text) (id : Option Text) (x : NumberedShown) → IsSeenIn t home (record { key = key; shown = x; external_id = id }) → Contains (tree.instance_of (shown_of t x)) (instance_of t i)
          → place_shown x ≡ Some i.place
      by key id (worlds.instance k v) is there = ap Some (search std_rules)
      by key id _ is there = none-in (instance_of t i) there

module _ (t : Tables) (h : Homes) (ms : List Member) (members : List reads.Member) (input : IsInput t h ms members) (w : Scope) (is : IsWorldIn t h ms members input w)
    (once : are_once (filter (has_no_path t) (places_of_part (world (numbered_scope w)))) ≡ true) where
  inline_place : (ss : List NumberedSeen) (i : NumberedInstance) → Contains (inlines t ss) i → (s : NumberedSeen) × Contains ss s × (place_shown s.shown ≡ Some i.place)
  inline_place ss i c = let from = flat_cases (λ (s : NumberedSeen). inline_of t s.shown) ss i c in (from.0, from.1, by from.0.shown from.2)
    where
      by : (x : NumberedShown) → Contains (inline_of t x) i → place_shown x ≡ Some i.place
      by (worlds.instance (worlds.label l p) v) among = ap (λ (j : NumberedInstance). Some j.place) (one-contained (record { place = p; view = v }) i among)
      by _ among = none-in i among

  -- an import or an export that is an instance of the place
  pub record IsSeen (i : NumberedInstance) : Type 0 where
    pub seen : Seen
    pub among : Contains w.imports.now seen ⊎ Contains w.exports.now seen
    pub place : place_shown (numbered_shown seen.shown) ≡ Some i.place

  seen_from : (i : NumberedInstance) (cs : List Seen) → ((s : Seen) → Contains cs s → Side w s) → (s : NumberedSeen) × Contains (map numbered_seen cs) s
      × (place_shown s.shown ≡ Some i.place) → IsSeen i
  seen_from i cs side s = let from = from_map numbered_seen cs s.0 s.1 in
      record { seen = from.0; among = side from.0 from.1; place = ap (λ (x : NumberedSeen). place_shown x.shown) from.2 ∙ s.2 }

  pub instance_seen : (i : NumberedInstance) → Contains (numbered_scope w).instances i → IsSeen i
  instance_seen i c = by (path_at t i.place) refl
    where
      by : (o : Option Text) → path_at t i.place ≡ o → IsSeen i
      by (Some path) e = elim (either_way _ _ (subst (λ xs. Contains xs (instance_of t i)) (sym (is.stands.seen.all ∙ is.shows.instances)) (contains-map _ _ i c))) [
        | inl there ↦ seen_from i w.imports.now (λ s c. inl c) (shown_place t input.tables w.home (map numbered_seen w.imports.now) is.good.imports i (path, e)
            (subst (λ xs. Contains xs (instance_of t i)) (is.stands.seen.imported ∙ ap instances_in is.shows.imports) there))
        | inr there ↦ seen_from i w.exports.now (λ s c. inr c) (shown_place t input.tables w.home (map numbered_seen w.exports.now) is.good.exports i (path, e)
            (subst (λ xs. Contains xs (instance_of t i)) (is.stands.seen.exported ∙ ap instances_in is.shows.exports) there))
      ]
      by None e = elim (Contains-append_cases _ _ i (inline_seen t (numbered_scope w) is.good is.scope is.shows is.stands.seen once i c e)) [
        | inl there ↦ seen_from i w.imports.now (λ s c. inl c) (inline_place (map numbered_seen w.imports.now) i there)
        | inr there ↦ seen_from i w.exports.now (λ s c. inr c) (inline_place (map numbered_seen w.exports.now) i there)
      ]

-- ---- what is shown of a place

module _ (t : Tables) (h : Homes) (ms : List Member) (members : List reads.Member) (input : IsInput t h ms members) (apart : are_once (own_places t (numbered_members ms)) ≡ true) where
  -- A view of the same place, whose types and functions are among all that is shown.
  pub record IsShownSo (s : NumberedSight) : Type 0 where
    pub other : NumberedSight
    pub among : Contains (views_of_members (numbered_members ms)) other
    pub place : other.place ≡ s.place
    pub whole : s.whole ≡ true → other.whole ≡ true
    pub types : (x : NumberedType) → Contains other.view.types x → Contains (showings_of_members ms) (showing_of x)
    pub functions : s.whole ≡ true → (f : Text × NumberedFunction) → Contains other.view.functions f → Contains (signatures_of_members ms) f.1.signature

  -- what a world imports or exports is shown
  module _ (m : Member) (c : Contains ms m) (w : Scope) (is : m.part ≡ parts.World w) where
    pub seen_showing : (s : Seen) → Side w s → (y : NumberedShowing) → Contains (showings_of_seen s) y → Contains (showings_of_members ms) y
    seen_showing s side y there =
        contains-flat (λ (x : Member). showings_of_part x.part) ms m y c (subst (λ a. Contains (showings_of_part a) y) (sym is) (side_shows w showings_of_seen s y side there))

    pub seen_signature : (s : Seen) → Side w s → (k : ℕ) → Contains (signatures_of_seen s) k → Contains (signatures_of_members ms) k
    seen_signature s side k there =
        contains-flat (λ (x : Member). signatures_of_part x.part) ms m k c (subst (λ a. Contains (signatures_of_part a) k) (sym is) (side_shows w signatures_of_seen s k side there))

    instance_shown : (i : NumberedInstance) → Contains (map numbered_instance w.instances.now) i → IsShownSo (whole_view i)
    instance_shown i among = let seen = instance_seen t h ms members input w of (own_once t h ms members input apart m c w is) i among in by seen.seen seen.among seen.seen.shown refl seen.place
      where
        of : IsWorldIn t h ms members input w
        of = world_in t h ms members input m c w is

        by : (s : Seen) → Side w s → (x : Shown) → s.shown ≡ x → place_shown (numbered_shown x) ≡ Some i.place → IsShownSo (whole_view i)
        by s side (shown.Instance key v) e at = record {
          other = sight_of key v;
          among = seen_sight t ms m c w is of.good s side key v e;
          place = same-some _ _ at;
          whole = λ f. refl;
          types = λ x there. seen_showing s side (showing_of x) (subst (λ k. Contains (showings_of_shown k (given_text s.external_id)) (showing_of x)) (sym e) (contains-map _ _ x there));
          functions = λ f g there. seen_signature s side g.1.signature (subst (λ k. Contains (signatures_of_shown k) g.1.signature) (sym e) (contains-map _ _ g there));
        }
        by s side _ e at = let wrong : None ≡ Some i.place = at in absurd cc

  pub shown_so : (s : NumberedSight) → Contains (views_of_members (numbered_members ms)) s → IsShownSo s
  shown_so s c = let m = mapped_cases (λ (x : NumberedMember). views_of_part x.part) numbered_member ms s c in by m.0 m.1 m.0.part refl m.2
    where
      by : (m : Member) → Contains ms m → (a : Part) → m.part ≡ a → Contains (views_of_part (numbered_part a)) s → IsShownSo s
      by m m_in (parts.World w) is there =
          let i = from_map whole_view (map numbered_instance w.instances.now) s there in
          subst IsShownSo i.2 (instance_shown m m_in w is i.0 i.1)
      by m m_in (parts.Interface q v imports) is there = elim (interface_views q v imports s there) [
        | inl i ↦ subst IsShownSo i.2 (record {
          other = types_alone (numbered_import i.0);
          among = subst (Contains (views_of_members (numbered_members ms))) (sym i.2) c;
          place = refl;
          whole = λ f. f;
          types = λ x x_in. in_part (showing_of x) (Contains-append_left _ _ _ (contains-flat showings_of_import imports.now i.0 (showing_of x) i.1 (contains-map _ _ x x_in)));
          functions = λ f. let wrong : false ≡ true = f in absurd cc;
        })
        | inr own ↦ subst IsShownSo own (record {
          other = own_sight q v imports;
          among = subst (Contains (views_of_members (numbered_members ms))) (sym own) c;
          place = refl;
          whole = λ f. f;
          types = λ x x_in. in_part (showing_of x) (Contains-append_right _ _ _ (contains-map _ _ x x_in));
          functions = λ f g g_in. contains-flat (λ (x : Member). signatures_of_part x.part) ms m g.1.signature
              m_in (subst (λ a. Contains (signatures_of_part a) g.1.signature) (sym is) (contains-map _ _ g g_in));
        })
      ]
        where
          in_part : (y : NumberedShowing) → Contains (showings_of_part (parts.Interface q v imports)) y → Contains (showings_of_members ms) y
          in_part y among = contains-flat (λ (x : Member). showings_of_part x.part) ms m y m_in (subst (λ a. Contains (showings_of_part a) y) (sym is) among)

-- ---- what the page is for

abbrev owned_view : NumberedView → Owned → NumberedView
owned_view default (a_view v) = v
owned_view default (a_world w) = default

module _ (t : Tables) (h : Homes) (ms : List Member) (members : List reads.Member) (input : IsInput t h ms members) (apart : are_once (own_places t (numbered_members ms)) ≡ true) where
  abbrev numbered : List NumberedMember
  numbered = numbered_members ms

  -- two views of one place tell the same types
  pub views_tell : agree_in_numbers (sights_of_members t numbered) ≡ true → (a b : NumberedSight) → Contains (views_of_members numbered) a → Contains (views_of_members numbered) b → a.place ≡ b.place
      → map told a.view.types ≡ map told b.view.types
  views_tell agrees a b c d same = by (path_at t b.place) refl
    where
      by : (o : Option Text) → path_at t b.place ≡ o → map told a.view.types ≡ map told b.view.types
      by (Some path) e = one_told (sights_of_members t numbered) agrees a b (sight_there t numbered a c (path, ap (path_at t) same ∙ e)) (sight_there t numbered b d (path, e)) same
      by None e =
          let at_a = subst (λ q. Contains {X = Frame} (frames numbered) (q, a_view a.view)) same (view_frame t h ms members input apart a c (ap (path_at t) same ∙ e)) in
          ap (λ (x : Owned). map told (owned_view b.view x).types) (one_owned t numbered apart b.place e (a_view a.view) (a_view b.view) at_a (view_frame t h ms members input apart b d e))
