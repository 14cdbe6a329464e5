-- Each place without a path is that of one view, or of one world.
use Rattle.std.proofs.Common.{rules as std_rules, ◌≡◌, refl, sym, ap, subst, ◌∙◌, ℕ, zero, suc, ◌+◌, ◌≤◌, ◌⊎◌, inl, inr, arith, Bool, true, false, cond, filter, List, [], ◌∷◌, ◌++◌, length, length-append, map, Some, None, is_none, slice_get}
use Rattle.std.proofs.lemmas.{Bool.cases_eq, Option.slice_get_within, Option.same_Some as same-some}
use Rattle.std.proofs.lemmas.List.Elements.{Contains-append_cases, Contains-append_left, Contains-append_right, filter-append}
use Rattle.std.specs.List.{Contains, flat_map}
use Rattle.wit_model.specs.{Text.Text, Uses.has}
use Rattle.wit_model.proofs.{Elements.contains-get, Elements.contains-has, Elements.has-contains, Elements.none-in, UsesLemmas.filter_has}
use Rattle.plan_meaning.specs.{FollowedNumbers.IsPartIn, FollowedNumbers.IsViewIn, NumberedMembers.Homes, NumberedMembers.NumberedMember}
use Rattle.plan_meaning.specs.{NumberedRules.Fact, NumberedViews.NumberedSight, NumberedViews.NumberedView, NumberedViews.Tables, NumberedViews.path_at}
use Rattle.plan_meaning.specs.NumberedWorlds.{HasPath, NumberedInstance, are_once}
use Rattle.read_exports.specs.Members.{numbered_member, numbered_members, numbered_part}
use Rattle.read_exports.specs.declared.members.{Member.Member, Part.Part}
use Rattle.read_rules.specs.declared.scopes.Scope.{Scope}
use Rattle.read_rules.specs.{Reached.numbered_import, Scopes.numbered_scope}
use Rattle.plan_types.specs.Orders.{home_of_part}
use Rattle.plan_package.specs.{Views.views_of_members, Views.views_of_part, Views.whole_view, WholeWorlds.worlds_in}
use Rattle.plan_type_laws.specs.ShownMarks.{has_no_path, own_places, places_of_part, places_of_seen}
use Rattle.plan_laws.specs.{Apart.WholeStandsApart, Owners.homes_in, ShownRules.ViewObeys, Whole.IsPackageInput, WorldItems.WorldsAreApart}
use Rattle.plan_laws.proofs.Sources.{view_among, among_mapped, mapped_cases, part_at, IsWorldIn, world_in, IsOnce, from_joined}
use Rattle.plan_laws.proofs.{Owned.home_alone, WholeReasonsForeign.as_many, WholeReasonsForeign.one_of, WorldKeys.homes_of_worlds, WorldKeys.world_member}
use Rattle.plan_laws.proofs.OwnPlaces.{different, no_longer, removed, removed_many, removed_other, filtered_there, unfiltered_once}
use Rattle.plan_laws.proofs.WholeTypes.{packages_are_ruled}
use Rattle.base_lemmas.proofs.Elements.{all_at, contains-later, contains-map, get-contains, last_of as one-contained, map_from as from_map}
use Rattle.base_lemmas.proofs.Lists.{append_of_map, front_at as at_front, map_of_map, mapped_get, identity}
use Rattle.plan_package.proofs.PlacedLaws.{part_placed as places_of_views}
use Rattle.comp_meaning.specs.Reads as reads
use Rattle.read_exports.specs.declared.members.Part.TheVariants as parts
use Rattle.plan_types.specs.Orders as orders

-- ---- as many numbers as others, of which none stands twice

as_many_once : (xs ys : List ℕ) → are_once xs ≡ true → ((x : ℕ) → has xs x ≡ true → Contains ys x) → length ys ≤ length xs → IsOnce ys
as_many_once xs ys once there many i j q at_i at_j = elim (cases_eq i j) [
  | inl same ↦ same
  | inr apart ↦ absurd (omega (
    arith,
    no_longer xs (removed ys j) (different (λ x. x) xs (subst (λ zs. are_once zs ≡ true) (sym (identity xs)) once)) (λ x c. kept apart x (contains-get ys x (there x (contains-has xs x c)))),
    removed_many ys j q at_j,
    many,
  ))
]
  where
    kept : (i ≡ j → ⊥) → (x : ℕ) → (k : ℕ) × (slice_get ys k ≡ Some x) → Contains (removed ys j) x
    kept apart x k = elim (cases_eq k.0 j) [
      | inl same ↦ subst (Contains (removed ys j)) (same-some q x (sym at_j ∙ (ap (slice_get ys) (sym same) ∙ k.1))) (removed_other ys j i q at_i apart)
      | inr other ↦ removed_other ys j k.0 x k.1 other
    ]

-- ---- parts of a list

later_get : (xs ys : List ℕ) (n q : ℕ) → slice_get ys n ≡ Some q → (k : ℕ) × (slice_get (xs ++ ys) k ≡ Some q) × (k ≡ length xs + n)
later_get [] ys n q e = (n, e, omega arith)
later_get (x ∷ xs) ys n q e = let more = later_get xs ys n q e in (suc more.0, more.1, (let a = more.2 in omega (arith, a)))

second_once : (xs ys : List ℕ) → IsOnce (xs ++ ys) → IsOnce ys
second_once xs ys once i j q at_i at_j = search (std_rules, later_get xs ys i q at_i, later_get xs ys j q at_j)

-- nothing stands in both
both_apart : (xs ys : List ℕ) → IsOnce (xs ++ ys) → (q : ℕ) → Contains xs q → Contains ys q → ⊥
both_apart xs ys once q c d =
    let i = contains-get xs q c in
    let j = contains-get ys q d in
    let k = later_get xs ys j.0 q j.1 in
    omega (arith, once i.0 k.0 q (at_front xs ys i.0 q i.1) k.1, slice_get_within xs i.0 q i.1, k.2)

module _ (test : ℕ → Bool) where
  none_pass : (ps : List ℕ) → ((p : ℕ) → Contains ps p → test p ≡ false) → filter test ps ≡ []
  none_pass [] none = refl
  none_pass (p ∷ ps) none = ap (λ b. cond b (p ∷ filter test ps) (filter test ps)) (none p (0, omega arith, refl)) ∙ none_pass ps (λ q c. none q (contains-later p ps q c))

-- ---- all places

module _ (t : Tables) (h : Homes) (known : ℕ → Fact) (n : ℕ) (ms : List Member) (members : List reads.Member) (given : IsPackageInput t h known n ms members) where
  abbrev own : List ℕ → List ℕ
  own ps = filter (has_no_path t) ps

  abbrev viewed : List Member → List ℕ
  viewed xs = map (λ (s : NumberedSight). s.place) (views_of_members (numbered_members xs))

  abbrev homes : List Member → List ℕ
  homes xs = flat_map (λ (m : NumberedMember). home_of_part m.part) (numbered_members xs)

  world_is : (m : Member) → Contains ms m → (w : Scope) → m.part ≡ parts.World w → IsWorldIn t h ms members given.input w
  world_is m c w is = world_in t h ms members given.input m c w is

  -- as many views and worlds of a member have no path as it has places of its own
  part_many : (m : Member) → Contains ms m → (a : Part) → m.part ≡ a
      → length (own (map (λ (s : NumberedSight). s.place) (views_of_part (numbered_part a)))) + length (own (home_of_part (numbered_part a))) ≡ length (own (places_of_part (numbered_part a)))
  part_many m c (parts.World w) is = by _ refl (as_many t _ _ followed.good followed.shows followed.stands.seen)
    where
      followed : IsWorldIn t h ms members given.input w
      followed = world_is m c w is

      home : has_no_path t w.home ≡ true
      home = ap is_none followed.good.home

      by : (shown : List ℕ) → places_of_seen (numbered_scope w).imports ++ places_of_seen (numbered_scope w).exports ≡ shown
          → length (own (map (λ (i : NumberedInstance). i.place) (numbered_scope w).instances)) ≡ length (own shown)
          → length (own (map (λ (s : NumberedSight). s.place) (map whole_view (numbered_scope w).instances))) + length (own (w.home ∷ [])) ≡ length
          (own (w.home ∷ (places_of_seen (numbered_scope w).imports ++ places_of_seen (numbered_scope w).exports)))
      by shown e many = search (std_rules, map_of_map, home)
  part_many m c (parts.Interface q v imports) is = omega (
    arith,
    ap length (none_pass _ _ (λ p there. outside p (subst (λ ps. Contains ps p) (places_of_views (numbered_part (parts.Interface q v imports))) there))),
  )
    where
      good : IsPartIn t (numbered_part (parts.Interface q v imports))
      good = subst (λ a. IsPartIn t (numbered_part a)) is (part_at t ms given.input.numbers m c)

      with_path : (p : ℕ) → HasPath t p → has_no_path t p ≡ false
      with_path p path = ap is_none path.1

      outside : (p : ℕ) → Contains (orders.places_of_part (numbered_part (parts.Interface q v imports))) p → has_no_path t p ≡ false
      outside p there = elim (Contains-append_cases (map (λ (i : ℕ × NumberedView). i.0) (map numbered_import imports.now)) (q ∷ []) p there) [
        | inl among ↦ (let from = from_map (λ (i : ℕ × NumberedView). i.0) (map numbered_import imports.now) p among in
            ap (has_no_path t) (sym from.2) ∙ with_path from.0.0 (all_at (λ (i : ℕ × NumberedView). HasPath t i.0 × IsViewIn t i.0 i.1) (map numbered_import imports.now) good.1 from.0 from.1).0)
        | inr last ↦ ap (has_no_path t) (sym (one-contained q p last)) ∙ with_path q good.0.0
      ]

  split_many : (xs ys : List ℕ) → length (own (xs ++ ys)) ≡ length (own xs) + length (own ys)
  split_many xs ys = ap length (filter-append (has_no_path t) xs ys) ∙ length-append (own xs) (own ys)

  all_many : (xs : List Member) → ((m : Member) → Contains xs m → Contains ms m) → length (own (viewed xs)) + length (own (homes xs)) ≡ length (own_places t (numbered_members xs))
  all_many [] among = omega arith
  all_many (m ∷ xs) among = omega (
    arith,
    part_many m (among m (0, omega arith, refl)) m.part refl,
    all_many xs (λ y c. among y (contains-later m xs y c)),
    (ap (λ ps. length (own ps)) (append_of_map _ _ _) ∙ split_many (map (λ (s : NumberedSight). s.place) (views_of_part (numbered_part m.part))) (viewed xs)),
    split_many (home_of_part (numbered_part m.part)) (homes xs),
    split_many (places_of_part (numbered_part m.part)) (flat_map (λ (y : NumberedMember). places_of_part y.part) (numbered_members xs)),
  )

  -- each place of its own is that of a view, or of a world
  place_there : (x : ℕ) → Contains (flat_map (λ (m : NumberedMember). places_of_part m.part) (numbered_members ms)) x → Contains (viewed ms) x ⊎ Contains (homes ms) x
  place_there x c = let m = mapped_cases (λ (m : NumberedMember). places_of_part m.part) numbered_member ms x c in by m.0 m.1 m.0.part refl m.2
    where
      by : (m : Member) → Contains ms m → (a : Part) → m.part ≡ a → Contains (places_of_part (numbered_part a)) x → Contains (viewed ms) x ⊎ Contains (homes ms) x
      by m m_in (parts.Interface q v imports) is there = none-in x there
      by m m_in (parts.World w) is (zero, low, same) =
          inr (among_mapped (λ (y : NumberedMember). home_of_part y.part) numbered_member ms m x m_in (subst (λ a. Contains (home_of_part (numbered_part a)) x) (sym is) (0, omega arith, same)))
      by m m_in (parts.World w) is (suc i, low, same) =
          let followed = world_is m m_in w is in
          let there = one_of t (numbered_scope w) followed.scope followed.good followed.shows followed.stands.seen x (i, omega (arith, low), same) in
          let one = from_map (λ (y : NumberedInstance). y.place) (numbered_scope w).instances x there in
          let sight = subst (λ a. Contains (views_of_part (numbered_part a)) (whole_view one.0)) (sym is) (contains-map _ _ _ one.1) in
          inl (subst (Contains (viewed ms)) one.2 (contains-map _ _ _ (view_among ms m m_in (whole_view one.0) sight)))

  all_once : IsOnce (own (viewed ms) ++ own (homes ms))
  all_once = as_many_once (own_places t (numbered_members ms)) (own (viewed ms) ++ own (homes ms)) given.placed.apart there
      (let many = all_many ms (λ m c. c) in let split = length-append (own (viewed ms)) (own (homes ms)) in omega (arith, many, split))
    where
      there : (x : ℕ) → has (own_places t (numbered_members ms)) x ≡ true → Contains (own (viewed ms) ++ own (homes ms)) x
      there x is =
          let both = filter_has (has_no_path t) (flat_map (λ (m : NumberedMember). places_of_part m.part) (numbered_members ms)) x is in
          side both.1 (place_there x (has-contains (flat_map (λ (m : NumberedMember). places_of_part m.part) (numbered_members ms)) x both.0))
        where
          side : has_no_path t x ≡ true → Contains (viewed ms) x ⊎ Contains (homes ms) x → Contains (own (viewed ms) ++ own (homes ms)) x
          side none (inl c) = Contains-append_left (own (viewed ms)) (own (homes ms)) x (filtered_there (has_no_path t) (viewed ms) x c none)
          side none (inr c) = Contains-append_right (own (viewed ms)) (own (homes ms)) x (filtered_there (has_no_path t) (homes ms) x c none)

  -- ---- what follows

  viewed_once : (i j : ℕ) (s u : NumberedSight) → slice_get (views_of_members (numbered_members ms)) i ≡ Some s → slice_get (views_of_members (numbered_members ms)) j ≡ Some u
      → path_at t s.place ≡ None → s.place ≡ u.place → i ≡ j
  viewed_once i j s u at_i at_j none same = unfiltered_once (has_no_path t) (viewed ms)
      (λ i j q at_i at_j. all_once i j q (at_front (own (viewed ms)) (own (homes ms)) i q at_i) (at_front (own (viewed ms)) (own (homes ms)) j q at_j)) i j s.place
      (mapped_get (λ (x : NumberedSight). x.place) (views_of_members (numbered_members ms)) i s at_i)
      (mapped_get (λ (x : NumberedSight). x.place) (views_of_members (numbered_members ms)) j u at_j ∙ ap Some (sym same)) (ap is_none none)

  views_apart : (s : NumberedSight) → Contains (views_of_members (numbered_members ms)) s → Contains (homes_in ms) s.place → ⊥
  views_apart s c home = elim (from_joined [] (homes ms) s.place home) [
    | inl no_home ↦ none-in s.place no_home
    | inr among ↦ both_apart (own (viewed ms)) (own (homes ms)) all_once s.place (filtered_there (has_no_path t) (viewed ms) s.place (contains-map _ _ s c) none)
        (filtered_there (has_no_path t) (homes ms) s.place among none)
  ]
    where
      none : has_no_path t s.place ≡ true
      none = ap is_none (home_alone t h ms members given.input s.place home)

  worlds_apart : WorldsAreApart ms
  worlds_apart i j w v at_i at_j same =
      let home = λ (x : Text × Scope). x.1.home in
      let m = world_member ms w (get-contains _ i w at_i) in
      unfiltered_once (has_no_path t) (homes ms) (second_once (own (viewed ms)) (own (homes ms)) all_once)
      i j w.1.home (ap (λ hs. slice_get hs i) (homes_of_worlds ms) ∙ mapped_get home (worlds_in ms) i w at_i)
      (ap (λ hs. slice_get hs j) (homes_of_worlds ms) ∙ (mapped_get home (worlds_in ms) j v at_j ∙ ap Some (sym same))) (ap is_none (world_is m.0 m.1 w.1 m.2).good.home)

pub whole_stands_apart : WholeStandsApart
whole_stands_apart t h known n ms members given rise = (
  record {
    obey = λ s c. all_at (ViewObeys t) (views_of_members (numbered_members ms)) (packages_are_ruled t h known n ms members given).rules.views s c;
    inline = viewed_once t h known n ms members given;
    apart = views_apart t h known n ms members given;
    rising = rise;
  },
  worlds_apart t h known n ms members given,
)
