-- Each place without a path is of one world, or of one inline interface with one view.
use Rattle.plan_meaning.proofs.Lists.{no_true}
use Rattle.std.proofs.lemmas.{Option.same_Some as same-some, Bool.cases_eq, Bool.not-true, Bool.and_from as both, Bool.false_from_ne_true}
use Rattle.std.proofs.Common.{rules as std_rules, ◌≡◌, refl, sym, ap, subst, ◌∙◌, ℕ, zero, suc, ◌+◌, inl, inr, arith, Bool, true, false, not, filter, if◌then◌else◌, List, [], ◌∷◌, ◌++◌, length, length-append, map, Option, None, is_none, ◌≤◌, Some, slice_get, cond}
use Rattle.std.proofs.lemmas.List.Elements.{Contains-append_cases, Contains-append_left, filter-append}
use Rattle.wit_model.proofs.{UsesLemmas.has_filter, Elements.contains-has, Elements.has-contains, Elements.none-in, Elements.contains-get}
use Rattle.plan_laws.proofs.{Sources.IsOnce, MetNames.flat_cases}
use Rattle.std.specs.List.{AllByRecursion, Contains, flat_map}
use Rattle.wit_model.specs.{Uses.has, Text.Text}
use Rattle.comp_meaning.specs.Follow.{Direction, Instance, export_, import_}
use Rattle.read_shown.specs.Instances.{InstancesAreSeen, going, instances_in}
use Rattle.plan_meaning.specs.FollowedNumbers.{IsOneOf, IsScopeIn, IsSeenIn}
use Rattle.plan_meaning.specs.NumberedMembers.{NumberedMember, NumberedPart, interface, world}
use Rattle.plan_meaning.specs.NumberedViews.{NumberedView, Tables, path_at}
use Rattle.plan_meaning.specs.NumberedWorlds.{HasPath, NumberedInstance, NumberedScope, NumberedSeen, NumberedShown, Shows, are_once, implementing, instance, instance_of, label, path, place_of_key, seen_of, shown_of}
use Rattle.plan_type_laws.specs.ShownMarks.{has_no_path, own_places, places_of_part, places_of_seen, places_of_shown}
use Rattle.base_lemmas.proofs.{Bools.left_of as first_true, Bools.right_of as second_true, Lists.append_of_map, Lists.mapped_get}
use Rattle.base_lemmas.proofs.Elements.{all_at, contains-later, contains-map, filter_keeps as in_filter, last_of as one-contained, get-contains}
use Rattle.comp_meaning.specs.Follow as follow
use Rattle.read_shown.specs.Instances as shown_instances

-- ---- what stands at a number that stands once

once_behind : (n : ℕ) (ns : List ℕ) → are_once (n ∷ ns) ≡ true → are_once ns ≡ true
once_behind n ns once = second_true (not (has ns n)) (are_once ns) once

not_among : (n : ℕ) (ns : List ℕ) → are_once (n ∷ ns) ≡ true → Contains ns n → ⊥
not_among n ns once c = let wrong : false ≡ true = sym (not-true (has ns n) (first_true (not (has ns n)) (are_once ns) once)) ∙ contains-has ns n c in cc

once_places : (ns : List ℕ) → are_once ns ≡ true → IsOnce ns
once_places [] once i j q at_i at_j = let wrong : None ≡ Some q = at_i in absurd cc
once_places (n ∷ ns) once zero zero q at_i at_j = refl
once_places (n ∷ ns) once zero (suc j) q at_i at_j = absurd (not_among n ns once (subst (Contains ns) (sym (same-some n q at_i)) (get-contains ns j q at_j)))
once_places (n ∷ ns) once (suc i) zero q at_i at_j = absurd (not_among n ns once (subst (Contains ns) (sym (same-some n q at_j)) (get-contains ns i q at_i)))
once_places (n ∷ ns) once (suc i) (suc j) q at_i at_j = ap suc (once_places ns (once_behind n ns once) i j q at_i at_j)

module _ (test : ℕ → Bool) where
  pub filtered_there : (ps : List ℕ) (q : ℕ) → Contains ps q → test q ≡ true → Contains (filter test ps) q
  filtered_there ps q c passes = has-contains (filter test ps) q (has_filter test ps q (contains-has ps q c) passes)

  -- what passes stands once, where it does among those that pass
  pub unfiltered_once : (ps : List ℕ) → IsOnce (filter test ps) → (i j q : ℕ) → slice_get ps i ≡ Some q → slice_get ps j ≡ Some q → test q ≡ true → i ≡ j
  unfiltered_once [] once i j q at_i at_j passes = let wrong : None ≡ Some q = at_i in absurd cc
  unfiltered_once (p ∷ ps) once i j q at_i at_j passes = by (test p) refl once i j at_i at_j (λ rest k l at_k at_l. unfiltered_once ps rest k l q at_k at_l passes)
    where
      twice : IsOnce (p ∷ filter test ps) → p ≡ q → (k : ℕ) → slice_get ps k ≡ Some q → ⊥
      twice one same k at =
          let there = contains-get (filter test ps) q (filtered_there ps q (get-contains ps k q at) passes) in
          omega (arith, one 0 (suc there.0) q (ap Some same) there.1)

      by : (b : Bool) → test p ≡ b → IsOnce (cond b (p ∷ filter test ps) (filter test ps)) → (i j : ℕ) → slice_get (p ∷ ps) i ≡ Some q → slice_get (p ∷ ps) j ≡ Some q
          → (IsOnce (filter test ps) → (k l : ℕ) → slice_get ps k ≡ Some q → slice_get ps l ≡ Some q → k ≡ l) → i ≡ j
      by b e one zero zero at_i at_j later = refl
      by true e one zero (suc j) at_i at_j later = absurd (twice one (same-some p q at_i) j at_j)
      by true e one (suc i) zero at_i at_j later = absurd (twice one (same-some p q at_j) i at_i)
      by true e one (suc i) (suc j) at_i at_j later = ap suc (later (λ k l r at_k at_l.
          let same = one (suc k) (suc l) r at_k at_l in omega (arith, same)) i j at_i at_j)
      by false e one zero (suc j) at_i at_j later = no_true (sym e ∙ (ap test (same-some p q at_i) ∙ passes))
      by false e one (suc i) zero at_i at_j later = no_true (sym e ∙ (ap test (same-some p q at_j) ∙ passes))
      by false e one (suc i) (suc j) at_i at_j later = ap suc (later one i j at_i at_j)

  pub one_there : {X : Type 0} (fs : List (ℕ × X)) → are_once (filter test (map (λ (f : ℕ × X). f.0) fs)) ≡ true → (f g : ℕ × X) → Contains fs f → Contains fs g → f.0 ≡ g.0 → test f.0 ≡ true → f ≡ g
  one_there {X = X} fs once f g c d e h =
      let number = λ (f : ℕ × X). f.0 in
      let i = contains-get fs f c in
      let j = contains-get fs g d in
      let same = unfiltered_once (map number fs) (once_places (filter test (map number fs)) once) i.0 j.0 f.0 (mapped_get number fs i.0 f i.1) (mapped_get number fs j.0 g j.1 ∙ ap Some (sym e)) h in
      same-some f g (sym i.1 ∙ (ap (slice_get fs) same ∙ j.1))

-- ---- as many, all of which are among others

-- none stands twice
abbrev pub AreDifferent : {A : Type 0} → List A → Type 0
AreDifferent [] = Unit {0}
AreDifferent (x ∷ xs) = (Contains xs x → ⊥) × AreDifferent xs

-- all but the one at this number
abbrev pub removed : {A : Type 0} → List A → ℕ → List A
removed [] j = []
removed (x ∷ xs) zero = xs
removed (x ∷ xs) (suc j) = x ∷ removed xs j

pub removed_many : {A : Type 0} (xs : List A) (j : ℕ) (x : A) → slice_get xs j ≡ Some x → length xs ≡ suc (length (removed xs j))
removed_many [] j x e = let wrong : None ≡ Some x = e in absurd cc
removed_many (y ∷ xs) zero x e = refl
removed_many (y ∷ xs) (suc j) x e = ap suc (removed_many xs j x e)

pub removed_other : {A : Type 0} (xs : List A) (j k : ℕ) (x : A) → slice_get xs k ≡ Some x → (k ≡ j → ⊥) → Contains (removed xs j) x
removed_other [] j k x e other = let wrong : None ≡ Some x = e in absurd cc
removed_other (y ∷ xs) zero zero x e other = absurd (other refl)
removed_other (y ∷ xs) zero (suc k) x e other = get-contains xs k x e
removed_other (y ∷ xs) (suc j) zero x e other = (0, omega arith, same-some y x e)
removed_other (y ∷ xs) (suc j) (suc k) x e other = contains-later y (removed xs j) x (removed_other xs j k x e (λ same. other (ap suc same)))

still : {A : Type 0} (c : A) (cs is : List A) → (Contains cs c → ⊥) → ((y : A) → Contains (c ∷ cs) y → Contains is y) → (j : ℕ) → slice_get is j ≡ Some c → (y : A) → Contains cs y
    → Contains (removed is j) y
still c cs is apart among j at y d = let k = contains-get is y (among y (contains-later c cs y d)) in
    removed_other is j k.0 y k.1 (λ same. apart (subst (Contains cs) (same-some y c (sym k.1 ∙ (ap (slice_get is) same ∙ at))) d))

-- others among which they all are aren't fewer
pub no_longer : {A : Type 0} (cs is : List A) → AreDifferent cs → ((c : A) → Contains cs c → Contains is c) → length cs ≤ length is
no_longer [] is apart among = omega arith
no_longer (c ∷ cs) is apart among =
    let j = contains-get is c (among c (zero, omega arith, refl)) in
    omega (arith, no_longer cs (removed is j.0) apart.1 (still c cs is apart.0 among j.0 j.1), removed_many is j.0 c j.1)

pub all_taken : {A : Type 0} (cs is : List A) → AreDifferent cs → ((c : A) → Contains cs c → Contains is c) → length is ≡ length cs → (x : A) → Contains is x → Contains cs x
all_taken [] is apart among many x (i, low, e) = absurd (omega (arith, low, many))
all_taken (c ∷ cs) is apart among many x there =
    let j = contains-get is c (among c (zero, omega arith, refl)) in
    let k = contains-get is x there in
    let less : length (removed is j.0) ≡ length cs = (let one = removed_many is j.0 c j.1 in omega (arith, one, many)) in
    elim (cases_eq k.0 j.0) [
      | inl same ↦ (zero, omega arith, same-some c x (sym j.1 ∙ (ap (slice_get is) (sym same) ∙ k.1)))
      | inr other ↦ contains-later c cs x (all_taken cs (removed is j.0) apart.1 (still c cs is apart.0 among j.0 j.1) less x (removed_other is j.0 k.0 x k.1 other))
    ]

-- ---- what is there in all worlds

-- what has a place of its own: a world, or an inline interface by its view
pub data Owned : Type 0 where
  a_world : NumberedScope → Owned
  a_view : NumberedView → Owned

abbrev pub Frame : Type 0
Frame = ℕ × Owned

abbrev pub frames_of_shown : NumberedShown → List Frame
frames_of_shown (instance key v) = (place_of_key key, a_view v) ∷ []
frames_of_shown _ = []

abbrev pub frames_of_seen : List NumberedSeen → List Frame
frames_of_seen ss = flat_map (λ (s : NumberedSeen). frames_of_shown s.shown) ss

abbrev pub frames_of_part : NumberedPart → List Frame
frames_of_part (world w) = (w.home, a_world w) ∷ (frames_of_seen w.imports ++ frames_of_seen w.exports)
frames_of_part (interface p v imports) = []

abbrev pub frames : List NumberedMember → List Frame
frames ms = flat_map (λ (m : NumberedMember). frames_of_part m.part) ms

abbrev place_of_frame : Frame → ℕ
place_of_frame f = f.0

shown_places : (x : NumberedShown) → map place_of_frame (frames_of_shown x) ≡ places_of_shown x
shown_places x = search std_rules

seen_places : (ss : List NumberedSeen) → map place_of_frame (frames_of_seen ss) ≡ places_of_seen ss
seen_places [] = refl
seen_places (s ∷ ss) = append_of_map place_of_frame (frames_of_shown s.shown) (frames_of_seen ss) ∙ λ i. shown_places s.shown i ++ seen_places ss i

part_places : (a : NumberedPart) → map place_of_frame (frames_of_part a) ≡ places_of_part a
part_places x = search (std_rules, append_of_map, seen_places)

all_places : (ms : List NumberedMember) → map place_of_frame (frames ms) ≡ flat_map (λ (m : NumberedMember). places_of_part m.part) ms
all_places [] = refl
all_places (m ∷ ms) = append_of_map place_of_frame (frames_of_part m.part) (frames ms) ∙ λ i. part_places m.part i ++ all_places ms i

-- one thing stands in each place without a path
pub one_owned : (t : Tables) (ms : List NumberedMember) → are_once (own_places t ms) ≡ true → (q : ℕ) → path_at t q ≡ None → (x y : Owned) → Contains (frames ms) (q, x)
    → Contains (frames ms) (q, y) → x ≡ y
one_owned t ms apart q none x y c d =
    ap (λ (f : Frame). f.1) (one_there (has_no_path t) (frames ms) (ap (λ ps. are_once (filter (has_no_path t) ps)) (all_places ms) ∙ apart) (q, x) (q, y) c d refl (ap is_none none))

-- ---- the instances of a world

module _ (t : Tables) where
  abbrev pub no_path : NumberedInstance → Bool
  no_path i = is_none (path_at t i.place)

  -- instances that have no path
  abbrev pub nones : List Instance → ℕ
  nones xs = length (filter (λ (x : Instance). is_none x.interface) xs)

  -- the inline interfaces among imports and exports
  abbrev pub inline_of : NumberedShown → List NumberedInstance
  inline_of (instance (label l p) v) = record { place = p; view = v } ∷ []
  inline_of _ = []

  abbrev pub inlines : List NumberedSeen → List NumberedInstance
  inlines ss = flat_map (λ (s : NumberedSeen). inline_of s.shown) ss

  nones_cons : (x : Instance) (xs : List Instance) → nones (x ∷ xs) ≡ nones (x ∷ []) + nones xs
  nones_cons x xs = search std_rules

  pub both_ways : (seen : List (Direction × Instance)) → nones (map (λ (y : Direction × Instance). y.1) seen) ≡ nones (going import_ seen) + nones (going export_ seen)
  both_ways [] = refl
  both_ways ((import_, x) ∷ seen) = search (std_rules, nones_cons, both_ways seen)
  both_ways ((export_, x) ∷ seen) = search (std_rules, nones_cons, both_ways seen)

  pub seen_nones : (ss : List NumberedSeen) → nones (instances_in (map (seen_of t) ss)) ≡ length (inlines ss)
  seen_nones [] = refl
  seen_nones (s ∷ ss) = by s.shown (seen_nones ss)
    where
      by : (x : NumberedShown) → nones (instances_in (map (seen_of t) ss)) ≡ length (inlines ss)
          → nones (shown_instances.instance_of (shown_of t x) ++ instances_in (map (seen_of t) ss)) ≡ length (inline_of x ++ inlines ss)
      by (instance (label l p) v) rest = ap suc rest
      by _ rest = rest

  pub kept_nones : (is : List NumberedInstance) → nones (map (instance_of t) is) ≡ length (filter no_path is)
  kept_nones [] = refl
  kept_nones (i ∷ is) = by (no_path i) (kept_nones is)
    where
      by : (b : Bool) → nones (map (instance_of t) is) ≡ length (filter no_path is)
          → length (if b then instance_of t i ∷ filter (λ (x : Instance). is_none x.interface) (map (instance_of t) is) else filter (λ (x : Instance). is_none x.interface) (map (instance_of t) is))
          ≡ length (if b then i ∷ filter no_path is else filter no_path is)
      by true rest = ap suc rest
      by false rest = rest

-- ---- numbers that stand once, in a part of a list

once_last : (xs ys : List ℕ) → are_once (xs ++ ys) ≡ true → are_once ys ≡ true
once_last [] ys once = once
once_last (x ∷ xs) ys once = once_last xs ys (once_behind x (xs ++ ys) once)

pub once_first : (xs ys : List ℕ) → are_once (xs ++ ys) ≡ true → are_once xs ≡ true
once_first [] ys once = refl
once_first (x ∷ xs) ys once = search (std_rules, both, false_from_ne_true, has-contains, not_among, Contains-append_left, once_behind, once_first xs ys (once_behind x (xs ++ ys) once))

pub once_inside : {A : Type 0} (test : ℕ → Bool) (f : A → List ℕ) (xs : List A) → are_once (filter test (flat_map f xs)) ≡ true → (x : A) → Contains xs x → are_once (filter test (f x)) ≡ true
once_inside test f [] once x c = none-in x c
once_inside test f (y ∷ xs) once x (zero, low, e) = search (std_rules, once_first, filter-append)
once_inside test f (y ∷ xs) once x (suc i, low, e) = once_inside test f xs
    (once_last (filter test (f y)) (filter test (flat_map f xs)) (ap are_once (sym (filter-append test (f y) (flat_map f xs))) ∙ once)) x (i, omega (arith, low), e)

pub different : {A : Type 0} (f : A → ℕ) (xs : List A) → are_once (map f xs) ≡ true → AreDifferent xs
different f [] once = tt
different f (x ∷ xs) once = ((λ c. not_among (f x) (map f xs) once (contains-map f xs x c)), different f xs (once_behind (f x) (map f xs) once))

module _ (t : Tables) (w : NumberedScope) (good : IsScopeIn t w) where
  abbrev Keyed : NumberedSeen → Type 0
  Keyed s = IsSeenIn t w.home s

  -- the places of inline interfaces
  pub inline_places : (ss : List NumberedSeen) → AllByRecursion Keyed ss → map (λ (i : NumberedInstance). i.place) (inlines t ss) ≡ filter (has_no_path t) (places_of_seen ss)
  inline_places [] all = refl
  inline_places (s ∷ ss) all = by s.key s.external_id s.shown all.0 (inline_places ss all.1)
    where
      dropped : (p : ℕ) → HasPath t p → (is : List NumberedInstance) → map (λ (i : NumberedInstance). i.place) is ≡ filter (has_no_path t) (places_of_seen ss)
          → map (λ (i : NumberedInstance). i.place) is ≡ filter (has_no_path t) (p ∷ places_of_seen ss)
      dropped p there is rest = rest ∙ ap (λ o. if is_none o then p ∷ filter (has_no_path t) (places_of_seen ss) else filter (has_no_path t) (places_of_seen ss)) (sym there.1)

      by : (key : Text) (id : Option Text) (x : NumberedShown) → Keyed (record { key = key; shown = x; external_id = id })
          → map (λ (i : NumberedInstance). i.place) (inlines t ss) ≡ filter (has_no_path t) (places_of_seen ss)
          → map (λ (i : NumberedInstance). i.place) (inline_of t x ++ inlines t ss) ≡ filter (has_no_path t) (places_of_shown x ++ places_of_seen ss)
      by key id (instance (path p) v) seen rest = dropped p seen.0 (inlines t ss) rest
      by key id (instance (label l p) v) seen rest = search (std_rules, is_none)
      by key id (instance (implementing l p) v) seen rest = dropped p seen.0 (inlines t ss) rest
      by key id _ seen rest = rest

  -- each of them is an instance
  inline_kept : (ss : List NumberedSeen) → AllByRecursion Keyed ss → AllByRecursion (λ (s : NumberedSeen). IsOneOf t w.instances s.shown) ss → (i : NumberedInstance) → Contains (inlines t ss) i
      → Contains (filter (no_path t) w.instances) i
  inline_kept ss keyed one i c =
      let from = flat_cases (λ (s : NumberedSeen). inline_of t s.shown) ss i c in
      by from.0.key from.0.external_id from.0.shown (all_at Keyed ss keyed from.0 from.1) (all_at (λ (s : NumberedSeen). IsOneOf t w.instances s.shown) ss one from.0 from.1) from.2
    where
      by : (key : Text) (id : Option Text) (x : NumberedShown) → Keyed (record { key = key; shown = x; external_id = id }) → IsOneOf t w.instances x → Contains (inline_of t x) i
          → Contains (filter (no_path t) w.instances) i
      by key id (instance (label l p) v) seen there among = search (std_rules, one-contained, in_filter, is_none)
      by key id _ seen there among = none-in i among

  abbrev pub all_inline : List NumberedInstance
  all_inline = inlines t w.imports ++ inlines t w.exports

  abbrev pub place_of_instance : NumberedInstance → ℕ
  place_of_instance i = i.place

  pub places_are : map place_of_instance all_inline ≡ filter (has_no_path t) (places_of_seen w.imports ++ places_of_seen w.exports)
  places_are = search (std_rules, append_of_map, inline_places, filter-append)

  module _ (scope : follow.Scope) (shows : Shows t w scope) (seen : InstancesAreSeen scope) where
    pub inline_many : length (filter (no_path t) w.instances) ≡ length all_inline
    inline_many = omega (
      arith,
      kept_nones t w.instances,
      ap (nones t) shows.instances,
      ap (nones t) seen.all,
      both_ways t seen.seen,
      (ap (nones t) (seen.imported ∙ ap instances_in shows.imports) ∙ seen_nones t w.imports),
      (ap (nones t) (seen.exported ∙ ap instances_in shows.exports) ∙ seen_nones t w.exports),
      length-append (inlines t w.imports) (inlines t w.exports),
    )

    -- an instance without a path is an inline interface that is imported or exported
    pub inline_seen : are_once (filter (has_no_path t) (places_of_part (world w))) ≡ true → (i : NumberedInstance) → Contains w.instances i → path_at t i.place ≡ None → Contains all_inline i
    inline_seen apart i c none =
        all_taken all_inline (filter (no_path t) w.instances) (different place_of_instance all_inline once) kept inline_many i (in_filter (no_path t) w.instances i c (ap is_none none))
      where
        once : are_once (map place_of_instance all_inline) ≡ true
        once = ap are_once places_are ∙ once_last (filter (has_no_path t) (w.home ∷ [])) (filter (has_no_path t) (places_of_seen w.imports ++ places_of_seen w.exports))
            (ap are_once (sym (filter-append (has_no_path t) (w.home ∷ []) (places_of_seen w.imports ++ places_of_seen w.exports))) ∙ apart)

        kept : (x : NumberedInstance) → Contains all_inline x → Contains (filter (no_path t) w.instances) x
        kept x there = elim (Contains-append_cases (inlines t w.imports) (inlines t w.exports) x there) [
          | inl among ↦ inline_kept w.imports good.imports good.imported x among
          | inr among ↦ inline_kept w.exports good.exports good.exported x among
        ]
