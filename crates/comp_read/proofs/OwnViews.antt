-- The interfaces of a world's package that it shows: each is seen by a view of the world.
use Rattle.std.proofs.Common.{rules as std_rules, ◌≡◌, refl, sym, ap, subst, ◌∙◌, ℕ, zero, suc, ◌+◌, ◌<◌, ◌≤◌, ◌⊎◌, inl, inr, arith, Bool, true, false, not, ◌||◌, ◌==◌, cond, List, [], ◌∷◌, ◌++◌, map, take, drop, length, get_or, if◌then◌else◌, Option, Some, Result, Ok, Err, OnOk, None}
use Rattle.std.proofs.{lemmas.Bool.eq-eqb, lemmas.Bool.eqb-true, lemmas.Bool.and_from as both, lemmas.Map.Keys.any_passes_from_place as get_any}
use Rattle.std.proofs.{ByRecursion.All-weaker as recursion_weaker, lemmas.List.take_all, Math.Seq.take-suc}
use Rattle.std.proofs.lemmas.List.Elements.{Contains-append_cases, Contains-append_left, Contains-append_right}
use Rattle.std.specs.{Borrow.Bor, List.AllByRecursion, List.Contains, List.find, List.flat_map, List.list_any, Option.option_map_or}
use Rattle.wit_model.specs.{Names.PackageIdentity, Text.Text, Uses.has}
use Rattle.wit_model.proofs.Elements.{contains-get, contains-has, has-contains, none-in}
use Rattle.plan_meaning.specs.NumberedMembers.{Homes, NumberedMember, NumberedPart, home_at, interface, is_interface_of, is_of_package, world, sights_of_members, sights_of_part}
use Rattle.plan_meaning.specs.NumberedViews.{NumberedSight, Tables, first_at, NumberedView, path_at}
use Rattle.plan_meaning.specs.NumberedWorlds.{NumberedScope, are_once, sights_of_scope, HasPath, NumberedInstance, sights_of_instance}
use Rattle.plan_meaning.proofs.Lists.{no_true}
use Rattle.read_exports.specs.Members.{homes_alone, homes_in, numbered_member, numbered_members}
use Rattle.read_exports.specs.declared.members.Member.{Member}
use Rattle.plan_laws.specs.OneWorld.{AreOwnInterfaces, IsOwnInterface, place_of_part}
use Rattle.plan_laws.proofs.{MetNames.flat_cases, ViewsAgree.first_is}
use Rattle.comp_read.specs.OwnMembers.{AddsInterface, AddsView, AreOwnAmong, IsOfView, IsOwnAmong, StandAsShown, another, known, new, own, own_places}
use Rattle.comp_read.proofs.InterfaceViews.{filter_known, filter_new, filter_other}
use Rattle.base_lemmas.proofs.{Bools.left_of as first_true, Bools.right_of as second_true, Lists.append_of_map, Numbers.same-number}
use Rattle.base_lemmas.proofs.Elements.{all_both, contains-one, last_of as one-contained, all_at, contains-map}
use Rattle.read_rules.proofs.PlaceLaws.{any_flip}
use Rattle.plan_package.specs.Views.{views_of_members, views_of_part, whole_view}

-- ---- The interfaces of a package, gathered view by view.

-- ---- lists

-- a list up to an item, the item, and what is behind it
pub split_more : {A B : Type 0} (f : A → B) (xs : List A) (i : ℕ) (d : A) → i < length xs → map f xs ≡ map f (take i xs) ++ f (get_or xs i d) ∷ map f (drop (suc i) xs)
split_more f [] i d low = absurd (omega (arith, low))
split_more f (x ∷ xs) zero d low = refl
split_more f (x ∷ xs) (suc i) d low = ap (λ ys. f x ∷ ys) (split_more f xs i d (omega (arith, low)))

flat_more : {A B : Type 0} (f : A → List B) (xs : List A) (x : A) (y : B) → f x ≡ y ∷ [] → flat_map f (xs ++ x ∷ []) ≡ flat_map f xs ++ y ∷ []
flat_more f [] x y e = ap (λ ys. ys ++ []) e
flat_more f (z ∷ xs) x y e = ap (λ ys. f z ++ ys) (flat_more f xs x y e) ∙ behind (f z)
  where
    behind : (zs : List _) → zs ++ (flat_map f xs ++ y ∷ []) ≡ (zs ++ flat_map f xs) ++ y ∷ []
    behind [] = refl
    behind (w ∷ zs) = ap (λ ys. w ∷ ys) (behind zs)

-- a number that isn't there stands once behind the others
has_behind : (ps : List ℕ) (p q : ℕ) → has (ps ++ p ∷ []) q ≡ (has ps q || (p == q))
has_behind [] p q = search std_rules
has_behind (r ∷ ps) p q = search (std_rules, has_behind ps p q)

once_behind : (ps : List ℕ) (p : ℕ) → are_once ps ≡ true → has ps p ≡ false → are_once (ps ++ p ∷ []) ≡ true
once_behind [] p once none = refl
once_behind (r ∷ ps) p once none = both _ _ (ap not (has_behind ps p r) ∙ fewer (has ps r) (p == r) (first_true _ _ once) (differ (p == r) refl))
    (once_behind ps p (second_true _ _ once) (rest (r == p) none))
  where
    fewer : (a b : Bool) → not a ≡ true → b ≡ false → not (a || b) ≡ true
    fewer true b h e = h
    fewer false b h e = ap not e

    rest : (b : Bool) → (b || has ps p) ≡ false → has ps p ≡ false
    rest true e = no_true (sym e)
    rest false e = e

    differ : (b : Bool) → (p == r) ≡ b → (p == r) ≡ false
    differ false e = e
    differ true e = no_true (sym none ∙ ap (λ c. c || has ps p) (eq-eqb r p (sym (eqb-true p r e))))

-- ---- the first view of a place

first_behind : (q : ℕ) (done : List NumberedSight) (s : NumberedSight) (rest : List NumberedSight) → ((u : NumberedSight) → Contains done u → u.place ≡ q → ⊥) → s.place ≡ q
    → first_at q (done ++ s ∷ rest) ≡ Some s
first_behind q [] s rest none same = ap (λ b. cond b (Some s) (find (λ (y : NumberedSight). q == y.place) rest)) (eq-eqb q s.place (sym same))
first_behind q (u ∷ done) s rest none same = by (q == u.place) refl (first_behind q done s rest (λ v c. none v (later v c)) same)
  where
    later : (v : NumberedSight) → Contains done v → Contains (u ∷ done) v
    later v (i, low, e) = (suc i, omega (arith, low), e)

    by : (b : Bool) → (q == u.place) ≡ b → first_at q (done ++ s ∷ rest) ≡ Some s → cond b (Some u) (first_at q (done ++ s ∷ rest)) ≡ Some s
    by true e deeper = absurd (none u (0, omega arith, refl) (sym (eqb-true q u.place e)))
    by false e deeper = deeper

-- ---- one view

module _ (n : ℕ) (label : Text) (s : NumberedSight) (places later : List ℕ) (added : Bool) (is_added : added ≡ not (list_any (λ k. s.place == k) places))
    (inserts : later ≡ (if list_any (λ k. s.place == k) places then places else places ++ s.place ∷ [])) where
  chosen : (b : Bool) → list_any (λ k. s.place == k) places ≡ b → later ≡ (if b then places else places ++ s.place ∷ [])
  chosen b e = inserts ∙ ap (λ c. if c then places else places ++ s.place ∷ []) e

  pub adds_new : added ≡ true → (ms : List Member) (m : Member) (more : List Member) → more ≡ ms ++ m ∷ [] → IsOfView n label s (numbered_member m)
      → AddsInterface n label s places (numbered_members ms) later (numbered_members more)
  adds_new e ms m more pushed is =
      let none : list_any (λ k. s.place == k) places ≡ false = off (list_any (λ k. s.place == k) places) (sym is_added ∙ e) in
      let all : numbered_members more ≡ numbered_members ms ++ numbered_member m ∷ [] = ap numbered_members pushed ∙ append_of_map numbered_member ms (m ∷ []) in
      subst (λ (ps : List ℕ). AddsInterface n label s places (numbered_members ms) ps (numbered_members more)) (sym (chosen false none))
      (subst (AddsInterface n label s places (numbered_members ms) (places ++ s.place ∷ [])) (sym all) (new (numbered_member m) (sym (any_flip s.place places) ∙ none) is))
    where
      off : (b : Bool) → not b ≡ true → b ≡ false
      off false h = refl
      off true h = no_true h

  pub adds_none : added ≡ false → (ms : List NumberedMember) → AddsInterface n label s places ms later ms
  adds_none e ms =
      let there : list_any (λ k. s.place == k) places ≡ true = on (list_any (λ k. s.place == k) places) (sym is_added ∙ e) in
      subst (λ (ps : List ℕ). AddsInterface n label s places ms ps ms) (sym (chosen true there)) (known (sym (any_flip s.place places) ∙ there))
    where
      on : (b : Bool) → not b ≡ false → b ≡ true
      on true h = refl
      on false h = no_true (sym h)

pub adds_own : {R E : Type 0} (r : Result R E) (h : Homes) (n : ℕ) (s : NumberedSight) (places : List ℕ) (ms : List NumberedMember) (label : Text) → home_at h s.place ≡ Some (n, label)
    → (later : List ℕ) (more : List NumberedMember) → OnOk r (AddsInterface n label s places ms later more) → OnOk r (AddsView h n s places ms later more)
adds_own (Ok x) h n s places ms label home later more adds = own label later more home adds
adds_own (Err e) h n s places ms label home later more adds = tt

-- ---- what is gathered of so many views

pub record IsGathered (h : Homes) (n : ℕ) (seen done : List NumberedSight) (places : List ℕ) (ms : List NumberedMember) : Type 0 where
  pub each : AllByRecursion (IsOwnAmong h n seen) ms
  pub of : flat_map (λ (m : NumberedMember). place_of_part m.part) ms ≡ places
  pub all : (s : NumberedSight) → Contains done s → is_of_package h n s.place ≡ true → has places s.place ≡ true
  pub once : are_once places ≡ true
  pub order : places ≡ own_places h n done

pub none_gathered : (h : Homes) (n : ℕ) (seen : List NumberedSight) (places : List ℕ) → places ≡ [] → (ms : List NumberedMember) → ms ≡ [] → IsGathered h n seen [] places ms
none_gathered h n seen places e ms none = search std_rules

home_is_of : (h : Homes) (n p : ℕ) (label : Text) → home_at h p ≡ Some (n, label) → is_of_package h n p ≡ true
home_is_of h n p label e = ap (λ o. option_map_or (λ (x : ℕ × Text). x.0 == n) o false) e ∙ same-number n

module _ (h : Homes) (n : ℕ) (done rest : List NumberedSight) (s : NumberedSight) where
  abbrev seen : List NumberedSight
  seen = done ++ s ∷ rest

  abbrev Next : List ℕ → List NumberedMember → Type 0
  Next later more = IsGathered h n seen (done ++ s ∷ []) later more

  next_view : (u : NumberedSight) → Contains (done ++ s ∷ []) u → Contains done u ⊎ (s ≡ u)
  next_view u c = elim (Contains-append_cases done (s ∷ []) u c) [ inl among ↦ inl among | inr last ↦ inr (one-contained s u last) ]

  foreign_step : (places : List ℕ) (ms : List NumberedMember) → IsGathered h n seen done places ms → is_of_package h n s.place ≡ false → Next places ms
  foreign_step places ms g foreign = record {
    each = g.each;
    of = g.of;
    all = λ u c is. elim (next_view u c) [ inl among ↦ g.all u among is | inr same ↦ no_true (sym foreign ∙ (ap (λ (v : NumberedSight). is_of_package h n v.place) same ∙ is)) ];
    once = g.once;
    order = g.order ∙ sym (filter_other (is_of_package h n) (λ (u : NumberedSight). u.place) done s foreign);
  }

  known_step : (places : List ℕ) (ms : List NumberedMember) → IsGathered h n seen done places ms → is_of_package h n s.place ≡ true → has places s.place ≡ true → Next places ms
  known_step places ms g is there = record {
    each = g.each;
    of = g.of;
    all = λ u c is. elim (next_view u c) [ inl among ↦ g.all u among is | inr same ↦ subst (λ (v : NumberedSight). has places v.place ≡ true) same there ];
    once = g.once;
    order = g.order ∙ sym (filter_known (is_of_package h n) (λ (u : NumberedSight). u.place) done s is (subst (λ (ps : List ℕ). has ps s.place ≡ true) g.order there));
  }

  module _ (places : List ℕ) (ms : List NumberedMember) (g : IsGathered h n seen done places ms) (label : Text) (home : home_at h s.place ≡ Some (n, label)) (m : NumberedMember) (none : has places s.place ≡ false) (is : IsOfView n label s m) where
    not_before : (u : NumberedSight) → Contains done u → u.place ≡ s.place → ⊥
    not_before u c same = no_true (sym none ∙ (ap (has places) (sym same) ∙ g.all u c (ap (is_of_package h n) same ∙ home_is_of h n s.place label home)))

    new_step : Next (places ++ s.place ∷ []) (ms ++ m ∷ [])
    new_step = record {
      each = all_both (IsOwnAmong h n seen) ms (m ∷ []) g.each ((search (std_rules, first_behind, rest, not_before)), tt);
      of = flat_more (λ (k : NumberedMember). place_of_part k.part) ms m s.place (ap place_of_part is.part) ∙ ap (λ ps. ps ++ s.place ∷ []) g.of;
      all = λ u c of. elim (next_view u c) [
        | inl among ↦ contains-has (places ++ s.place ∷ []) u.place (Contains-append_left places (s.place ∷ []) u.place (has-contains places u.place (g.all u among of)))
        | inr same ↦ contains-has (places ++ s.place ∷ []) u.place (Contains-append_right places (s.place ∷ []) u.place
            (subst (λ (v : NumberedSight). Contains (s.place ∷ []) v.place) same (contains-one s.place)))
      ];
      once = once_behind places s.place g.once none;
      order = ap (λ ps. ps ++ s.place ∷ []) g.order ∙ sym (filter_new (is_of_package h n) (λ (u : NumberedSight). u.place) done s (home_is_of h n s.place label home)
          (subst (λ (ps : List ℕ). has ps s.place ≡ false) g.order none));
    }

  interface_step : (places : List ℕ) (ms : List NumberedMember) → IsGathered h n seen done places ms → (label : Text) → home_at h s.place ≡ Some (n, label)
      → (later : List ℕ) (more : List NumberedMember) → AddsInterface n label s places ms later more → Next later more
  interface_step places ms g label home later more (known there) = known_step places ms g (home_is_of h n s.place label home) there
  interface_step places ms g label home later more (new m none is) = new_step places ms g label home m none is

  pub one_gathered : (places : List ℕ) (ms : List NumberedMember) → IsGathered h n seen done places ms → (later : List ℕ) (more : List NumberedMember) → AddsView h n s places ms later more
      → Next later more
  one_gathered places ms g later more (another foreign) = foreign_step places ms g foreign
  one_gathered places ms g later more (own label all others home adds) = interface_step places ms g label home later more adds

-- ---- all views

module _ (h : Homes) (n : ℕ) (seen : List NumberedSight) (places : List ℕ) (ms : List NumberedMember) (g : IsGathered h n seen seen places ms) where
  any_of_place : (q : ℕ) → has places q ≡ true → list_any (λ (m : NumberedMember). is_interface_of q m.part) ms ≡ true
  any_of_place q e =
      let from = flat_cases (λ (m : NumberedMember). place_of_part m.part) ms q (subst (λ ps. Contains ps q) (sym g.of) (has-contains places q e)) in
      let at = contains-get ms from.0 from.1 in
      get_any (λ (m : NumberedMember). is_interface_of q m.part) ms at.0 from.0 at.1 (search std_rules)

  pub all_gathered : AreOwnAmong h n seen ms
  all_gathered = record { each = g.each; all = λ s c is. any_of_place s.place (g.all s c is); once = ap are_once g.of ∙ g.once; order = g.of ∙ g.order }

-- ---- views that are looked at one after the other

one_more : (i : ℕ) → i + 1 ≡ suc i
one_more i = omega arith

module _ {A : Type 0} (f : A → NumberedSight) (xs : List A) (h : Homes) (n i : ℕ) where
  pub more_gathered : (d : A) → i < length xs → (places : List ℕ) (ms : List NumberedMember) → IsGathered h n (map f xs) (map f (take i xs)) places ms
      → (later : List ℕ) (more : List NumberedMember) → AddsView h n (f (get_or xs i d)) places ms later more → IsGathered h n (map f xs) (map f (take (i + 1) xs)) later more
  more_gathered d low places ms g later more adds =
      let done = map f (take i xs) in
      let s = f (get_or xs i d) in
      let rest = map f (drop (suc i) xs) in
      let split = split_more f xs i d low in
      let next = one_gathered h n done rest s places ms (subst (λ (seen : List NumberedSight). IsGathered h n seen done places ms) split g) later more adds in
      let so_far : map f (take (i + 1) xs) ≡ done ++ s ∷ [] = ap (λ (k : ℕ). map f (take k xs)) (one_more i) ∙ (ap (map f) (take-suc xs i d low) ∙ append_of_map f (take i xs) (get_or xs i d ∷ [])) in
      subst (λ (seen : List NumberedSight). IsGathered h n seen (map f (take (i + 1) xs)) later more) (sym split)
      (subst (λ (those : List NumberedSight). IsGathered h n (done ++ s ∷ rest) those later more) (sym so_far) next)

  pub own_gathered : length xs ≤ i → (places : List ℕ) (ms : List NumberedMember) → IsGathered h n (map f xs) (map f (take i xs)) places ms → AreOwnAmong h n (map f xs) ms
  own_gathered past places ms g = all_gathered h n (map f xs) places ms (subst (λ (ys : List A). IsGathered h n (map f xs) (map f ys) places ms) (take_all i xs past) g)

-- ---- the interfaces of a world's package

-- the same, whatever the packages are
module _ (t : Tables) (packages : List PackageIdentity) (homes : List (Option (ℕ × Bor (List ℕ)))) (n : ℕ) (w : NumberedScope) where
  own_is : (m : NumberedMember) → IsOwnAmong (homes_alone homes) n (sights_of_scope t w) m → IsOwnInterface t (homes_in packages homes) n w m
  own_is m is = record { place = is.place; view = is.view; part = is.part; package_ = is.package_; home = is.home; first = is.first; shown = is.shown; is = is.is }

  pub own_are : (views : List NumberedSight) → views ≡ sights_of_scope t w → (ms : List NumberedMember) → AreOwnAmong (homes_alone homes) n views ms
      → AreOwnInterfaces t (homes_in packages homes) n w ms
  own_are views same ms are = search (std_rules, recursion_weaker, own_is)

  pub own_stand : (views : List NumberedSight) → views ≡ sights_of_scope t w → (ms : List NumberedMember) → AreOwnAmong (homes_alone homes) n views ms → StandAsShown t (homes_in packages homes) n w ms
  own_stand views same ms are = (subst (λ (ss : List NumberedSight). AreOwnAmong (homes_alone homes) n ss ms) same are).order

-- ---- the views of a world

module _ (t : Tables) (w : NumberedScope) where
  -- a view that a world gives is that of an instance with a path
  pub record IsSeenOf (s : NumberedSight) : Type 0 where
    pub one : NumberedInstance
    pub among : Contains w.instances one
    pub path : HasPath t one.place
    pub is : whole_view one ≡ s

  pub scope_sight : (s : NumberedSight) → Contains (sights_of_scope t w) s → IsSeenOf s
  scope_sight s c =
      let from = flat_cases (sights_of_instance t) w.instances s c in
      by from.0 from.1 (path_at t from.0.place) refl from.2
    where
      by : (i : NumberedInstance) → Contains w.instances i → (o : Option Text) → path_at t i.place ≡ o → Contains (option_map_or (λ (path : Text). whole_view i ∷ []) o []) s → IsSeenOf s
      by i among None e d = none-in s d
      by i among (Some path) e d = record { one = i; among = among; path = (path, e); is = one-contained (whole_view i) s d }

-- ---- interfaces of its package

module _ (t : Tables) (h : Homes) (n : ℕ) (w : NumberedScope) (ms : List NumberedMember) (are : AreOwnInterfaces t h n w ms) where
  -- one of them, with the instance of which it is
  pub record IsOwn (k : NumberedMember) : Type 0 where
    pub place : ℕ
    pub view : NumberedView
    pub part : k.part ≡ interface place view []
    pub package_ : k.package_ ≡ n
    pub home : home_at h place ≡ Some (n, k.label)
    pub path : HasPath t place
    pub among : Contains w.instances (record { place = place; view = view })
    pub seen : Contains (sights_of_scope t w) (record { place = place; view = view; whole = true })

  pub own_at : (k : NumberedMember) → Contains ms k → IsOwn k
  own_at k c =
      let is = all_at (IsOwnInterface t h n w) ms are.each k c in
      let first = first_is is.place (sights_of_scope t w) is.first is.shown in
      let from = scope_sight t w is.first first.0 in
      let place : from.one.place ≡ is.place = ap (λ (s : NumberedSight). s.place) from.is ∙ first.1 in
      let view : from.one.view ≡ is.view = ap (λ (s : NumberedSight). s.view) from.is ∙ is.is in
      record {
        place = is.place;
        view = is.view;
        part = is.part;
        package_ = is.package_;
        home = is.home;
        path = subst (HasPath t) place from.path;
        among = subst (Contains w.instances) (λ i. record { place = place i; view = view i }) from.among;
        seen = subst (Contains (sights_of_scope t w)) (sym from.is ∙ (λ i. record { place = place i; view = view i; whole = true })) first.0;
      }

  -- the view of an interface
  abbrev pub view_of_own : (k : NumberedMember) → IsOwn k → NumberedSight
  view_of_own k is = record { place = is.place; view = is.view; whole = true }

  -- each view that they give is one of the world's
  pub own_sight : (s : NumberedSight) → Contains (sights_of_members t ms) s → Contains (sights_of_scope t w) s
  own_sight s c =
      let from = flat_cases (λ (k : NumberedMember). sights_of_part t k.part) ms s c in
      subst (Contains (sights_of_scope t w)) (let is = own_at from.0 from.1 in one-contained (view_of_own from.0 is) s (subst (λ (a : NumberedPart). Contains (sights_of_part t a) s) is.part from.2))
      (own_at from.0 from.1).seen

  pub own_view : (s : NumberedSight) → Contains (views_of_members ms) s → Contains (map whole_view w.instances) s
  own_view s c =
      let from = flat_cases (λ (k : NumberedMember). views_of_part k.part) ms s c in
      let is = own_at from.0 from.1 in
      subst (Contains (map whole_view w.instances)) (let is = own_at from.0 from.1 in
      one-contained (view_of_own from.0 is) s (subst (λ (a : NumberedPart). Contains (views_of_part a) s) is.part from.2)) (contains-map _ _ _ is.among)

  -- beside the world itself
  pub sight_among : (label : Text) (s : NumberedSight) → Contains (sights_of_members t (record { label = label; package_ = n; part = world w } ∷ ms)) s → Contains (sights_of_scope t w) s
  sight_among label s c = elim (Contains-append_cases (sights_of_scope t w) (sights_of_members t ms) s c) [ inl here ↦ here | inr there ↦ own_sight s there ]

  pub view_among : (label : Text) (s : NumberedSight) → Contains (views_of_members (record { label = label; package_ = n; part = world w } ∷ ms)) s → Contains (map whole_view w.instances) s
  view_among label s c = elim (Contains-append_cases (map whole_view w.instances) (views_of_members ms) s c) [ inl here ↦ here | inr there ↦ own_view s there ]
