-- Types that are planned are their owners', and are seen from there.
use Rattle.plan_meaning.specs.{Renumbering.IsPart, PlanRules.has_name, Shapes.named_shape}
use Rattle.plan_meaning.specs.{Plan.Plan, Plan.PlannedInterface, Plan.interface_in, Plan.PlannedType, NumberedRules.IsSeenFrom, NumberedRules.name_in}
use Rattle.plan_meaning.specs.{NumberedWorlds.HasPath, GatheredPlan.DeclaresKind, FollowedNumbers.IsPartIn, FollowedNumbers.IsMetFrom, FollowedNumbers.IsNameOf}
use Rattle.plan_meaning.specs.NumberedViews.{NumberedSight, Tables, first_at, path_at, AllOf, itself}
use Rattle.plan_meaning.specs.NumberedMembers.{Homes, NumberedMember, NumberedPart, home_at, interface, world}
use Rattle.plan_meaning.specs.KeptOwners.{AreOwned, IsNamedInterface, IsPlaceOf, of_interface, of_name}
use Rattle.std.proofs.Common.{rules as std_rules, ◌≡◌, refl, sym, ap, subst, ◌∙◌, ℕ, zero, suc, ◌⊎◌, inl, inr, arith, Bool, true, false, ◌==◌, cond, List, [], ◌∷◌, Some, None, is_some, slice_get, ◌+◌, ◌<◌, length, Option, option_map}
use Rattle.std.proofs.lemmas.{Option.slice_get_within, Option.same_Some as same-some, Slice.Zip.AllZip-long as zip_length}
use Rattle.std.specs.{List.Contains, List.find, List.flat_map, Option.option_map_or}
use Rattle.wit_model.specs.{Text.Text, Valid.as_interface, Valid.as_world, Parts.same_owner, Uses.owner_interface}
use Rattle.wit_model.proofs.Elements.{contains-flat, none-in}
use Rattle.read_exports.specs.Members.{numbered_member, numbered_members, numbered_part}
use Rattle.read_exports.specs.declared.members.Member.{Member}
use Rattle.plan_types.specs.{Orders.home_of_part, Orders.places_of_part, Showings.NumberedShowing, Showings.showings_of_members}
use Rattle.plan_types.specs.PlannedTypes.{PlansType, named, number_in, owner_in, unnamed}
use Rattle.plan_package.specs.{Views.views_of_members, Views.views_of_part, PlanWhole.PlansWhole, PlanWhole.places_in, PlanWhole.shown_first}
use Rattle.plan_package.specs.WholeInterfaces.{PlansPlace}
use Rattle.read_rules.specs.declared.scopes.Scope.{Scope}
use Rattle.plan_type_laws.proofs.{ShownRules.mark_there, FirstFound.firsts_found, KeptKinds.kinds_tell}
use Rattle.plan_laws.specs.{Owners.homes_in, Owners.owners_of, ShownNames.IsInput, ShownNames.IsShownByPart, ShownNames.by_import, ShownNames.by_view}
use Rattle.plan_laws.proofs.{MetNames.flat_cases, MetNames.name_same, ShownNames.names_are_shown, ShownNames.same_place, ShownRules.showings_named}
use Rattle.plan_laws.proofs.Sources.{all_joined, from_joined, if_given, number_given, owner_met, owners_apart}
use Rattle.base_lemmas.proofs.Elements.{all_at, contains-map, get-contains, last_of as one-contained, map_from as from_map, zip_at, zip_at_right as zip_get}
use Rattle.base_lemmas.proofs.Numbers.{same-number}
use Rattle.plan_package.proofs.{PlacedLaws.part_placed as places_of_views, ReadPackageLaws.number_at as number_there}
use Rattle.plan_parts.proofs.DeclaredKinds.{kinds_declared}
use Rattle.comp_meaning.specs.Reads as reads
use Rattle.read_exports.specs.declared.members.Part.TheVariants as parts

-- ---- What is known of a plan that was made of what was followed: where names are shown, and the interface of each place.

-- ---- lists

pub found_there : {A : Type 0} (test : A → Bool) (xs : List A) (x : A) → Contains xs x → test x ≡ true → (y : A) × (find test xs ≡ Some y)
found_there test [] x c h = none-in x c
found_there {A = A} test (z ∷ xs) x c h = by (test z) refl (λ later. found_there test xs x later h) c
  where
    by : (b : Bool) → test z ≡ b → (Contains xs x → (y : A) × (find test xs ≡ Some y)) → Contains (z ∷ xs) x → (y : A) × (find test (z ∷ xs) ≡ Some y)
    by true e later among = (z, ap (λ v. cond v (Some z) (find test xs)) e)
    by false e later (zero, low, same) = let wrong : false ≡ true = sym e ∙ (ap test same ∙ h) in absurd cc
    by false e later (suc i, low, same) = let found = later (i, omega (arith, low), same) in (found.0, ap (λ v. cond v (Some z) (find test xs)) e ∙ found.1)

-- a part that is kept has its number
pub kept_number : (kept : List ℕ) (k n j : ℕ) → k ≡ 14 + n → IsPart kept k (14 + j) → slice_get kept j ≡ Some n
kept_number kept k n j is x = search std_rules

-- what has a home has a path
pub path_given : (t : Tables) (h : Homes) → ((q : ℕ) → path_at t q ≡ None → home_at h q ≡ None) → (q : ℕ) (x : ℕ × Text) → home_at h q ≡ Some x → HasPath t q
path_given t h alone q x home = search std_rules

-- ---- places of views

module _ (ms : List Member) where
  abbrev numbered : List NumberedMember
  numbered = numbered_members ms

  -- the place of a view is met
  pub view_met : (m : NumberedMember) → Contains numbered m → (s : NumberedSight) → Contains (views_of_part m.part) s → Contains (places_in ms) s.place
  view_met m c s among =
      let there = subst (λ ps. Contains ps s.place) (places_of_views m.part) (contains-map (λ (x : NumberedSight). x.place) (views_of_part m.part) s among) in
      all_joined [] (flat_map (λ (x : NumberedMember). places_of_part x.part) numbered) s.place (inr (contains-flat (λ (x : NumberedMember). places_of_part x.part) numbered m s.place c there))

  -- a view of each place that is met
  pub place_seen : (q : ℕ) → Contains (places_in ms) q → (s : NumberedSight) × Contains (views_of_members numbered) s × (s.place ≡ q)
  place_seen q c = elim (from_joined [] (flat_map (λ (x : NumberedMember). places_of_part x.part) numbered) q c) [
    | inl none ↦ none-in q none
    | inr among ↦ (let from = flat_cases (λ (x : NumberedMember). places_of_part x.part) numbered q among in let sight =
        from_map (λ (s : NumberedSight). s.place) (views_of_part from.0.part) q (subst (λ ps. Contains ps q) (sym (places_of_views from.0.part)) from.2) in
        (sight.0, contains-flat (λ (x : NumberedMember). views_of_part x.part) numbered from.0 sight.0 from.1 sight.1, sight.2))
  ]

  -- the place of a world is met
  pub home_met : (m : Member) → Contains ms m → (w : Scope) → m.part ≡ parts.World w → Contains (homes_in ms) w.home
  home_met m c w is = all_joined [] (flat_map (λ (x : NumberedMember). home_of_part x.part) numbered) w.home
      (inr (contains-flat (λ (x : NumberedMember). home_of_part x.part) numbered (numbered_member m) w.home (contains-map numbered_member ms m c)
      (subst (λ a. Contains (home_of_part (numbered_part a)) w.home) (sym is) (0, omega arith, refl))))

  -- the place of a name that is shown is met
  pub shown_met : (t : Tables) (m : Member) → Contains ms m → (q n : ℕ) → IsShownByPart t m.part q n → Contains (places_in ms) q ⊎ Contains (homes_in ms) q
  shown_met t m c q n (by_view shows) = inl (subst (Contains (places_in ms)) shows.place (view_met (numbered_member m) (contains-map numbered_member ms m c) shows.sight shows.among))
  shown_met t m c q n (by_import w is home imports) = inr (subst (Contains (homes_in ms)) (sym home) (home_met m c w is))

-- the place of a world has no path
pub home_alone : (t : Tables) (h : Homes) (ms : List Member) (members : List reads.Member) → IsInput t h ms members → (q : ℕ) → Contains (homes_in ms) q → path_at t q ≡ None
home_alone t h ms members input q c = elim (from_joined [] (flat_map (λ (x : NumberedMember). home_of_part x.part) (numbered_members ms)) q c) [
  | inl none ↦ none-in q none
  | inr among ↦ (let from = flat_cases (λ (x : NumberedMember). home_of_part x.part) (numbered_members ms) q among in
      of_part from.0.part (all_at (λ (y : NumberedMember). IsPartIn t y.part) (numbered_members ms) input.numbers from.0 from.1) from.2)
]
  where
    of_part : (a : NumberedPart) → IsPartIn t a → Contains (home_of_part a) q → path_at t q ≡ None
    of_part (world w) good among = ap (path_at t) (sym (one-contained w.home q among)) ∙ good.home
    of_part (interface p v imports) good among = none-in q among

-- ---- the plan

module _ (t : Tables) (h : Homes) (ms : List Member) (members : List reads.Member) (input : IsInput t h ms members) (main : ℕ) (p : Plan) (planned : PlansWhole t h.packages (home_at h) main ms p) where
  -- where a name of the plan is shown
  pub name_shown : (j n q : ℕ) (name : Text) → slice_get planned.kept j ≡ Some n → slice_get t.shapes n ≡ Some (named_shape q name) → (m : Member) × Contains ms m × IsShownByPart t m.part q n
  name_shown j n q name stands at = names_are_shown t h ms members input planned.kept_for.marks planned.kept_for.used n q name
      (mark_there planned.kept_for.marks n (planned.kept_for.marked.among j n stands)) at

  pub name_met : (j n q : ℕ) (name : Text) → slice_get planned.kept j ≡ Some n → slice_get t.shapes n ≡ Some (named_shape q name) → Contains (places_in ms) q ⊎ Contains (homes_in ms) q
  name_met j n q name stands at = let shown = name_shown j n q name stands at in shown_met ms t shown.0 shown.1 q n shown.2

  -- the interface of a place, and the first view of it
  pub interface_there : (m q : ℕ) → slice_get (places_in ms) m ≡ Some q → (i : PlannedInterface) × (interface_in p m ≡ Some i)
      × PlansPlace t planned.kept main (home_at h) (views_of_members (numbered_members ms)) q i
  interface_there m q e = zip_at (PlansPlace t planned.kept main (home_at h) (views_of_members (numbered_members ms))) (places_in ms) p.interfaces planned.interfaces m q e

  pub first_there : (m q : ℕ) → slice_get (places_in ms) m ≡ Some q → (s : NumberedSight) × (first_at q (views_of_members (numbered_members ms)) ≡ Some s)
  first_there m q e =
      let seen = place_seen ms q (get-contains (places_in ms) m q e) in
      found_there (λ (s : NumberedSight). q == s.place) (views_of_members (numbered_members ms)) seen.0 seen.1 (ap (λ x. q == x) seen.2 ∙ same-number q)

  -- that of a place with a path has a name
  pub named_there : (m q : ℕ) → slice_get (places_in ms) m ≡ Some q → HasPath t q → has_name p m ≡ true
  named_there m q e path =
      let found = interface_there m q e in
      let first = first_there m q e in
      ap (λ o. option_map_or (λ (i : PlannedInterface). is_some i.name) o false) found.1
      ∙ ap is_some ((found.2 first.0 first.1).name ∙ ap (option_map (λ (x : ℕ × Text). x.1)) (input.homes.homes q path.0 path.1).home)

-- ---- what the page is for

module _ (t : Tables) (h : Homes) (ms : List Member) (members : List reads.Member) (input : IsInput t h ms members) (main : ℕ) (p : Plan) (planned : PlansWhole t h.packages (home_at h) main ms p) where
  abbrev places : List ℕ
  places = places_in ms

  -- ---- places and owners

  apart : (a c : ℕ) → same_owner (owners_of ms a) (owners_of ms c) ≡ true → a ≡ c
  apart = owners_apart places (homes_in ms)

  met_with_path : (a : ℕ) → HasPath t a → Contains places a ⊎ Contains (homes_in ms) a → Contains places a
  met_with_path a path x = search (std_rules, home_alone)

  interface_number : (m n : ℕ) → as_interface m ≡ as_interface n → m ≡ n
  interface_number m n e = same-some m n (ap owner_interface e)

  owned_place : (a m : ℕ) (i : PlannedInterface) → interface_in p m ≡ Some i → (pa ha : Option ℕ) → number_in places a ≡ pa
      → option_map_or as_interface pa (option_map_or as_world ha (as_interface (length places + a))) ≡ as_interface m → Contains places a
  owned_place a m i there (Some k) ha e is = get-contains places k a (number_there places a k e)
  owned_place a m i there None (Some k) e is = let wrong : as_world k ≡ as_interface m = is in absurd cc
  owned_place a m i there None None e is = search (std_rules, interface_number, slice_get_within, zip_length)

  named_owner : (a : ℕ) → HasPath t a → Contains places a → IsNamedInterface p (owners_of ms a)
  named_owner a path among =
      let given = number_given places a among in
      record {
        id = record { 0 = given.0 };
        is = ap (λ o. option_map_or as_interface o (option_map_or as_world (number_in (homes_in ms) a) (as_interface (length places + a)))) given.1;
        named = named_there t h ms members input main p planned given.0 a (number_there places a given.0 given.1) path;
      }

  outside : (a : ℕ) → HasPath t a → IsPlaceOf t planned.kept p (owners_of ms) a → IsNamedInterface p (owners_of ms a)
  outside a path (of_name j n x name e stands at) = named_owner a path (met_with_path a path (name_met t h ms members input main p planned j n a name stands at))
  outside a path (of_interface m i is there) = named_owner a path (owned_place a m i there (number_in places a) (number_in (homes_in ms) a) refl is)

  -- ---- a name of the plan

  -- what it is shown as first, and what is planned of that
  pub record IsPlannedName (n q : ℕ) (name : Text) (x : PlannedType) : Type 0 where
    pub showing : NumberedShowing
    pub first : shown_first ms n ≡ Some showing
    pub named : x.name ≡ Some name
    pub owned : x.owner ≡ owner_in places (homes_in ms) q
    pub same_id : x.external_id ≡ showing.external_id
    pub kind : DeclaresKind t planned.kept p showing.declared x.kind
    pub is : IsNameOf t q name showing.declared n

  -- a showing of the number is one of the name
  showing_is : (n q : ℕ) (name : Text) → slice_get t.shapes n ≡ Some (named_shape q name) → (y : NumberedShowing) → shown_first ms n ≡ Some y → IsNameOf t q name y.declared n
  showing_is n q name at y first =
      let found = (firsts_found (showings_of_members ms)).0 n y first in
      let is = showings_named t input.tables h ms members input y found.0 in
      let one : is.number ≡ n = (let a = is.part in let b = found.1 in omega (arith, a, b)) in
      record {
        named = at;
        behind = subst (λ k. AllOf (λ m. m < 14 + k) y.declared) one is.is.behind;
        met = subst (λ r. AllOf (IsMetFrom t r) y.declared) (name_same t.shapes is.place q is.name name is.number n is.is.named at one).0 is.is.met;
      }

  pub planned_name : (j n : ℕ) (x : PlannedType) (q : ℕ) (name : Text) → slice_get p.types j ≡ Some x → slice_get planned.kept j ≡ Some n → slice_get t.shapes n ≡ Some (named_shape q name)
      → IsPlannedName n q name x
  planned_name j n x q name e stands at =
      let found = zip_get (PlansType t planned.kept (shown_first ms) (owner_in places (homes_in ms))) planned.kept p.types planned.types j x e in
      by (subst (λ m. PlansType t planned.kept (shown_first ms) (owner_in places (homes_in ms)) m x) (same-some found.0 n (sym found.1 ∙ stands)) found.2)
    where
      by : PlansType t planned.kept (shown_first ms) (owner_in places (homes_in ms)) n x → IsPlannedName n q name x
      by (unnamed s s_at none a b c formed) = let wrong : ◌≡◌ {A = Option (ℕ × Text)} None (Some (q, name)) = sym none ∙ ap name_in (same-some s (named_shape q name) (sym s_at ∙ at)) in absurd cc
      by (named s r other y s_at is first a b c kind) =
          let same = (same-some (r, other) (q, name) (sym is ∙ ap name_in (same-some s (named_shape q name) (sym s_at ∙ at)))) in
          record {
            showing = y;
            first = first;
            named = a ∙ ap (λ (z : ℕ × Text). Some z.1) same;
            owned = b ∙ ap (λ (z : ℕ × Text). owner_in places (homes_in ms) z.0) same;
            same_id = c;
            kind = kinds_declared t input.tables _ p (zip_length (PlansType t planned.kept (shown_first ms) (owner_in places (homes_in ms))) planned.kept p.types planned.types) _ _ kind;
            is = showing_is n q name at y first;
          }

  -- what it declares
  declared_is : (n q : ℕ) (name : Text) (x : PlannedType) (is : IsPlannedName n q name x) (d : Option ℕ) → DeclaresKind t planned.kept p d x.kind → is.showing.declared ≡ d
  declared_is n q name x is d kind = kinds_tell t input.tables planned.kept p is.showing.declared d x.kind is.kind kind

  pub seen_from : (q k : ℕ) → IsMetFrom t q k → IsSeenFrom t q k
  seen_from q k met r has same = elim (met.names r has) [ inl one ↦ one | inr path ↦ sym (same_place t input.tables q r path (sym same)) ]

  pub planned_types_are_owned : AreOwned t planned.kept p (owners_of ms)
  planned_types_are_owned = record {
    apart = apart;
    outside = outside;
    owned = λ j n x q name e stands at. (planned_name j n x q name e stands at).owned ∙ owner_met places (homes_in ms) q (name_met t h ms members input main p planned j n q name stands at);
    seen = λ j n x q name d e stands at kind.
        let is = planned_name j n x q name e stands at in
        subst (AllOf (IsSeenFrom t q)) (declared_is n q name x is d kind) (if_given (IsMetFrom t q) (IsSeenFrom t q) (seen_from q) is.showing.declared is.is.met);
    used = λ j n x q name m r other e stands at kind there.
        let is = planned_name j n x q name e stands at in
        (subst (AllOf (IsMetFrom t q)) (declared_is n q name x is (Some (14 + m)) kind) is.is.met).names r (itself (14 + m) m r other refl there);
  }
