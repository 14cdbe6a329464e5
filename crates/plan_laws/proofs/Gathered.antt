-- The worlds of a plan become what worlds at the top show.
use Rattle.std.proofs.Common.{◌≡◌, sym, ap, subst, ◌∙◌, refl, ℕ, zero, suc, arith, Bool, true, List, [], ◌∷◌, filter_map, Option, Some, None, false, not, ◌==◌, cond, ◌++◌, map, option_map, slice_get, rules as std_rules, ◌+◌, inl, inr, unwrap_or}
use Rattle.std.proofs.lemmas.Option.{same_Some as same-some}
use Rattle.std.specs.{List.AllZip, List.Contains, List.cons_option, List.flat_map, Prelude.option_and_then, Option.option_map_or}
use Rattle.wit_model.specs.{Text.Text, Rules.is_id, Valid.as_interface}
use Rattle.wit_model.proofs.Elements.{none-in}
use Rattle.plan_meaning.specs.GatheredPlan.{AreChosen, SightBecomes, InterfaceAt, InterfaceBecomes, InterfacesListed, TypeListed, foreign_interface, functions_seen, interfaces_listed, under_path, SeenBecomes, WorldAt, WorldBecomes, WorldsListed, worlds_listed}
use Rattle.plan_meaning.specs.NumberedViews.{NumberedSight, Tables, IsSight, NumberedType, NumberedView, first_at, path_at, path_text}
use Rattle.plan_meaning.specs.NumberedWorlds.{HasPath, KeyStands, NumberedScope, place_of_key, NumberedSeen}
use Rattle.plan_meaning.specs.Plan.{Plan, PlannedInterface, interface_in, path_of_planned, PlannedItem, PlannedKey, PlannedWorld}
use Rattle.plan_meaning.specs.{FollowedNumbers.IsPartIn, NumberedRules.Fact, ReadFunctions.Beside, ReadWorlds.is_type_seen}
use Rattle.plan_meaning.specs.NumberedMembers.{Homes, NumberedMember, home_at, is_of_package, sights_of_members}
use Rattle.base_lemmas.proofs.Elements.{contains-later, all_at, get-contains, zip_each, zip_at}
use Rattle.plan_meaning.proofs.{Lists.no_true, NumberedMembers.only_sights, NumberedWorlds.path_is}
use Rattle.read_exports.specs.Members.{numbered_members, numbered_part}
use Rattle.read_exports.specs.declared.members.{Member.Member, Part.Part}
use Rattle.read_rules.specs.{Views.numbered_view, Scopes.numbered_key, Scopes.numbered_scope, Scopes.numbered_seen, Scopes.numbered_shown, Tables.given_text}
use Rattle.read_rules.specs.declared.{scopes.InstanceKey.InstanceKey, scopes.Scope.Scope, scopes.Seen.Seen, scopes.Shown.Shown, views.View.View}
use Rattle.plan_types.specs.PlannedTypes.{number_in}
use Rattle.plan_package.specs.{PlanWhole.PlansWhole, PlanWhole.places_in, Views.views_of_members, Views.views_of_part, WholeInterfaces.PlansPlace}
use Rattle.plan_package.specs.WholePackages.{ListsPlace, interface_in_part, interfaces_in, numbered_labels}
use Rattle.plan_package.specs.WholeWorlds.{PlansItem, PlansWorld, a_function, a_type, an_instance, planned_key, types_seen, worlds_in}
use Rattle.plan_laws.specs.{FirstViews.ViewsAreOrdered, FirstViews.told, WholeWorlds.IsUnderKey, WholeWorlds.WorldIsFollowed, WholeWorlds.WorldsAreFollowed}
use Rattle.plan_laws.specs.{ViewedInterfaces.views_read, Whole.IsPackageInput, Owners.owners_of}
use Rattle.plan_laws.specs.{WholeTypes.IsRuledInput, WholeTypes.TypesAreWhole, WorldItems.TypesAreRead, WorldItems.WorldsAreApart, WholeFunctions.beside_tables}
use Rattle.plan_laws.proofs.{ViewsAgree.views_told, ViewsAgree.first_is, ViewsAgree.view_frame, OwnPlaces.a_view, OwnPlaces.frames, OwnPlaces.one_owned}
use Rattle.plan_laws.proofs.{PlannedFunctions.functions_listed, PlannedFunctions.seen_same, Owned.first_there, Owned.interface_there, Owned.view_met}
use Rattle.plan_laws.proofs.{MetNames.flat_cases, ShownWhole.sight_viewed, ShownAlike.view_owned, InterfaceFunctions.seen_becomes}
use Rattle.plan_laws.proofs.{Viewed.planned_interfaces_are_viewed, WorldKeys.planned_worlds_stand, WorldKeys.world_member, WorldKeys.keys_differ}
use Rattle.plan_laws.proofs.Sources.{view_among, own_sight, own_there, part_at, one_owner, place_number, Side, seen_sight, side_good, side_is, sight_of, IsWorldIn, world_in, owner_numbered}
use Rattle.plan_laws.proofs.WholeTypes.{sight_of_place, packages_are_ruled, path_planned, world_among, first_whole}
use Rattle.plan_package.proofs.ReadPackageLaws.{number_at as number_there}
use Rattle.wit_model.specs.declared.model.TypeId.{TypeId}
use Rattle.plan_parts.specs.Interfaces.{AreResources}
use Rattle.comp_meaning.specs.Reads as reads
use Rattle.plan_meaning.specs.Plan as plan
use Rattle.read_exports.specs.declared.members.Part.TheVariants as parts
use Rattle.plan_meaning.specs.NumberedWorlds as worlds
use Rattle.read_rules.specs.declared.scopes.InstanceKey.TheVariants as keys
use Rattle.read_rules.specs.declared.scopes.Shown.TheVariants as shown

-- ---- The interfaces of a plan become what each view of their places tells, with the functions of the first that shows some.

-- ---- Interfaces of a plan that are gathered from views, each from one of its place.

module _ (t : Tables) (kept : List ℕ) (p : Plan) (seen : List NumberedSight) (wanted : ℕ → Bool) (pick : PlannedInterface → Option (Text × PlannedInterface)) where
  -- An interface whose place has a path and is wanted is gathered from a view of its place; any other isn't.
  pub data IsGatheredOne (q : ℕ) (i : PlannedInterface) : Type 0 where
    left_out : pick i ≡ None → (wanted q ≡ true → HasPath t q → ⊥) → IsGatheredOne q i
    gathered : (s : NumberedSight) (x : Text × PlannedInterface) → Contains seen s → s.place ≡ q → wanted s.place ≡ true → pick i ≡ Some x → SightBecomes t kept p seen s x → IsGatheredOne q i

  record AreGathered (qs : List ℕ) (is : List PlannedInterface) : Type 0 where
    chosen : List NumberedSight
    zip : AllZip (SightBecomes t kept p seen) chosen (filter_map pick is)
    among : (s : NumberedSight) → Contains chosen s → Contains seen s × (wanted s.place ≡ true)
    each : (q : ℕ) → Contains qs q → wanted q ≡ true → HasPath t q → (c : NumberedSight) × Contains chosen c × (c.place ≡ q)

  gather : (qs : List ℕ) (is : List PlannedInterface) → AllZip IsGatheredOne qs is → AreGathered qs is
  gather [] [] zip = record { chosen = []; zip = tt; among = λ s c. none-in s c; each = λ q c. none-in q c }
  gather (q ∷ qs) (i ∷ is) zip = by zip.0 (gather qs is zip.1)
    where
      by : IsGatheredOne q i → AreGathered qs is → AreGathered (q ∷ qs) (i ∷ is)
      by (left_out none out) rest = record {
        chosen = rest.chosen;
        zip = subst (AllZip (SightBecomes t kept p seen) rest.chosen) (ap (λ o. cons_option o (filter_map pick is)) (sym none)) rest.zip;
        among = rest.among;
        each = each;
      }
        where
          each : (r : ℕ) → Contains (q ∷ qs) r → wanted r ≡ true → HasPath t r → (c : NumberedSight) × Contains rest.chosen c × (c.place ≡ r)
          each r (zero, low, same) passes path = absurd (out (ap wanted same ∙ passes) (subst (HasPath t) (sym same) path))
          each r (suc j, low, same) passes path = rest.each r (j, omega (arith, low), same) passes path
      by (gathered s x c place passes found becomes) rest = record {
        chosen = s ∷ rest.chosen;
        zip = subst (AllZip (SightBecomes t kept p seen) (s ∷ rest.chosen)) (ap (λ o. cons_option o (filter_map pick is)) (sym found)) (becomes, rest.zip);
        among = among;
        each = each;
      }
        where
          among : (r : NumberedSight) → Contains (s ∷ rest.chosen) r → Contains seen r × (wanted r.place ≡ true)
          among r (zero, low, same) = (subst (Contains seen) same c, ap (λ (y : NumberedSight). wanted y.place) (sym same) ∙ passes)
          among r (suc j, low, same) = rest.among r (j, omega (arith, low), same)

          each : (r : ℕ) → Contains (q ∷ qs) r → wanted r ≡ true → HasPath t r → (d : NumberedSight) × Contains (s ∷ rest.chosen) d × (d.place ≡ r)
          each r (zero, low, same) allowed path = (s, (0, omega arith, refl), place ∙ same)
          each r (suc j, low, same) allowed path = let later = rest.each r (j, omega (arith, low), same) allowed path in (later.0, contains-later s rest.chosen later.0 later.1, later.2)
  gather _ _ zip = absurd zip

  -- All interfaces that are picked are gathered, each from one view of its place.
  pub record IsGatheredFrom (is : List PlannedInterface) : Type 0 where
    pub chosen : List NumberedSight
    pub chosen_are : AreChosen (λ s. wanted s.place) seen chosen
    pub zip : AllZip (SightBecomes t kept p seen) chosen (filter_map pick is)

  pub gathered_from : (qs : List ℕ) (is : List PlannedInterface) → AllZip IsGatheredOne qs is → ((s : NumberedSight) → Contains seen s → Contains qs s.place × HasPath t s.place) → IsGatheredFrom is
  gathered_from qs is zip met =
      let all = gather qs is zip in
      record { chosen = all.chosen; chosen_are = record { among = all.among; each = λ s c passes. (let there = met s c in all.each s.place there.0 passes there.1) }; zip = all.zip }

-- ---- the interfaces of a plan become what each view of their places tells, with the functions of the first that shows some

-- what is told of types alone says what they become
told_listed : (t : Tables) (kept : List ℕ) (p : Plan) (xs ys : List NumberedType) (es : List (Text × ℕ)) → map told xs ≡ map told ys → AllZip (TypeListed t kept p) xs es
    → AllZip (TypeListed t kept p) ys es
told_listed t kept p [] [] es e zip = zip
told_listed t kept p (x ∷ xs) (y ∷ ys) [] e zip = absurd zip
told_listed t kept p (x ∷ xs) (y ∷ ys) (z ∷ zs) e zip = search (std_rules, told_listed t kept p xs ys zs (cc) zip.1)
told_listed t kept p _ _ es e zip = let wrong : ⊥ = cc in absurd wrong

module _ (t : Tables) (h : Homes) (known : ℕ → Fact) (n : ℕ) (ms : List Member) (members : List reads.Member) (given : IsPackageInput t h known n ms members) (ordered : ViewsAreOrdered t ms)
    (p : Plan) (planned : PlansWhole t h.packages (home_at h) n ms p) (b : Beside) (owned : b.owners ≡ owners_of ms) where
  abbrev places : List ℕ
  places = places_in ms

  abbrev views : List NumberedSight
  views = views_of_members (numbered_members ms)

  abbrev sights : List NumberedSight
  sights = sights_of_members t (numbered_members ms)

  ruled : IsRuledInput t h ms members
  ruled = packages_are_ruled t h known n ms members given

  -- ---- an interface, by any view of it

  types_listed : (k q : ℕ) → slice_get places k ≡ Some q → (i : PlannedInterface) → interface_in p k ≡ Some i → (first : NumberedSight) → first_at q views ≡ Some first
      → AllZip (TypeListed t planned.kept p) first.view.types i.types
  types_listed k q at i there first is_first =
      let viewed = planned_interfaces_are_viewed t h ms members given.input given.alone ruled.agree ordered n p planned b owned k i there in
      subst (λ xs. AllZip (TypeListed t planned.kept p) xs i.types) (ap (λ (v : NumberedView). v.types)
      (sym (ap (views_read ms) (sym (one_owner ms b owned viewed.read.place q (as_interface k) viewed.read.owned (ap (λ f. f q) owned ∙ owner_numbered ms q k (place_number ms k q at))))
      ∙ viewed.viewed)) ∙ ap (λ o. option_map_or (λ (s : NumberedSight). s.view.types) o []) is_first) viewed.types

  interface_by : (u : NumberedSight) → Contains views u → (k : ℕ) → number_in places u.place ≡ Some k → (i : PlannedInterface) → interface_in p k ≡ Some i
      → InterfaceBecomes t planned.kept p u.view (functions_seen u.place views) i
  interface_by u c k number i there =
      let at = number_there places u.place k number in
      let first = first_there t h ms members given.input n p planned k u.place at in
      let is = first_is u.place views first.0 first.1 in
      record {
        types = told_listed t planned.kept p first.0.view.types u.view.types i.types (views_told t h ms members given.input ruled.agree ordered first.0 u is.0 c is.1)
            (types_listed k u.place at i there first.0 first.1);
        functions = functions_listed t h known n ms members given p planned b owned k u.place at i there;
      }

  pub interface_at : (u : NumberedSight) → Contains views u → (k : ℕ) → number_in places u.place ≡ Some k → InterfaceAt t planned.kept p u.view (functions_seen u.place views) k
  interface_at u c k number =
      let found = interface_there t h ms members given.input n p planned k u.place (number_there places u.place k number) in
      record { interface = found.0; stands = found.1; becomes = interface_by u c k number found.0 found.1 }

  -- the path of an interface of the plan
  pub path_same : (q k : ℕ) → number_in places q ≡ Some k → plan.path_at p k ≡ path_at t q
  path_same q k number =
      let at = number_there places q k number in
      let found = interface_there t h ms members given.input n p planned k q at in
      let first = first_there t h ms members given.input n p planned k q at in
      let made = found.2 first.0 first.1 in
      ap (option_and_then (path_of_planned p)) found.1 ∙ path_planned t h ms members ruled n p planned found.0 q (home_at h q) made.name made.package_ refl (path_at t q) refl

  -- ---- the interfaces at the top

  exported_listed : (xs : List Member) → ((m : Member) → Contains xs m → Contains ms m) → (es : List (Text × ℕ)) → AllZip (ListsPlace places) (interfaces_in xs) es
      → AllZip (InterfacesListed t planned.kept p sights) (interfaces_listed (numbered_members xs)) es
  exported_listed [] among es zip = zip
  exported_listed (m ∷ xs) among es zip = by m.part refl es zip (exported_listed xs (λ y c. among y (contains-later m xs y c)))
    where
      by : (a : Part) → m.part ≡ a → (es : List (Text × ℕ)) → AllZip (ListsPlace places) (interface_in_part m.label.now a ++ interfaces_in xs) es
          → ((fs : List (Text × ℕ)) → AllZip (ListsPlace places) (interfaces_in xs) fs → AllZip (InterfacesListed t planned.kept p sights) (interfaces_listed (numbered_members xs)) fs)
          → AllZip (InterfacesListed t planned.kept p sights) (interfaces_listed (record { label = m.label.now; package_ = m.package_number; part = numbered_part a } ∷ numbered_members xs)) es
      by (parts.World w) is es zip more = more es zip
      by (parts.Interface q v imports) is [] zip more = absurd zip
      by (parts.Interface q v imports) is (e ∷ es) zip more =
          let here = among m (0, omega arith, refl) in
          let s = own_sight q v imports in
          let viewed : Contains views s = view_among ms m here s (subst (λ a. Contains (views_of_part (numbered_part a)) s) (sym is) (own_there q v imports)) in
          let path : HasPath t q = (subst (λ a. IsPartIn t (numbered_part a)) is (part_at t ms given.input.numbers m here)).0.0 in (
            record { name = zip.0.0; there = subst (λ fs. InterfaceAt t planned.kept p (numbered_view v) fs e.1) (seen_same t q path (numbered_members ms)) (interface_at s viewed e.1 zip.0.1) },
            more es zip.1,
          )

  pub top_listed : (es : List (Text × ℕ)) → AllZip (ListsPlace places) (interfaces_in ms) es → AllZip (InterfacesListed t planned.kept p sights) (interfaces_listed (numbered_members ms)) es
  top_listed es zip = exported_listed ms (λ m c. c) es zip

  -- ---- those with a path

  -- Views with a path, one at least of each place that is wanted, which show the functions that all views of their places do.
  pub record ShowPlaces (wanted : ℕ → Bool) (seen : List NumberedSight) : Type 0 where
    pub among : (s : NumberedSight) → Contains seen s → Contains sights s
    pub met : (q : ℕ) → Contains places q → wanted q ≡ true → HasPath t q → (s : NumberedSight) × Contains seen s × (s.place ≡ q)
    pub functions : (s : NumberedSight) → Contains seen s → functions_seen s.place sights ≡ functions_seen s.place seen

  module _ (wanted : ℕ → Bool) (leaves : PlannedInterface → Bool) (told : (k q : ℕ) → slice_get places k ≡ Some q → HasPath t q → (i : PlannedInterface) → interface_in p k ≡ Some i
      → leaves i ≡ not (wanted q)) (seen : List NumberedSight) (show : ShowPlaces wanted seen) where
    abbrev pick : PlannedInterface → Option (Text × PlannedInterface)
    pick i = cond (leaves i) None (under_path p i)

    one_gathered : (k q : ℕ) → slice_get places k ≡ Some q → (i : PlannedInterface) → interface_in p k ≡ Some i → (IsGatheredOne t planned.kept p seen wanted pick) q i
    one_gathered k q at i there = by (path_at t q) refl
      where
        number : number_in places q ≡ Some k
        number = place_number ms k q at

        planned_path : path_of_planned p i ≡ path_at t q
        planned_path = ap (option_and_then (path_of_planned p)) (sym there) ∙ path_same q k number

        no_path : path_at t q ≡ None → (c : Bool) → cond c None (under_path p i) ≡ None
        no_path none true = refl
        no_path none false = ap (option_map (λ (path : Text). (path, i))) (planned_path ∙ none)

        with_path : (path : Text) → path_at t q ≡ Some path → (c : Bool) → wanted q ≡ c → (IsGatheredOne t planned.kept p seen wanted pick) q i
        with_path path e false other = left_out (ap (λ c. cond c None (under_path p i)) (told k q at (path, e) i there ∙ ap not other)) (λ passes given_path. no_true (sym other ∙ passes))
        with_path path e true passes =
            let view = show.met q (get-contains places k q at) passes (path, e) in
            let s = view.0 in
            gathered s (path, i) view.1 view.2 (ap wanted view.2 ∙ passes) (ap (λ c. cond c None (under_path p i)) (told k q at (path, e) i there ∙ ap not passes)
            ∙ ap (option_map (λ (y : Text). (y, i))) (planned_path ∙ e)) (
              (ap (path_text t) view.2 ∙ path_is t q (path, e)),
              subst (λ fs. InterfaceBecomes t planned.kept p s.view fs i) (seen_same t s.place (path, ap (path_at t) view.2 ∙ e) (numbered_members ms) ∙ show.functions s view.1)
                  (interface_by s (sight_viewed t (numbered_members ms) s (show.among s view.1)) k (ap (number_in places) view.2 ∙ number) i there),
            )

        by : (o : Option Text) → path_at t q ≡ o → (IsGatheredOne t planned.kept p seen wanted pick) q i
        by None e = left_out (no_path e (leaves i)) (λ passes path. let wrong : None ≡ Some path.0 = sym e ∙ path.1 in absurd cc)
        by (Some path) e = with_path path e (wanted q) refl

    -- the place of such a view is met, and has a path
    seen_met : (s : NumberedSight) → Contains seen s → Contains places s.place × HasPath t s.place
    seen_met s c =
        let from = flat_cases (λ (m : NumberedMember). views_of_part m.part) (numbered_members ms) s (sight_viewed t (numbered_members ms) s (show.among s c)) in
        let is = all_at (IsSight t) sights (only_sights t known sights given.sights) s (show.among s c) in
        (view_met ms from.0 from.1 s from.2, (is.path, is.home))

    pub all_gathered : IsGatheredFrom t planned.kept p seen wanted pick p.interfaces
    all_gathered = gathered_from t planned.kept p seen wanted pick places p.interfaces
        (zip_each (PlansPlace t planned.kept n (home_at h) views) (IsGatheredOne t planned.kept p seen wanted pick) places p.interfaces planned.interfaces
        (λ k q i at there. one_gathered k q at i there)) seen_met

  -- ---- those of other packages

  abbrev is_other : ℕ → Bool
  is_other q = cond (is_of_package h n q) false true

  -- an interface is left out where it is one of the package itself
  other_told : (k q : ℕ) → slice_get places k ≡ Some q → HasPath t q → (i : PlannedInterface) → interface_in p k ≡ Some i → is_id p.main i.package_ ≡ not (is_other q)
  other_told k q at path i there =
      let home = given.input.homes.homes q path.0 path.1 in
      let found = interface_there t h ms members given.input n p planned k q at in
      let first = first_there t h ms members given.input n p planned k q at in
      (ap (is_id p.main) (ap (λ (x : PlannedInterface). x.package_) (same-some i found.0 (sym there ∙ found.1))
      ∙ ((found.2 first.0 first.1).package_ ∙ ap (λ o. Some (option_map_or (λ (x : ℕ × Text). x.0) o n)) home.home)) ∙ ap (λ m. home.package_ == m) planned.main)
      ∙ (twice (home.package_ == n) ∙ ap (λ c. not (cond c false true)) (sym (ap (λ o. option_map_or (λ (x : ℕ × Text). x.0 == n) o false) home.home)))
    where
      twice : (c : Bool) → c ≡ not (cond c false true)
      twice true = refl
      twice false = refl

  pub foreign_gathered : IsGatheredFrom t planned.kept p sights is_other (foreign_interface p) p.interfaces
  foreign_gathered = all_gathered is_other (λ (i : PlannedInterface). is_id p.main i.package_) other_told sights
      (record { among = λ s c. c; met = λ q c passes path. sight_of_place t ms q c path; functions = λ s c. refl })

-- ---- what the page is for

zip_mapped : {A B C : Type 0} (P : A → B → Type 0) (Q : C → B → Type 0) (f : A → C) (xs : List A) → ((x : A) → Contains xs x → (y : B) → P x y → Q (f x) y) → (ys : List B) → AllZip P xs ys
    → AllZip Q (map f xs) ys
zip_mapped P Q f [] each [] zip = tt
zip_mapped P Q f (x ∷ xs) each (y ∷ ys) zip = (each x (0, omega arith, refl) y zip.0, zip_mapped P Q f xs (λ z c. each z (contains-later x xs z c)) ys zip.1)
zip_mapped _ _ f _ each _ zip = absurd zip

module _ (t : Tables) (h : Homes) (known : ℕ → Fact) (n : ℕ) (ms : List Member) (members : List reads.Member) (given : IsPackageInput t h known n ms members) (ordered : ViewsAreOrdered t ms)
    (apart : WorldsAreApart ms) (under : WorldsAreFollowed t ms) (p : Plan) (planned : PlansWhole t h.packages (home_at h) n ms p) (whole : TypesAreWhole t planned.kept ms p) where
  abbrev b : Beside
  b = beside_tables known whole.marks.marks ms

  -- ---- a world

  module _ (m : Member) (c : Contains ms m) (w : Scope) (is : m.part ≡ parts.World w) (find : Text → Option TypeId) where
    of : IsWorldIn t h ms members given.input w
    of = world_in t h ms members given.input m c w is

    keys_there : WorldIsFollowed t (numbered_scope w)
    keys_there = all_at (λ (x : Text × Scope). WorldIsFollowed t (numbered_scope x.1)) (worlds_in ms) under (m.label.now, w) (world_among ms m c w is)

    -- ---- instances

    abbrev view_at : ℕ → View → NumberedSight
    view_at q v = record { place = q; view = numbered_view v; whole = true }

    -- an inline interface has the functions of its one view
    inline_functions : (q : ℕ) (v : View) → Contains (views_of_members (numbered_members ms)) (view_at q v) → path_at t q ≡ None
        → functions_seen q (views_of_members (numbered_members ms)) ≡ (numbered_view v).functions
    inline_functions q v viewed none =
        let first = first_whole q (views_of_members (numbered_members ms)) (view_at q v) viewed refl refl in
        let first_frame = subst (λ r. Contains (frames (numbered_members ms)) (r, a_view first.sight.view)) first.place
        (view_frame t h ms members given.input given.placed.apart first.sight first.among (ap (path_at t) first.place ∙ none)) in
        let own_frame = view_frame t h ms members given.input given.placed.apart (view_at q v) viewed none in
        let one = one_owned t (numbered_members ms) given.placed.apart q none (a_view first.sight.view) (a_view (numbered_view v)) first_frame own_frame in
        first.functions ∙ ap (λ x. (view_owned (numbered_view v) x).functions) one

    instance_becomes : (s : Seen) → Side w s → (key : InstanceKey) (v : View) → s.shown ≡ shown.Instance key v → (number : ℕ) → number_in (places_in ms) (place_of_key (numbered_key key)) ≡ Some number
        → SeenBecomes t planned.kept p (numbered_seen s) (planned_key (numbered_key key) number, plan.interface number (given_text s.external_id))
    instance_becomes s side key v shows number found =
        subst (λ (x : Shown). SeenBecomes t planned.kept p (record { key = s.key.now; shown = numbered_shown x; external_id = given_text s.external_id })
        (planned_key (numbered_key key) number, plan.interface number (given_text s.external_id))) (sym shows)
        (by key found (side_good w t of.good s side (shown.Instance key v) shows).0
        (subst (λ (x : Shown). IsUnderKey t s.key.now (numbered_shown x)) shows (side_is w (λ (x : NumberedSeen). IsUnderKey t x.key x.shown) keys_there.imports keys_there.exports s side))
        (seen_sight t ms m c w is of.good s side key v shows))
      where
        path_there : (q : ℕ) → number_in (places_in ms) q ≡ Some number → HasPath t q → plan.path_at p number ≡ Some (path_text t q)
        path_there q at path = path_same t h known n ms members given ordered p planned b refl q number at ∙ (path.1 ∙ ap Some (sym (path_is t q path)))

        by : (k : InstanceKey) → number_in (places_in ms) (place_of_key (numbered_key k)) ≡ Some number → KeyStands t (numbered_key k)
            → IsUnderKey t s.key.now (worlds.instance (numbered_key k) (numbered_view v)) → Contains (views_of_members (numbered_members ms)) (sight_of k v)
            → SeenBecomes t planned.kept p (record { key = s.key.now; shown = worlds.instance (numbered_key k) (numbered_view v); external_id = given_text s.external_id })
            (planned_key (numbered_key k) number, plan.interface number (given_text s.external_id))
        by (keys.Path q) at stands text viewed = (ap (λ o. unwrap_or o []) (path_there q at stands) ∙ sym text, (refl, path_there q at stands))
        by (keys.Implementing l q) at stands text viewed = (sym text.0, (refl, path_there q at stands))
        by (keys.Label l q) at stands text viewed =
            let path = path_same t h known n ms members given ordered p planned b refl q number at ∙ stands in
            let there = interface_at t h known n ms members given ordered p planned b refl (view_at q v) viewed number at in
            (sym text.0, (refl, (path, subst (λ fs. InterfaceAt t planned.kept p (numbered_view v) fs number) (inline_functions q v viewed stands) there)))

    -- ---- items

    module _ (have : AreResources planned.kept (flat_map types_seen w.imports.now) find) (types : TypesAreRead t ms planned.kept p b w) where
      item_becomes : (s : Seen) → Side w s → (e : PlannedKey × PlannedItem) → PlansItem t planned.kept (places_in ms) find s e → SeenBecomes t planned.kept p (numbered_seen s) e
      item_becomes s side e (an_instance key v shows made) = subst (SeenBecomes t planned.kept p (numbered_seen s)) (sym made.is) (instance_becomes s side key v shows made.number made.found)
      item_becomes s side e (a_function f shows key made) = subst (SeenBecomes t planned.kept p (numbered_seen s)) (sym (λ i. (key i, made.is i)))
          (subst (λ (x : Shown). SeenBecomes t planned.kept p (record { key = s.key.now; shown = numbered_shown x; external_id = given_text s.external_id })
          (plan.label s.key.now, plan.function made.function)) (sym shows) (
            refl,
            seen_becomes t h ms members (packages_are_ruled t h known n ms members given) n p planned whole known m c w is b refl find have s side f shows made.function made.planned,
          ))
      item_becomes s (inl among) e (a_type part d k shows entry is_part) = subst (SeenBecomes t planned.kept p (numbered_seen s)) (sym entry)
          (subst (λ (x : Shown). SeenBecomes t planned.kept p (record { key = s.key.now; shown = numbered_shown x; external_id = given_text s.external_id }) (plan.label s.key.now, plan.declares k))
          (sym shows) (refl, (types s among part d shows k is_part).3))
      item_becomes s (inr among) e (a_type part d k shows entry is_part) = no_true (sym (all_at _ _ of.none s among) ∙ ap (λ z. is_type_seen (numbered_shown z)) shows)

      pub world_becomes : (x : PlannedWorld) → AllZip (PlansItem t planned.kept (places_in ms) find) w.imports.now x.imports
          → AllZip (PlansItem t planned.kept (places_in ms) find) w.exports.now x.exports → WorldBecomes t planned.kept p (numbered_scope w) x
      world_becomes x imports exports = record {
        imports = zip_mapped (PlansItem t planned.kept (places_in ms) find) (SeenBecomes t planned.kept p) numbered_seen w.imports.now (λ s among e item. item_becomes s (inl among) e item)
            x.imports imports;
        exports = zip_mapped (PlansItem t planned.kept (places_in ms) find) (SeenBecomes t planned.kept p) numbered_seen w.exports.now (λ s among e item. item_becomes s (inr among) e item)
            x.exports exports;
      }

  -- ---- all worlds

  pub world_at : (j : ℕ) (w : Text × Scope) → slice_get (worlds_in ms) j ≡ Some w → WorldAt t planned.kept p (numbered_scope w.1) j
  world_at j w at =
      let x = zip_at (PlansWorld t planned.kept (places_in ms) n) (worlds_in ms) p.worlds planned.worlds j w at in
      let m = world_member ms w (get-contains (worlds_in ms) j w at) in
      let stands = planned_worlds_stand t h ms members given.input (packages_are_ruled t h known n ms members given).agree ordered apart n p planned b refl j w at in
      let types = stands.types (keys_differ t h ms members given.input given.placed.apart w.1 (world_in t h ms members given.input m.0 m.1 w.1 m.2)) in
      record { world = x.0; stands = x.1; becomes = world_becomes m.0 m.1 w.1 m.2 x.2.find x.2.resources types x.0 x.2.imports x.2.exports }

  abbrev entry : Text × Scope → Text × NumberedScope
  entry w = (w.0, numbered_scope w.1)

  labels_listed : (j : ℕ) (ws : List (Text × Scope)) → ((i : ℕ) (w : Text × Scope) → slice_get ws i ≡ Some w → WorldAt t planned.kept p (numbered_scope w.1) (j + i))
      → AllZip (WorldsListed t planned.kept p) (map entry ws) (numbered_labels j ws)
  labels_listed j [] each = tt
  labels_listed j (w ∷ ws) each =
      let here : j + 0 ≡ j = omega arith in (
        record { name = refl; there = subst (WorldAt t planned.kept p (numbered_scope w.1)) here (each 0 w refl) },
        labels_listed (j + 1) ws (λ i v at. (let next : j + suc i ≡ j + 1 + i = omega arith in subst (WorldAt t planned.kept p (numbered_scope v.1)) next (each (suc i) v at))),
      )

  listed_are : (xs : List Member) → worlds_listed (numbered_members xs) ≡ map entry (worlds_in xs)
  listed_are [] = refl
  listed_are (m ∷ xs) = search (std_rules, listed_are xs)

  pub worlds_are_listed : AllZip (WorldsListed t planned.kept p) (worlds_listed (numbered_members ms)) (numbered_labels 0 (worlds_in ms))
  worlds_are_listed = search (std_rules, listed_are, labels_listed, world_at)
