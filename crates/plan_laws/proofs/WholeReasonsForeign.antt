-- Each interface of another package is shown by a world, or imported by the component type of an interface.
use Rattle.plan_type_laws.proofs.{UsedParts.has_form, FirstFound.firsts_found, ShownRules.mark_there}
use Rattle.std.proofs.Common.{rules as std_rules, ◌≡◌, refl, sym, ap, subst, ◌∙◌, ℕ, zero, suc, ◌+◌, ◌⊎◌, inl, inr, arith, Bool, true, false, cond, List, [], ◌∷◌, ◌++◌, length, map, Option, Some, None, slice_get, filter, ◌==◌}
use Rattle.std.proofs.lemmas.{List.Elements.Contains-append_cases, List.Elements.Contains-append_left, Option.slice_get_within, Option.same_Some as same-some}
use Rattle.std.proofs.lemmas.{Slice.Zip.AllZip-long as zip_length, Bool.eq-eqb}
use Rattle.std.specs.{Prelude.is_some, Prelude.unwrap_or, List.Contains, List.flat_map, List.AllByRecursion, Option.option_map_or, Borrow.Bor}
use Rattle.wit_model.specs.declared.model.TypeOwner.{TypeOwner}
use Rattle.wit_model.specs.{Uses.has, Valid.as_interface, Valid.as_world, Text.Text}
use Rattle.wit_model.proofs.Elements.{contains-flat, contains-has, has-contains, none-in}
use Rattle.read_homes.specs.Homes.{HasPlace}
use Rattle.plan_meaning.specs.GatheredPlan.{DeclaresKind, a_form, a_name, a_resource}
use Rattle.plan_meaning.specs.NumberedMembers.{Homes, home_at, world, NumberedMember, is_of_package, sights_of_members, sights_of_part}
use Rattle.plan_meaning.specs.{ReadFunctions.Beside, ReadFunctions.FunctionsAreRead, Shapes.IsShape, Shapes.Shape, Shapes.named_shape, Shapes.node_shape}
use Rattle.plan_meaning.specs.{NumberedViews.Tables, NumberedViews.path_at, NumberedViews.NumberedSight, NumberedViews.NumberedView, ReadPlans.IsReadPlan}
use Rattle.plan_meaning.specs.Plan.{Plan, PlannedPackage, PlannedType, package_in, PlannedInterface, interface_in}
use Rattle.plan_meaning.specs.NumberedRules.{Fact, is_form, name_in, shape_at}
use Rattle.plan_meaning.specs.ReadWholes.{HasHomes, IsKeptForReasons, IsPartOfKept, of_type, IsSeenFor, IsShownByWorld, IsViewOf, in_member, in_world}
use Rattle.plan_meaning.specs.FollowedNumbers.{IsOneOf, IsScopeIn}
use Rattle.plan_meaning.specs.NumberedWorlds.{NumberedInstance, NumberedScope, NumberedSeen, NumberedShown, Shows, are_once, instance, place_of_key, HasPath, sights_of_instance}
use Rattle.plan_meaning.proofs.{Lists.no_true, NumberedRules.no_name, NumberedRules.shape_there, ReadLists.never}
use Rattle.plan_parts.specs.{Kinds.shape_form, Marks.IsUsed, Marks.is_marked, Marks.marked, Marks.part}
use Rattle.plan_parts.proofs.DeclaredKinds.{parts_become}
use Rattle.read_exports.specs.declared.members.{Member.Member, Part.Part}
use Rattle.plan_types.specs.PlannedTypes.{PlansType, named, number_in, unnamed}
use Rattle.plan_types.specs.Showings.{NumberedShowing, showings_of_members, signatures_of_members}
use Rattle.plan_types.specs.Used.{declared_parts, form_parts, function_parts, showing_parts, used_parts}
use Rattle.plan_package.specs.{PlanWhole.PlansWhole, PlanWhole.owners_in, PlanWhole.places_in, PlanWhole.shown_first, WholeInterfaces.PlansPlace}
use Rattle.plan_package.specs.Views.{types_alone, views_of_members, views_of_part, whole_view}
use Rattle.plan_laws.specs.{Owners.homes_in, Owners.owners_of, WholeReasons.AreShownAlike, WholeReasons.HavePlaces}
use Rattle.plan_laws.specs.{Whole.IsPackageInput, WholeReasonsForeign.HasForeignReasons, WholeReasonsForeign.IsShownWhole, WholeReasonsForeign.PartIsReached}
use Rattle.plan_laws.proofs.{MetNames.flat_cases, OwnPlaces.all_inline, OwnPlaces.inline_many, OwnPlaces.inline_seen, OwnPlaces.no_path, OwnPlaces.places_are}
use Rattle.plan_laws.proofs.{ShownRules.IsNamed, ShownRules.showings_named, WholeTypes.by_function, WholeTypes.interface_home, WholeTypes.sight_of_place}
use Rattle.plan_laws.proofs.Sources.{number_given, all_of, at_mapped, import_there, interface_views, mapped_cases, own_sight, own_there, owner_numbered, place_number, one_owner}
use Rattle.plan_laws.proofs.Owned.{planned_name, interface_there, path_given, view_met}
use Rattle.base_lemmas.proofs.Elements.{last_of as one-contained, zip_at, zip_at_right as zip_get, all_at, contains-map, filter_kept, map_from as from_map, get-contains}
use Rattle.base_lemmas.proofs.Lists.{get_back as unmapped_get, length_of_map}
use Rattle.plan_package.proofs.ReadPackageLaws.{number_at as number_there}
use Rattle.comp_meaning.specs.Follow.{Scope as FollowedScope}
use Rattle.read_shown.specs.Instances.{InstancesAreSeen}
use Rattle.plan_type_laws.specs.ShownMarks.{has_no_path, places_of_seen, places_of_shown, places_of_part}
use Rattle.read_exports.specs.Members.{numbered_member, numbered_members, numbered_part}
use Rattle.read_rules.specs.{Reached.numbered_import, Scopes.numbered_scope, Views.numbered_view}
use Rattle.read_rules.specs.declared.{reached.ImportedView.ImportedView, scopes.Scope.Scope, views.View.View}
use Rattle.comp_meaning.specs.Reads as reads
use Rattle.plan_meaning.specs.Shapes as shapes
use Rattle.read_exports.specs.declared.members.Part.TheVariants as parts

-- ---- Each instance of a world whose place has no path is one that is imported or exported.

-- ---- Unnamed types stand in a plan as parts of others or of functions, and packages for the places whose homes they are.

pub there_marked : (marks : List Bool) (n : ℕ) → is_marked marks n ≡ true → slice_get marks n ≡ Some true
there_marked [] n e = no_true e
there_marked (b ∷ marks) zero e = ap Some e
there_marked (b ∷ marks) (suc n) e = there_marked marks n e

module _ (t : Tables) (h : Homes) (known : ℕ → Fact) (n : ℕ) (ms : List Member) (members : List reads.Member) (given : IsPackageInput t h known n ms members) (alike : AreShownAlike ms) (p : Plan)
    (planned : PlansWhole t h.packages (home_at h) n ms p) (b : Beside) (read : FunctionsAreRead t planned.kept p b) where
  abbrev Kept : ℕ → Type 0
  Kept old = IsPartOfKept t h planned.kept p b old

  abbrev Used : ℕ → Type 0
  Used k = IsUsed (map (λ (s : Shape). s.parts) t.shapes) planned.kept_for.used.roots k

  abbrev Type_ : ℕ → PlannedType → Type 0
  Type_ = PlansType t planned.kept (shown_first ms) (owners_in ms)

  -- the type of the plan for one that is used
  pub record HasType (k : ℕ) : Type 0 where
    pub number : ℕ
    pub stands : slice_get planned.kept number ≡ Some k
    pub type_ : PlannedType
    pub there : slice_get p.types number ≡ Some type_
    pub planned_as : Type_ k type_

  used_type : (k : ℕ) → Used k → HasType k
  used_type k used =
      let j = planned.kept_for.marked.stand k (there_marked planned.kept_for.marks k ((planned.kept_for.used.marked k).1 used)) in
      let x = zip_at Type_ planned.kept p.types planned.types j.0 k j.1 in
      record { number = j.0; stands = j.1; type_ = x.0; there = x.1; planned_as = x.2 }

  -- ---- parts of forms

  inside : (m k : ℕ) (s : Shape) → slice_get t.shapes m ≡ Some s → Contains s.parts k → HasType m → Kept k
  inside m k s at c has = by has.planned_as
    where
      by : Type_ m has.type_ → Kept k
      by (unnamed r r_at none a d e formed) = of_type has.number has.type_ (shape_form r) r.parts formed.news has.there formed.is
          (parts_become t given.input.tables planned.kept p (zip_length Type_ planned.kept p.types planned.types) r.parts formed.news formed.parts)
          (subst (λ (x : Shape). Contains x.parts k) (sym (same-some r s (sym r_at ∙ at))) c)
      by (named r q name y r_at is first a d e kind) = of_shape (given.input.tables.shapes.each m s at)
        where
          of_shape : IsShape m s → Kept k
          of_shape (shapes.a_name place other f) = none-in k (subst (λ (x : Shape). Contains x.parts k) f c)
          of_shape (shapes.a_node form parts f low) = no_true (ap is_some (sym (ap name_in (same-some r _ (sym r_at ∙ (at ∙ ap Some f)))
              ∙ ap (λ (x : Bool). cond x (Some ((node_shape form parts).number, shapes.first_label (node_shape form parts).labels)) None) (no_name form)) ∙ is))

  -- ---- parts of what names are declared as

  in_form : (m k o : ℕ) (x : PlannedType) (j : ℕ) → slice_get p.types j ≡ Some x → DeclaresKind t planned.kept p (Some o) x.kind → is_form t o ≡ true → Contains (form_parts t o) k → Kept k
  in_form m k o x j there (a_resource none is) form c = no_true (ap is_some (sym none))
  in_form m k o x j there (a_name old new d fails becomes is) form c = no_true (sym (ap (is_form t) (same-some o old d) ∙ fails) ∙ form)
  in_form m k o x j there (a_form old i form olds news d is at zip kind) is_one c =
      let same : shape_at t o ≡ Some (node_shape form olds) = ap (shape_at t) (same-some o old d) ∙ shape_there t old i (node_shape form olds) is at in
      of_type j x form olds news there kind zip (subst (λ (s : Option Shape). Contains (option_map_or (λ (y : Shape). y.parts) s []) k) same c)

  by_showing : (k : ℕ) (s : Shape) → slice_get t.shapes k ≡ Some s → name_in s ≡ None → (y : NumberedShowing) → Contains (showings_of_members ms) y → Contains (showing_parts t y) (14 + k)
      → Kept (14 + k)
  by_showing k s at none y among c = elim (Contains-append_cases (y.part ∷ []) (declared_parts t y.declared) (14 + k) c) [
    | inl first ↦ (let one : is.number ≡ k = (let a = is.part in omega (arith, a, (one-contained y.part (14 + k) first))) in
        no_true (ap is_some (sym none ∙ ap name_in (sym (same-some (named_shape is.place is.name) s (sym is.is.named ∙ (ap (slice_get t.shapes) one ∙ at)))))))
    | inr later ↦ of_declared y.declared refl later
  ]
    where
      is : IsNamed t given.input.tables y
      is = showings_named t given.input.tables h ms members given.input y among

      root : Used is.number
      root = marked is.number (planned.kept_for.used.shown is.number (slice_get_within _ _ _ is.is.named)
          ∙ contains-has _ _ (subst (Contains (used_parts t (showings_of_members ms) (signatures_of_members ms))) is.part
          (Contains-append_left _ _ _ (contains-flat (showing_parts t) (showings_of_members ms) y y.part among (0, omega arith, refl)))))

      declared_as : (o : ℕ) → y.declared ≡ Some o → (f : Bool) → is_form t o ≡ f → Contains (cond f (form_parts t o) (o ∷ [])) (14 + k) → Kept (14 + k)
      declared_as o d false e there = no_true (sym e ∙ (ap (is_form t) (one-contained o (14 + k) there) ∙ has_form t given.input.tables k s at none (14 + k) refl))
      declared_as o d true e there =
          let type_ = used_type is.number root in
          let name = planned_name t h ms members given.input n p planned type_.number is.number type_.type_ is.place is.name type_.there type_.stands is.is.named in
          let found = (firsts_found (showings_of_members ms)).0 is.number name.showing name.first in
          let same : name.showing.declared ≡ Some o = alike.types name.showing y found.0 among (found.1 ∙ sym is.part) ∙ d in
          in_form is.number (14 + k) o type_.type_ type_.number type_.there (subst (λ (x : Option ℕ). DeclaresKind t planned.kept p x type_.type_.kind) same name.kind) e there

      of_declared : (d : Option ℕ) → y.declared ≡ d → Contains (declared_parts t d) (14 + k) → Kept (14 + k)
      of_declared None e there = none-in (14 + k) there
      of_declared (Some o) e there = declared_as o e (is_form t o) refl there

  -- ---- all that is used

  by_root : (k : ℕ) (s : Shape) → slice_get t.shapes k ≡ Some s → name_in s ≡ None → Contains (used_parts t (showings_of_members ms) (signatures_of_members ms)) (14 + k) → Kept (14 + k)
  by_root k s at none c = elim (Contains-append_cases (flat_map (showing_parts t) (showings_of_members ms)) (flat_map (function_parts t) (signatures_of_members ms)) (14 + k) c) [
    | inl among ↦ (let y = flat_cases (showing_parts t) (showings_of_members ms) (14 + k) among in by_showing k s at none y.0 y.1 y.2)
    | inr among ↦ (let f = flat_cases (function_parts t) (signatures_of_members ms) (14 + k) among in by_function t h known n ms members given alike p planned b read (14 + k) f.0 f.1 f.2)
  ]

  by_used : (k : ℕ) (s : Shape) → slice_get t.shapes k ≡ Some s → name_in s ≡ None → Used k → Kept (14 + k)
  by_used k s at none (marked i is) = by_root k s at none (has-contains _ _ (sym (planned.kept_for.used.shown k (slice_get_within _ k s at)) ∙ is))
  by_used k s at none (part m i ks before there c) =
      let shape = unmapped_get (λ (x : Shape). x.parts) t.shapes m ks there in
      inside m (14 + k) shape.0 shape.1 (subst (λ ps. Contains ps (14 + k)) (sym shape.2) c) (used_type m before)

  types_kept : (j k : ℕ) (x : PlannedType) → slice_get p.types j ≡ Some x → slice_get planned.kept j ≡ Some k → x.name ≡ None → Kept (14 + k)
  types_kept j k x there stands none =
      let from = zip_get Type_ _ _ planned.types j x there in
      by ((planned.kept_for.used.marked k).0 (mark_there _ k (planned.kept_for.marked.among j k stands))) (subst (λ m. Type_ m x) (same-some from.0 k (sym from.1 ∙ stands)) from.2)
    where
      by : Used k → Type_ k x → Kept (14 + k)
      by used (unnamed s at no_name a d e formed) = by_used k s at no_name used
      by used (named s q name y at is first a d e kind) = no_true (ap is_some (sym none ∙ a))

  -- ---- packages

  module _ (have : HavePlaces t h n ms) (owned : b.owners ≡ owners_of ms) where
    with_place : (c : ℕ) → HasPlace h.homes c → HasHomes t h planned.kept p b c
    with_place c is =
        let home : home_at h is.place ≡ Some (c, is.name) = ap (λ o. unwrap_or o None) is.home in
        let path = path_given t h given.alone is.place (c, is.name) home in
        let number = number_given (places_in ms) is.place (have.met is.place path) in
        let there = interface_there t h ms members given.input n p planned number.0 is.place (number_there (places_in ms) is.place number.0 number.1) in
        record {
          place = is.place;
          path = path;
          name = is.name;
          home = home;
          number = number.0;
          owned = ap (λ (f : ℕ → TypeOwner). f is.place) owned ∙ ap (λ o. option_map_or as_interface o
              (option_map_or as_world (number_in (homes_in ms) is.place) (as_interface (length (places_in ms) + is.place)))) number.1;
          interface = there.0;
          there = there.1;
        }

    packages_kept : (c : ℕ) (k : PlannedPackage) → package_in p c ≡ Some k → (c ≡ p.main) ⊎ HasHomes t h planned.kept p b c
    packages_kept c k there = elim (have.packages c (let low = slice_get_within p.packages c k there in let as_many = planned.packages.many in omega (arith, low, as_many))) [
      | inl own ↦ inl (own ∙ sym planned.main)
      | inr is ↦ inr (with_place c is)
    ]

    pub kept_for_reasons : IsKeptForReasons t h planned.kept p b
    kept_for_reasons = record { types = types_kept; ids = λ j x there none. search (std_rules, zip_get, no_name, no_true); packages = packages_kept }

-- ---- each instance of a world whose place has no path is one that is imported or exported

module _ (t : Tables) where
  instances_many : (is : List NumberedInstance) → length (filter (has_no_path t) (map (λ (i : NumberedInstance). i.place) is)) ≡ length (filter (no_path t) is)
  instances_many [] = refl
  instances_many (i ∷ is) = search (std_rules, no_path, instances_many is)

  -- the places of what is seen are those of instances
  seen_there : (instances : List NumberedInstance) (ss : List NumberedSeen) → AllByRecursion (λ (s : NumberedSeen). IsOneOf t instances s.shown) ss → (q : ℕ) → Contains (places_of_seen ss) q
      → Contains (map (λ (i : NumberedInstance). i.place) instances) q
  seen_there instances ss all q c =
      let from = flat_cases (λ (s : NumberedSeen). places_of_shown s.shown) ss q c in
      by from.0.shown (all_at (λ (s : NumberedSeen). IsOneOf t instances s.shown) ss all from.0 from.1) from.2
    where
      by : (x : NumberedShown) → IsOneOf t instances x → Contains (places_of_shown x) q → Contains (map (λ (i : NumberedInstance). i.place) instances) q
      by (instance k v) is there = subst (Contains (map (λ (i : NumberedInstance). i.place) instances)) (one-contained (place_of_key k) q there) (contains-map _ _ _ is)
      by _ is there = none-in q there

  module _ (w : NumberedScope) (scope : FollowedScope) (is : IsScopeIn t w) (shows : Shows t w scope) (seen : InstancesAreSeen scope) where
    abbrev pub shown_places : List ℕ
    shown_places = places_of_seen w.imports ++ places_of_seen w.exports

    pub as_many : length (filter (has_no_path t) (map (λ (i : NumberedInstance). i.place) w.instances)) ≡ length (filter (has_no_path t) shown_places)
    as_many = instances_many w.instances ∙ (inline_many t w is scope shows seen ∙ (sym (length_of_map (λ (i : NumberedInstance). i.place) (all_inline t w is)) ∙ ap length (places_are t w is)))

    pub one_of : (q : ℕ) → Contains shown_places q → Contains (map (λ (i : NumberedInstance). i.place) w.instances) q
    one_of q c = elim (Contains-append_cases (places_of_seen w.imports) (places_of_seen w.exports) q c) [
      | inl among ↦ seen_there w.instances w.imports is.imported q among
      | inr among ↦ seen_there w.instances w.exports is.exported q among
    ]

    pub own_shown : are_once (filter (has_no_path t) (places_of_part (world w))) ≡ true → (q : ℕ) → path_at t q ≡ None → Contains (map (λ (i : NumberedInstance). i.place) w.instances) q
        → Contains shown_places q
    own_shown once q none c =
        let i = from_map (λ (x : NumberedInstance). x.place) w.instances q c in
        let there = contains-map (λ (x : NumberedInstance). x.place) (all_inline t w is) i.0 (inline_seen t w is scope shows seen once i.0 i.1 (ap (path_at t) i.2 ∙ none)) in
        subst (Contains shown_places) i.2 (filter_kept (has_no_path t) shown_places i.0.place (subst (λ ps. Contains ps i.0.place) (places_are t w is) there)).0

-- ---- what the page is for

module _ (t : Tables) (h : Homes) (known : ℕ → Fact) (n : ℕ) (ms : List Member) (members : List reads.Member) (given : IsPackageInput t h known n ms members) (p : Plan)
    (planned : PlansWhole t h.packages (home_at h) n ms p) (b : Beside) (owned : b.owners ≡ owners_of ms) (views : ℕ → NumberedView) (read : IsReadPlan t h planned.kept p b views)
    (is_shown : IsShownWhole t h planned.kept p b views read ms) where
  abbrev Shown : ℕ → Type 0
  Shown q = IsShownByWorld t h planned.kept p b views read q

  -- ---- where a view is from

  -- a world at the top shows it, or the component type of an interface, which is its own or an import
  data IsFrom (s : NumberedSight) : Type 0 where
    a_world : Shown s.place → IsFrom s
    the_own : is_of_package h n s.place ≡ true → IsFrom s
    an_import : (m : Member) → Contains ms m → (q : ℕ) (v : View) (imports : Bor (List ImportedView)) → m.part ≡ parts.Interface q v imports → s.whole ≡ false
        → Contains (map (λ (i : ℕ × NumberedView). i.0) (map numbered_import imports.now)) s.place → IsFrom s

  own_package : (m : Member) → Contains ms m → (q : ℕ) (v : View) (imports : Bor (List ImportedView)) → m.part ≡ parts.Interface q v imports → is_of_package h n q ≡ true
  own_package m c q v imports is = ap (λ o. option_map_or (λ (x : ℕ × Text). x.0 == n) o false) (interface_home t h known n ms members given m c q v imports is).1 ∙ eq-eqb n n refl

  from_instance : (m : Member) → Contains ms m → (w : Scope) → m.part ≡ parts.World w → (i : NumberedInstance) → Contains (numbered_scope w).instances i → (s : NumberedSight)
      → Contains (sights_of_instance t i) s → IsFrom s
  from_instance m c w is i among s there = by (path_at t i.place) refl there
    where
      by : (o : Option Text) → path_at t i.place ≡ o → Contains (option_map_or (λ (path : Text). whole_view i ∷ []) o []) s → IsFrom s
      by None e none = none-in s none
      by (Some path) e one = a_world (subst Shown (ap (λ (x : NumberedSight). x.place) (one-contained (whole_view i) s one)) (is_shown.worlds m c w is i among (path, e)))

  from_sight : (s : NumberedSight) → Contains (sights_of_members t (numbered_members ms)) s → IsFrom s
  from_sight s c = let m = mapped_cases (λ (x : NumberedMember). sights_of_part t x.part) numbered_member ms s c in by m.0 m.1 m.0.part refl m.2
    where
      by : (m : Member) → Contains ms m → (a : Part) → m.part ≡ a → Contains (sights_of_part t (numbered_part a)) s → IsFrom s
      by m among (parts.World w) is there =
          let i = flat_cases (sights_of_instance t) (numbered_scope w).instances s there in
          from_instance m among w is i.0 i.1 s i.2
      by m among (parts.Interface q v imports) is there = elim (interface_views q v imports s there) [
        | inl i ↦ an_import m among q v imports is (ap (λ (x : NumberedSight). x.whole) (sym i.2))
            (subst (Contains (map (λ (x : ℕ × NumberedView). x.0) (map numbered_import imports.now))) (ap (λ (x : NumberedSight). x.place) i.2) (contains-map _ _ _ (contains-map _ _ _ i.1)))
        | inr own ↦ the_own (ap (λ (x : NumberedSight). is_of_package h n x.place) (sym own) ∙ own_package m among q v imports is)
      ]

  whole : (s : NumberedSight) → Contains (sights_of_members t (numbered_members ms)) s → s.whole ≡ true → Shown s.place ⊎ (is_of_package h p.main s.place ≡ true)
  whole s c functions = search (std_rules, from_sight, never)

  -- ---- reasons

  -- the place of an interface of the plan is met
  place_met : (q k : ℕ) (i : PlannedInterface) → b.owners q ≡ as_interface k → interface_in p k ≡ Some i → Contains (places_in ms) q
  place_met q k i is there =
      let from = zip_get (PlansPlace t planned.kept n (home_at h) (views_of_members (numbered_members ms))) (places_in ms) p.interfaces planned.interfaces k i there in
      let same : q ≡ from.0 = one_owner ms b owned q from.0 (as_interface k) is (ap (λ (f : ℕ → TypeOwner). f from.0) owned ∙ owner_numbered ms from.0 k (place_number ms k from.0 from.1)) in
      subst (Contains (places_in ms)) (sym same) (get-contains (places_in ms) k from.0 from.1)

  -- a view that the component type of an interface shows
  view_in : (m : Member) → Contains ms m → (s : NumberedSight) → Contains (views_of_part (numbered_part m.part)) s → Contains (sights_of_part t (numbered_part m.part)) s
      → IsViewOf t h planned.kept p b views read (s.place, s.view)
  view_in m c s viewed seen =
      let numbered = contains-map numbered_member ms m c in
      let number = number_given (places_in ms) s.place (view_met ms (numbered_member m) numbered s viewed) in
      let there = interface_there t h ms members given.input n p planned number.0 s.place (number_there (places_in ms) s.place number.0 number.1) in
      record {
        number = number.0;
        owned = ap (λ (f : ℕ → TypeOwner). f s.place) owned ∙ owner_numbered ms s.place number.0 number.1;
        interface = there.0;
        there = there.1;
        agrees = is_shown.agree s (contains-flat (λ (x : NumberedMember). sights_of_part t x.part) (numbered_members ms) (numbered_member m) s numbered seen);
      }

  by_import : (m : Member) → Contains ms m → (q : ℕ) (v : View) (imports : Bor (List ImportedView)) → m.part ≡ parts.Interface q v imports → (r : ℕ)
      → Contains (map (λ (i : ℕ × NumberedView). i.0) (map numbered_import imports.now)) r → IsSeenFor t h planned.kept p b views read r
  by_import m c q v imports is r there =
      let reached = subst (λ a. PartIsReached t (numbered_part a)) is (at_mapped (λ (x : NumberedMember). PartIsReached t x.part) numbered_member ms is_shown.reached m c) in
      in_member (q, numbered_view v) (map numbered_import imports.now) reached.0 reached.1 (
        view (own_sight q v imports) (own_there q v imports),
        all_of (IsViewOf t h planned.kept p b views read) (map numbered_import imports.now) (λ x among.
            let i = from_map numbered_import imports.now x among in
            subst (IsViewOf t h planned.kept p b views read) i.2 (view (types_alone (numbered_import i.0)) (import_there q v imports i.0 i.1))),
      ) there
    where
      view : (s : NumberedSight) → Contains (views_of_part (numbered_part (parts.Interface q v imports))) s → IsViewOf t h planned.kept p b views read (s.place, s.view)
      view s among = view_in m c s (subst (λ a. Contains (views_of_part (numbered_part a)) s) (sym is) among) (subst (λ a. Contains (sights_of_part t (numbered_part a)) s) (sym is) among)

  reasons : (q k : ℕ) (i : PlannedInterface) → HasPath t q → b.owners q ≡ as_interface k → interface_in p k ≡ Some i → is_of_package h p.main q ≡ false → IsSeenFor t h planned.kept p b views read q
  reasons q k i path is there foreign =
      let seen = sight_of_place t ms q (place_met q k i is there) path in
      by seen.0 seen.2 (from_sight seen.0 seen.1)
    where
      by : (s : NumberedSight) → s.place ≡ q → IsFrom s → IsSeenFor t h planned.kept p b views read q
      by s place (a_world shown) = in_world (subst Shown place shown)
      by s place (the_own e) = never (is_of_package h p.main q) (ap (λ (x : ℕ). is_of_package h p.main x) (sym place) ∙ (ap (λ (x : ℕ). is_of_package h x s.place) planned.main ∙ e)) foreign
      by s place (an_import m among r v imports is types c) = by_import m among r v imports is q (subst (Contains (map (λ (x : ℕ × NumberedView). x.0) (map numbered_import imports.now))) place c)

  pub foreign_reasons : HasForeignReasons t h planned.kept p b views read (sights_of_members t (numbered_members ms))
  foreign_reasons = record { reasons = reasons; whole = whole }
