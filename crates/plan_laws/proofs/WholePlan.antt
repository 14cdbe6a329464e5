-- A plan that was made of what was followed is one that was read, whole.
use Rattle.std.proofs.Common.{rules as std_rules, ◌≡◌, sym, ap, subst, ◌∙◌, ℕ, ◌+◌, List, [], map, Option, Some, slice_get, refl, Bool, true, false, not, ◌||◌, ◌==◌, ◌∷◌, ◌++◌, filter, filter_map, None, option_map, ◌⊎◌, inl, inr}
use Rattle.std.proofs.lemmas.{Option.same_Some as same-some, Bool.eqb-true, Bool.and_from as both, Bool.not-true as not_true}
use Rattle.std.proofs.lemmas.Slice.Eq.{bytes_eq-Decides}
use Rattle.std.specs.{List.Contains, List.AllByRecursion, List.list_any, List.AllZip, Option.option_map_or, Prelude.is_none, Prelude.is_some}
use Rattle.wit_model.specs.declared.model.TypeOwner.{TypeOwner}
use Rattle.wit_model.specs.{Text.Text, Text.text_eq, Valid.as_interface, Valid.as_world, Names.PackageIdentity, Names.is_label, Uses.has, Rules.is_id}
use Rattle.wit_model.proofs.Elements.{contains-flat, contains-get}
use Rattle.plan_meaning.specs.NumberedMembers.{Homes, home_at, sights_of_members, NumberedMember}
use Rattle.plan_meaning.specs.{NumberedRules.Fact, NumberedWorlds.NumberedScope, NumberedWorlds.NumberedSeen, NumberedWorlds.HasPath, NumberedWorlds.are_once}
use Rattle.plan_meaning.specs.{Shapes.named_shape, ReadInterfaces.IsNumberOf, ReadPlans.FitsInput, ReadPlans.IsReadPlan}
use Rattle.plan_meaning.specs.{ReadWorlds.IsReadItem, ReadWorlds.ReadItem, ReadWorlds.is_type_seen, GatheredPlan.FunctionListed, GatheredPlan.functions_seen}
use Rattle.plan_meaning.specs.{ReadFunctions.Beside, ReadFunctions.FunctionsAreRead, PlanRules.has_name, PlanRules.names_of, PlanRules.is_foreign}
use Rattle.plan_meaning.specs.{ReadOrder.InterfacesAreViewed, ReadOrder.IsShownThere, ReadOrder.in_interface, ReadOrder.in_world, ReadWholes.IsReadPackagePlan}
use Rattle.plan_meaning.specs.NumberedViews.{NumberedSight, NumberedType, NumberedView, Tables, path_at}
use Rattle.plan_meaning.specs.Plan.{Plan, PlannedInterface, PlannedType, PlannedWorld, interface_in, world_in, PlannedPackage, item_interface, items_of, package_in}
use Rattle.plan_meaning.specs.ReadPlaces.{IsPlacedInterface, IsPlacedWorld, IsReadPackage, PlacesAreRead, inline, under_path}
use Rattle.read_exports.specs.Members.{numbered_member, numbered_members, numbered_part}
use Rattle.read_exports.specs.declared.members.Member.{Member}
use Rattle.read_rules.specs.Scopes.{numbered_scope, numbered_seen, numbered_shown}
use Rattle.read_rules.specs.declared.scopes.Scope.{Scope}
use Rattle.plan_package.specs.{PlanWhole.PlansWhole, PlanWhole.places_in, WholeWorlds.PlansWorld, WholeWorlds.worlds_in}
use Rattle.plan_package.specs.{Views.views_of_members, Views.views_of_part, ReadPackages.AreExported, ReadPackages.world_labels, WholeInterfaces.PlansPlace}
use Rattle.plan_package.specs.WholePackages.{IsMainPackage, ListsPlace, PlansPackage, another, entries_from, interfaces_in, the_main, numbered_labels}
use Rattle.plan_laws.specs.{FirstViews.ViewsAreOrdered, FirstViews.told, WholeFunctions.beside_tables, WholePlan.IsOfMember, WholePlan.IsWholeInput}
use Rattle.plan_laws.specs.{WholeOrder.PlannedOrderIsRead, WholeReasonsForeign.HasForeignReasons, WholeTypes.IsRuledInput, WholeTypes.TypesAreWhole}
use Rattle.plan_laws.specs.{ViewedInterfaces.views_read, WholeWorlds.WorldsAreReadAs, WorldItems.WorldsAreApart, Owners.owners_of, Owners.homes_in}
use Rattle.plan_laws.specs.{Whole.IsPackageInput, WholePlaces.LabelsStand, WholeReasons.HavePlaces}
use Rattle.plan_laws.specs.ShownNames.{ImportsNumber, IsShownByPart, ShowsNumber, by_import, by_view}
use Rattle.plan_laws.proofs.{ViewsAgree.views_told, ViewsAgree.first_is, WholeWorlds.planned_worlds_are_read, ShownAlike.whole_is_shown_alike}
use Rattle.plan_laws.proofs.{WorldKeys.world_member, PlannedFunctions.planned_functions_are_read, PlannedFunctions.functions_listed, PlannedFunctions.seen_same}
use Rattle.plan_laws.proofs.{OwnPlaces.once_inside as once_within, Viewed.planned_interfaces_are_viewed, Sources.world_in as world_of, Sources.all_of}
use Rattle.plan_laws.proofs.{WholeReasonsForeign.foreign_reasons, WholeReasonsForeign.own_shown, WholeReasonsForeign.kept_for_reasons, Apart.whole_stands_apart}
use Rattle.plan_laws.proofs.{Owned.planned_types_are_owned, ShownWhole.whole_is_shown}
use Rattle.plan_laws.proofs.WholeTypes.{world_among, interface_among, interface_of, interfaces_differ, no_world, worlds_differ, package_there, packages_are_ruled, IsOwnInstance, at_top, interface_home, main_identity, own_instance, one_package}
use Rattle.plan_laws.proofs.Sources.{number_given, one_owner, owner_numbered, owners_apart, place_number}
use Rattle.plan_laws.proofs.Owned.{first_there, interface_there, name_shown, view_met, named_there, path_given}
use Rattle.base_lemmas.proofs.Elements.{all_at, contains-map, get-contains, map_from as from_map, zip_at, zip_at_right as zip_get, all_pass}
use Rattle.base_lemmas.proofs.Lists.{get_back as unmapped_get}
use Rattle.base_lemmas.proofs.Bools.{left_of as first_true, right_of as second_true, first_false, second_false}
use Rattle.plan_package.proofs.ReadPackageLaws.{number_at as number_there, packages_are_read}
use Rattle.plan_package.proofs.ListedLaws.{homes_are_listed, worlds_are_listed}
use Rattle.comp_meaning.specs.Rules.{distinct}
use Rattle.read_homes.specs.Homes.{ArePackages, HasPlace}
use Rattle.plan_meaning.proofs.{Lists.no_true, ReadLists.never}
use Rattle.plan_type_laws.specs.ShownMarks.{has_no_path, places_of_part, places_of_seen}
use Rattle.plan_types.specs.PlannedTypes.{number_in}
use Rattle.comp_meaning.specs.Reads as reads
use Rattle.plan_meaning.specs.NumberedWorlds as worlds
use Rattle.read_exports.specs.declared.members.Part.TheVariants as parts
use Rattle.plan_laws.proofs.WholeWorlds as items

-- ---- What stands before what in a whole plan is as it was read.

module _ (t : Tables) (h : Homes) (known : ℕ → Fact) (n : ℕ) (ms : List Member) (members : List reads.Member) (given : IsPackageInput t h known n ms members) (ordered : ViewsAreOrdered t ms)
    (p : Plan) (planned : PlansWhole t h.packages (home_at h) n ms p)
    (b : Beside) (beside_owners : b.owners ≡ owners_of ms) (interfaces : InterfacesAreViewed t planned.kept p b (views_read ms)) (read : WorldsAreReadAs t ms planned.kept p b (views_read ms)) where
  ruled : IsRuledInput t h ms members
  ruled = packages_are_ruled t h known n ms members given

  abbrev IsThere : ℕ → ℕ → Type 0
  IsThere = IsShownThere t planned.kept p b (views_read ms) interfaces read.worlds

  -- ---- interfaces

  -- a name that a view of the place shows is one of the interface
  of_interface : (q k : ℕ) (u : ℕ) (i : PlannedInterface) (e : interface_in p u ≡ Some i) → b.owners q ≡ as_interface u → (first sight : NumberedSight)
      → Contains (views_of_members (numbered_members ms)) first → Contains (views_of_members (numbered_members ms)) sight → first.place ≡ q → sight.place ≡ q
      → (views_read ms q).types ≡ first.view.types → (x : NumberedType) → Contains sight.view.types x → slice_get t.shapes k ≡ Some (named_shape q x.name) → IsThere q k
  of_interface q k u i e owned first sight first_in sight_in first_place sight_place first_types x x_in named =
      let viewed = interfaces u i e in
      let is = viewed.read in
      let place : is.place ≡ q = one_owner ms b beside_owners is.place q (as_interface u) is.owned owned in
      let other = from_map told first.view.types (told x) (subst (λ xs. Contains xs (told x))
      (sym (views_told t h ms members given.input ruled.agree ordered first sight first_in sight_in (first_place ∙ sym sight_place))) (contains-map _ _ x x_in)) in
      let at = contains-get _ _ (subst (λ xs. Contains xs other.0) (sym first_types ∙ (ap (λ r. (views_read ms r).types) (sym place) ∙ ap (λ (v : NumberedView). v.types) viewed.viewed)) other.1) in
      let number = zip_at (IsNumberOf t is.place) is.view.types is.numbers is.shapes at.0 other.0 at.1 in
      in_interface u i e owned (subst (Contains is.numbers) (given.input.tables.shapes.apart number.0 k (named_shape q x.name)
      (number.2 ∙ (λ j. Some (named_shape (place j) ((ap (λ (y : Text × (Option ℕ × Option Text)). y.0) other.2) j)))) named) (get-contains _ _ _ number.1))

  in_view : (m : Member) → Contains ms m → (q k : ℕ) → ShowsNumber t (views_of_part (numbered_part m.part)) q k → IsThere q k
  in_view m c q k shows =
      let number = number_given (places_in ms) q (subst (Contains (places_in ms)) shows.place (view_met ms (numbered_member m) (contains-map numbered_member ms m c) shows.sight shows.among)) in
      let at = number_there (places_in ms) q number.0 number.1 in
      let i = interface_there t h ms members given.input n p planned number.0 q at in
      let first = first_there t h ms members given.input n p planned number.0 q at in
      let is = first_is q (views_of_members (numbered_members ms)) first.0 first.1 in
      of_interface q k number.0 i.0 i.1 (ap (λ (f : ℕ → TypeOwner). f q) beside_owners ∙ owner_numbered ms q number.0 number.1) first.0 shows.sight is.0
      (contains-flat (λ (x : NumberedMember). views_of_part x.part) (numbered_members ms) (numbered_member m) shows.sight (contains-map numbered_member ms m c) shows.among) is.1 shows.place
      (ap (λ o. option_map_or (λ (s : NumberedSight). s.view.types) o []) first.1) shows.type_ shows.there shows.named.named

  -- ---- worlds

  -- a type that the world imports is the last once it is followed
  counted : (m : ℕ) (home : ℕ) (y : ReadItem) (d : Option ℕ) (k : ℕ) → y.seen.shown ≡ worlds.declares d → slice_get t.shapes k ≡ Some (named_shape home y.seen.key)
      → IsReadItem t planned.kept p b (views_read ms) (as_world m) home y → y.count ≡ k + 1
  counted m home y d k shows shape x = search std_rules

  of_world : (m : ℕ) (x : PlannedWorld) (e : world_in p m ≡ Some x) (w : Scope) → (read.worlds m x e).scope ≡ numbered_scope w → (q k : ℕ) → q ≡ w.home → ImportsNumber t w k → IsThere q k
  of_world m x e w same q k home imports =
      let is = read.worlds m x e in
      let s = numbered_seen imports.seen in
      let at = contains-get (numbered_scope w).imports s (contains-map numbered_seen w.imports.now imports.seen imports.among) in
      let y = unmapped_get (λ (z : ReadItem). z.seen) is.imports at.0 s (ap (λ ss. slice_get ss at.0) (is.imports_seen ∙ ap (λ (z : NumberedScope). z.imports) same) ∙ at.1) in
      let among = get-contains is.imports at.0 y.0 y.1 in
      let shows : y.0.seen.shown ≡ worlds.declares imports.declared = ap (λ (z : NumberedSeen). z.shown) y.2 ∙ ap numbered_shown imports.shown in
      let here : is.scope.home ≡ w.home = ap (λ (z : NumberedScope). z.home) same in
      in_world m x e y.0 (ap b.owners (home ∙ sym here) ∙ is.owned) among (ap is_type_seen shows)
      (counted m is.scope.home y.0 imports.declared k shows (imports.named.named ∙ (λ j. Some (named_shape (sym here j) (ap (λ (z : NumberedSeen). z.key) (sym y.2) j))))
      (all_at (IsReadItem t planned.kept p b (views_read ms) (as_world m) is.scope.home) is.imports is.imports_read y.0 among))

  in_import : (m : Member) → Contains ms m → (w : Scope) → m.part ≡ parts.World w → (q k : ℕ) → q ≡ w.home → ImportsNumber t w k → IsThere q k
  in_import m c w is q k home imports =
      let at = contains-get (worlds_in ms) (m.label.now, w) (world_among ms m c w is) in
      let x = zip_at (PlansWorld t planned.kept (places_in ms) n) (worlds_in ms) p.worlds planned.worlds at.0 (m.label.now, w) at.1 in
      let was = read.followed at.0 x.0 x.1 in
      of_world at.0 x.0 x.1 w (was.same ∙ ap (λ (z : Text × Scope). numbered_scope z.1) (same-some was.world (m.label.now, w) (sym was.there ∙ at.1))) q k home imports

  -- ---- names

  pub names_there : (j k q : ℕ) (x : PlannedType) (name : Text) → slice_get p.types j ≡ Some x → slice_get planned.kept j ≡ Some k → slice_get t.shapes k ≡ Some (named_shape q name) → IsThere q k
  names_there j k q x name there stands at =
      let found = name_shown t h ms members given.input n p planned j k q name stands at in
      by found.0 found.1 found.2
    where
      by : (m : Member) → Contains ms m → IsShownByPart t m.part q k → IsThere q k
      by m c (by_view shows) = in_view m c q k shows
      by m c (by_import w is home imports) = in_import m c w is q k home imports

pub planned_order_is_read : PlannedOrderIsRead
planned_order_is_read t h known n ms members given ordered apart followed p planned b known_is owned functions =
    let interfaces = planned_interfaces_are_viewed t h ms members given.input given.alone (packages_are_ruled t h known n ms members given).agree ordered n p planned b owned in
    let read = planned_worlds_are_read t h known n ms members given ordered apart followed p planned b known_is owned functions in
    record { order = record { interfaces = interfaces; worlds = read.worlds; names = names_there t h known n ms members given ordered p planned b owned interfaces read }; followed = read.followed }

-- ---- The packages, the interfaces and the worlds of a plan that was made of what was followed.

-- the places of what a world imports and exports
abbrev shown_of : Scope → List ℕ
shown_of w = places_of_seen (map numbered_seen w.imports.now) ++ places_of_seen (map numbered_seen w.exports.now)

-- interfaces whose names differ have places that do, where a place tells the name
once_named : (home : ℕ → Option (ℕ × Text)) (n : ℕ) (xs : List (Text × ℕ)) → AllByRecursion (λ (x : Text × ℕ). home x.1 ≡ Some (n, x.0)) xs → distinct (names_of xs) ≡ true
    → are_once (map (λ (x : Text × ℕ). x.1) xs) ≡ true
once_named home n [] homes differ = refl
once_named home n (x ∷ xs) homes differ = both _ _ (ap not (absent xs homes.1 (not_true _ (first_true _ _ differ)))) (once_named home n xs homes.1 (second_true _ _ differ))
  where
    absent : (ys : List (Text × ℕ)) → AllByRecursion (λ (y : Text × ℕ). home y.1 ≡ Some (n, y.0)) ys → list_any (text_eq x.0) (names_of ys) ≡ false → has (map (λ (y : Text × ℕ). y.1) ys) x.1 ≡ false
    absent [] k none = refl
    absent (y ∷ ys) k none = by (y.1 == x.1) refl (absent ys k.1 (second_false (text_eq x.0 y.0) (list_any (text_eq x.0) (names_of ys)) none))
      where
        by : (b : Bool) → (y.1 == x.1) ≡ b → has (map (λ (z : Text × ℕ). z.1) ys) x.1 ≡ false → (b || has (map (λ (z : Text × ℕ). z.1) ys) x.1) ≡ false
        by false same rest = rest
        by true same rest =
            never _ ((bytes_eq-Decides x.0 y.0).1 (ap (λ (z : ℕ × Text). z.1) (same-some (n, x.0) (n, y.0) (sym homes.0 ∙ (ap home (sym (eqb-true y.1 x.1 same)) ∙ k.0))))) (first_false _ _ none)

module _ (t : Tables) (h : Homes) (known : ℕ → Fact) (n : ℕ) (ms : List Member) (members : List reads.Member) (given : IsPackageInput t h known n ms members) (stand : ArePackages h.packages)
    (labels : LabelsStand ms) (p : Plan) (planned : PlansWhole t h.packages (home_at h) n ms p) where
  abbrev places : List ℕ
  places = places_in ms

  abbrev homes : List ℕ
  homes = homes_in ms

  abbrev owners : ℕ → TypeOwner
  owners = owners_of ms

  abbrev Place : ℕ → PlannedInterface → Type 0
  Place = PlansPlace t planned.kept n (home_at h) (views_of_members (numbered_members ms))

  -- ---- places

  named_as : (m q : ℕ) (i : PlannedInterface) → interface_in p m ≡ Some i → slice_get places m ≡ Some q → Place q i → i.name ≡ option_map (λ (x : ℕ × Text). x.1) (home_at h q)
  named_as m q i e at is = let first = first_there t h ms members given.input n p planned m q at in (is first.0 first.1).name

  package_as : (m q : ℕ) (i : PlannedInterface) → interface_in p m ≡ Some i → slice_get places m ≡ Some q → Place q i → i.package_ ≡ Some (option_map_or (λ (x : ℕ × Text). x.0) (home_at h q) n)
  package_as m q i e at is = let first = first_there t h ms members given.input n p planned m q at in (is first.0 first.1).package_

  -- ---- packages

  home_of : (x : Text × ℕ) → Contains (interfaces_in ms) x → home_at h x.1 ≡ Some (n, x.0)
  home_of x c =
      let m = interface_of ms x c in
      (interface_home t h known n ms members given m.member m.among x.1 m.view m.imports m.is).1 ∙ ap (λ l. Some (n, l)) m.label

  exported : AreExported h n ms
  exported =
      let homes_are = all_of (λ (x : Text × ℕ). home_at h x.1 ≡ Some (n, x.0)) (interfaces_in ms) home_of in
      record {
        homes = homes_are;
        once = once_named (home_at h) n (interfaces_in ms) homes_are (interfaces_differ ms labels.apart);
        labels = worlds_differ ms labels.apart;
        apart = all_pass (λ (x : Text × ℕ). not (list_any (text_eq x.0) (world_labels ms))) (interfaces_in ms) (λ x c. ap not (no_world ms labels.apart x c));
      }

  packages_read : (c : ℕ) (k : PlannedPackage) → package_in p c ≡ Some k → IsReadPackage t h p owners c k
  packages_read = packages_are_read t h stand (path_given t h given.alone) n ms exported owners (λ m q at. owner_numbered ms q m (place_number ms m q at)) p planned

  -- ---- interfaces

  -- a package lists the interfaces whose homes are there
  listed_in : (c q m : ℕ) (name : Text) (k : PlannedPackage) → package_in p c ≡ Some k → slice_get places m ≡ Some q → HasPath t q → home_at h q ≡ Some (c, name) → Contains k.interfaces (name, m)
  listed_in c q m name k e at path home = by (planned.packages.each c k e)
    where
      in_main : (identity : PackageIdentity) → IsMainPackage identity places ms k → home_at h q ≡ Some (n, name) → Contains k.interfaces (name, m)
      in_main identity is own =
          let top = at_top t h known n ms members given q name (get-contains places m q at) path own in
          let label : top.member.label.now ≡ name =
          ap (λ (x : ℕ × Text). x.1) (same-some (n, top.member.label.now) (n, name) (sym (interface_home t h known n ms members given top.member top.among q top.view top.imports top.is).1 ∙ own)) in
          let among : Contains (interfaces_in ms) (name, q) = subst (λ l. Contains (interfaces_in ms) (l, q)) label (interface_among ms top.member top.among q top.view top.imports top.is) in
          let j = contains-get (interfaces_in ms) (name, q) among in
          let there = zip_at (ListsPlace places) (interfaces_in ms) k.interfaces is.interfaces j.0 (name, q) j.1 in
          get-contains k.interfaces j.0 (name, m) (there.1 ∙ ap Some (let number : there.0.1 ≡ m = same-some there.0.1 m (sym there.2.1 ∙ place_number ms m q at) in λ i. (there.2.0 i, number i)))

      by : PlansPackage h.packages n places ms (entries_from (home_at h) c 0 places) c k → Contains k.interfaces (name, m)
      by (the_main identity same there is) = in_main identity is (home ∙ ap (λ x. Some (x, name)) same)
      by (another identity other there is) =
          let found = (homes_are_listed (home_at h) c places).stand m q name at home in
          subst (λ es. Contains es (name, m)) (sym is.interfaces) (get-contains (entries_from (home_at h) c 0 places) found.0 (name, m) found.1)

  placed_under : (m q : ℕ) (i : PlannedInterface) → interface_in p m ≡ Some i → slice_get places m ≡ Some q → Place q i → HasPath t q → IsPlacedInterface t h p owners m i
  placed_under m q i e at is path =
      let home = given.input.homes.homes q path.0 path.1 in
      let package_ = package_there t h ms members (packages_are_ruled t h known n ms members given) n p planned home.package_ home.identity home.stands in
      under_path q home.package_ home.name package_.0 path (owner_numbered ms q m (place_number ms m q at)) home.home (named_as m q i e at is ∙ ap (option_map (λ (x : ℕ × Text). x.1)) home.home)
      (package_as m q i e at is ∙ ap (λ o. Some (option_map_or (λ (x : ℕ × Text). x.0) o n)) home.home)
      package_.1 (listed_in home.package_ q m home.name package_.0 package_.1 at path home.home)

  -- an interface without a path is an item of a world
  record IsItem (m : ℕ) : Type 0 where
    number : ℕ
    world : PlannedWorld
    there : world_in p number ≡ Some world
    item : Contains (filter_map item_interface (items_of world)) m

  shown_inline : (q : ℕ) → path_at t q ≡ None → (own : IsOwnInstance t h known n ms members given q) → Contains (shown_of own.world) q
  shown_inline q none own =
      let of = world_of t h ms members given.input own.member own.among own.world own.is in
      let once = once_within (has_no_path t) (λ (x : NumberedMember). places_of_part x.part) (numbered_members ms) given.placed.apart (numbered_member own.member)
      (contains-map numbered_member ms own.member own.among) in
      own_shown t (numbered_scope own.world) of.scope of.good of.shows of.stands.seen
      (subst (λ a. are_once (filter (has_no_path t) (places_of_part (numbered_part a))) ≡ true) own.is once) q none own.instance

  item_of : (m q : ℕ) → slice_get places m ≡ Some q → (label : Text) (w : Scope) → Contains (shown_of w) q → (j : ℕ) → slice_get (worlds_in ms) j ≡ Some (label, w) → IsItem m
  item_of m q at label w shown j here = by (zip_at (PlansWorld t planned.kept places n) (worlds_in ms) p.worlds planned.worlds j (label, w) here)
    where
      by : (x : PlannedWorld) × (slice_get p.worlds j ≡ Some x) × PlansWorld t planned.kept places n (label, w) x → IsItem m
      by (x, there, is) =
          let k = contains-get (shown_of w) q shown in
          let item = zip_at (items.IsNumbered places) (shown_of w) (filter_map item_interface (items_of x)) (items.items_numbered places t planned.kept n (label, w) x is) k.0 q k.1 in
          let number : item.0 ≡ m = same-some item.0 m (sym item.2 ∙ place_number ms m q at) in
          record {
            number = j;
            world = x;
            there = there;
            item = subst (Contains (filter_map item_interface (items_of x))) number (get-contains (filter_map item_interface (items_of x)) k.0 item.0 item.1);
          }

  inline_item : (m q : ℕ) → slice_get places m ≡ Some q → path_at t q ≡ None → IsItem m
  inline_item m q at none =
      let own = own_instance t h known n ms members given q (get-contains places m q at) none in
      let j = contains-get (worlds_in ms) (own.member.label.now, own.world) (world_among ms own.member own.among own.world own.is) in
      item_of m q at own.member.label.now own.world (shown_inline q none own) j.0 j.1

  placed_inline : (m q : ℕ) (i : PlannedInterface) → interface_in p m ≡ Some i → slice_get places m ≡ Some q → Place q i → path_at t q ≡ None → IsPlacedInterface t h p owners m i
  placed_inline m q i e at is none =
      let item = inline_item m q at none in
      inline q item.number item.world none (owner_numbered ms q m (place_number ms m q at)) (named_as m q i e at is ∙ ap (option_map (λ (x : ℕ × Text). x.1)) (given.alone q none)) item.there item.item

  interfaces_read : (m : ℕ) (i : PlannedInterface) → interface_in p m ≡ Some i → IsPlacedInterface t h p owners m i
  interfaces_read m i e =
      let from = zip_get Place places p.interfaces planned.interfaces m i e in
      by from.0 from.1 from.2 (path_at t from.0) refl
    where
      by : (q : ℕ) → slice_get places m ≡ Some q → Place q i → (o : Option Text) → path_at t q ≡ o → IsPlacedInterface t h p owners m i
      by q at is (Some path) f = placed_under m q i e at is (path, f)
      by q at is None f = placed_inline m q i e at is f

  -- ---- worlds

  worlds_read : (m : ℕ) (w : PlannedWorld) → world_in p m ≡ Some w → IsPlacedWorld t h p owners m w
  worlds_read m w e =
      let from = zip_get (PlansWorld t planned.kept places n) (worlds_in ms) p.worlds planned.worlds m w e in
      let member = world_member ms from.0 (get-contains (worlds_in ms) m from.0 from.1) in
      let identity = main_identity t h known n ms members given member.0 member.1 in
      let there = package_there t h ms members (packages_are_ruled t h known n ms members given) n p planned n identity.0 identity.1 in
      record {
        number = n;
        package_ = there.0;
        home = from.2.package_;
        there = there.1;
        listed = by from.0 from.1 from.2.name there.0 (planned.packages.each n there.0 there.1);
        label = ap is_label (from.2.name ∙ sym member.3) ∙ all_at (λ (x : Member). is_label x.label.now ≡ true) ms labels.labels member.0 member.1;
      }
    where
      by : (x : Text × Scope) → slice_get (worlds_in ms) m ≡ Some x → w.name ≡ x.0 → (k : PlannedPackage) → PlansPackage h.packages n places ms (entries_from (home_at h) n 0 places) n k
          → Contains k.worlds (w.name, m)
      by x at name k (the_main identity same there is) =
          let es = numbered_labels 0 (worlds_in ms) in
          subst (λ ws. Contains ws (w.name, m)) (sym is.worlds) (get-contains es m (w.name, m) ((worlds_are_listed (worlds_in ms)).stand m x at ∙ ap (λ l. Some (l, m)) (sym name)))
      by x at name k (another identity other there is) = absurd (other refl)

  -- ---- inline interfaces

  tells : (q m : ℕ) → number_in places q ≡ Some m → has_no_path t q ≡ not (has_name p m)
  tells q m e = by (path_at t q) refl
    where
      at : slice_get places m ≡ Some q
      at = number_there places q m e

      by : (o : Option Text) → path_at t q ≡ o → has_no_path t q ≡ not (has_name p m)
      by (Some path) f = ap is_none f ∙ ap not (sym (named_there t h ms members given.input n p planned m q at (path, f)))
      by None f =
          let found = interface_there t h ms members given.input n p planned m q at in
          let name : found.0.name ≡ None = named_as m q found.0 found.1 at found.2 ∙ ap (option_map (λ (x : ℕ × Text). x.1)) (given.alone q f) in
          ap is_none f ∙ ap not (sym (ap (λ o. option_map_or (λ (i : PlannedInterface). is_some i.name) o false) found.1 ∙ ap is_some name))

  inline_home : (c : ℕ) (w : PlannedWorld) (m : ℕ) (i : PlannedInterface) → world_in p c ≡ Some w → interface_in p m ≡ Some i → i.name ≡ None → i.package_ ≡ w.package_
  inline_home c w m i at e none =
      let from = zip_get Place _ _ planned.interfaces m i e in
      package_as m _ i e from.1 from.2 ∙ (by _ (sym none ∙ named_as m _ i e from.1 from.2) ∙ sym (zip_get (PlansWorld t planned.kept places n) _ _ planned.worlds c w at).2.package_)
    where
      by : (o : Option (ℕ × Text)) → None ≡ option_map (λ (x : ℕ × Text). x.1) o → Some (option_map_or (λ (x : ℕ × Text). x.0) o n) ≡ Some n
      by None f = refl
      by (Some x) f = no_true (ap is_some f)

  pub places_read : PlacesAreRead t h p owners
  places_read = record {
    apart = owners_apart places homes;
    packages = packages_read;
    interfaces = interfaces_read;
    worlds = worlds_read;
    inline_once = items.inline_once places t planned.kept n p tells ms p.worlds planned.worlds given.placed.apart;
    inline_home = λ c w m i at among e none. inline_home c w m i at e none;
  }

-- ---- a plan that was made of what was followed is one that was read, whole

module _ (t : Tables) (h : Homes) (known : ℕ → Fact) (n : ℕ) (ms : List Member) (members : List reads.Member) (given : IsPackageInput t h known n ms members) (input : IsWholeInput t h n ms) where
  have_places : HavePlaces t h n ms
  have_places = record { packages = λ c low. by c (input.sources c low); met = input.met }
    where
      by : (c : ℕ) → IsOfMember ms c ⊎ HasPlace h.homes c → (c ≡ n) ⊎ HasPlace h.homes c
      by c (inl of) = inl (sym of.is ∙ one_package t h known n ms members given of.member of.among)
      by c (inr place) = inr place

  module _ (p : Plan) (planned : PlansWhole t h.packages (home_at h) n ms p) (fits : FitsInput p) (whole : TypesAreWhole t planned.kept ms p) where
    abbrev b : Beside
    b = beside_tables known whole.marks.marks ms

    -- views in order, and worlds in places of their own
    apart : ViewsAreOrdered t ms × WorldsAreApart ms
    apart = whole_stands_apart t h known n ms members given input.rise

    functions : FunctionsAreRead t planned.kept p b
    functions = planned_functions_are_read t h ms members (packages_are_ruled t h known n ms members given) (whole_is_shown_alike t h known n ms members given) apart.0 apart.1 n p planned whole known

    read : IsReadPlan t h planned.kept p b (views_read ms)
    read = record {
      fits = fits;
      types = whole.types;
      resources = whole.marked;
      owners = planned_types_are_owned t h ms members given.input n p planned;
      functions = functions;
      places = places_read t h known n ms members given input.packages input.labels p planned;
      order = (planned_order_is_read t h known n ms members given apart.0 apart.1 input.followed p planned b refl refl functions).order;
    }

    reasons : HasForeignReasons t h planned.kept p b (views_read ms) read (sights_of_members t (numbered_members ms))
    reasons = foreign_reasons t h known n ms members given p planned b refl (views_read ms) read (whole_is_shown t h known n ms members given apart.0 input.reached p planned b refl read)

    -- an interface of another package is under a path
    foreign_path : (k q : ℕ) (i : PlannedInterface) → interface_in p k ≡ Some i → slice_get (places_in ms) k ≡ Some q
        → PlansPlace t planned.kept n (home_at h) (views_of_members (numbered_members ms)) q i → is_foreign p i ≡ true → HasPath t q
    foreign_path k q i there at plans foreign =
        let first = first_there t h ms members given.input n p planned k q at in
        by (home_at h q) refl (ap is_some (sym (plans first.0 first.1).name) ∙ first_true (is_some i.name) (not (is_id p.main i.package_)) foreign)
      where
        by : (o : Option (ℕ × Text)) → home_at h q ≡ o → is_some (option_map (λ (x : ℕ × Text). x.1) o) ≡ true → HasPath t q
        by None home e = no_true e
        by (Some x) home e = path_given t h given.alone q x home

    foreign_functions : (k q : ℕ) (i : PlannedInterface) → interface_in p k ≡ Some i → b.owners q ≡ as_interface k → is_foreign p i ≡ true
        → AllZip (FunctionListed t planned.kept p) (functions_seen q (sights_of_members t (numbered_members ms))) i.functions
    foreign_functions k q i there own foreign =
        let from = zip_get (PlansPlace t planned.kept n (home_at h) (views_of_members (numbered_members ms))) (places_in ms) p.interfaces planned.interfaces k i there in
        let same : q ≡ from.0 = one_owner ms b refl q from.0 (as_interface k) own (owner_numbered ms from.0 k (place_number ms k from.0 from.1)) in
        let path : HasPath t from.0 = foreign_path k from.0 i there from.1 from.2 foreign in
        subst (λ fs. AllZip (FunctionListed t planned.kept p) fs i.functions)
        (seen_same t from.0 path (numbered_members ms) ∙ ap (λ r. functions_seen r (sights_of_members t (numbered_members ms))) (sym same))
        (functions_listed t h known n ms members given p planned b refl k from.0 from.1 i there)

    worlds_home : (m : ℕ) (w : PlannedWorld) → world_in p m ≡ Some w → w.package_ ≡ Some p.main
    worlds_home m w there = (zip_get (PlansWorld t planned.kept (places_in ms) n) (worlds_in ms) p.worlds planned.worlds m w there).2.package_ ∙ ap Some (sym planned.main)

    pub plan_read : IsReadPackagePlan t h planned.kept p b (views_read ms)
    plan_read = let main = package_there t h ms members (packages_are_ruled t h known n ms members given) n p planned n input.identity input.stands in record {
      read = read;
      kept_for = kept_for_reasons t h known n ms members given (whole_is_shown_alike t h known n ms members given) p planned b functions have_places refl;
      main = main.0;
      stands = ap (slice_get p.packages) planned.main ∙ main.1;
      worlds = worlds_home;
      seen = sights_of_members t (numbered_members ms);
      foreign = record { reasons = reasons.reasons; functions = foreign_functions; whole = reasons.whole };
    }
