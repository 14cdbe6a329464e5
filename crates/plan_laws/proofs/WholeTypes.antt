-- What is exported at the top of a package: its interfaces, by the homes of their places.
use Rattle.base_lemmas.proofs.Bools.{first_false, left_of as first_true, right_of as second_true, second_false as later_false}
use Rattle.base_lemmas.proofs.{Lists.get_back, Lists.within_there as slice_there, Numbers.same-number}
use Rattle.base_lemmas.proofs.Elements.{contains-one, get-contains, last_of as one-contained, all_at, contains-later, contains-map, map_from as from_map, zip_at, zip_at_right as zip_get, all-contained}
use Rattle.std.proofs.lemmas.{Bool.false_from_ne_true, Bool.and_from as both, Bool.not-true as not_true, Bool.eqb-true, Bool.eq-eqb, Slice.Eq.bytes_eq-Decides}
use Rattle.std.proofs.Common.{rules as std_rules, ◌≡◌, refl, sym, ap, subst, ◌∙◌, ℕ, true, false, List, [], ◌∷◌, map, not, ◌+◌, ◌<◌, ◌⊎◌, inl, inr, arith, ◌&&◌, ◌==◌, length, Option, Some, None, option_map, slice_get, Bool, zero, suc, option_to_list, ◌||◌}
use Rattle.std.proofs.lemmas.Option.{slice_get_within, same_Some as same-some}
use Rattle.std.proofs.lemmas.List.Elements.{Contains-append_cases, Contains-append_left, Contains-append_right}
use Rattle.std.specs.{Borrow.Bor, List.Contains, List.list_any, List.list_all, List.flat_map, Prelude.option_and_then, Option.option_map_or}
use Rattle.wit_model.specs.{Text.Text, Text.text_eq, Names.PackageIdentity, Names.is_label, Names.path_in, Valid.as_interface, Valid.as_world}
use Rattle.wit_model.specs.Lookup.{place_of_path}
use Rattle.wit_model.proofs.{Elements.contains-flat, Elements.none-in, Elements.contains-filter_map, Elements.contains-get, NameLaws.read_path_is_spelled}
use Rattle.comp_meaning.specs.{Rules.distinct, Follow.instance_place}
use Rattle.plan_meaning.specs.{PlanRules.names_of, PlanRules.functions_of, ReadFunctions.Beside, ReadFunctions.FunctionsAreRead, ReadFunctions.IsReadFunction}
use Rattle.plan_meaning.specs.{NumberedWorlds.HasPath, NumberedWorlds.NumberedInstance, NumberedRules.Fact, FollowedNumbers.IsPartIn, FollowedNumbers.IsViewIn}
use Rattle.plan_meaning.specs.NumberedMembers.{Homes, NumberedMember, are_interfaces, home_at, sights_of_members, stands_at_top, is_interface_of, is_of_package}
use Rattle.plan_meaning.specs.NumberedViews.{AllOf, Tables, agree_in_numbers, declaration_of, path_at, place_at, FunctionShape, NumberedFunction, NumberedSight, function_at, NumberedView}
use Rattle.plan_meaning.specs.Plan.{Plan, PlannedInterface, PlannedPackage, package_in, path_of_planned, place_in, PlannedFunction, PlannedItem, PlannedKey, PlannedWorld, interface_in, item_function, items_of, world_in}
use Rattle.plan_meaning.specs.GatheredPlan.{BecomesIfGiven, FunctionBecomes, ParamBecomes, functions_seen}
use Rattle.plan_meaning.specs.ReadWholes.{IsPartOfFunction, IsPartOfKept, a_parameter, a_result, of_interface, of_world}
use Rattle.plan_meaning.proofs.Lists.{any_get, no_true}
use Rattle.read_rules.specs.declared.{reached.ImportedView.ImportedView, scopes.Scope.Scope, views.View.View, scopes.Seen.Seen, scopes.Shown.Shown}
use Rattle.read_rules.specs.{Reached.numbered_import, Scopes.numbered_scope}
use Rattle.read_exports.specs.declared.members.{Member.Member, Part.Part}
use Rattle.plan_package.specs.WholePackages.{interface_in_part, interfaces_in, PlansPackage, another, entries_from, the_main}
use Rattle.plan_package.specs.WholeWorlds.{world_in_part, worlds_in, PlansItem, PlansWorld, a_function, a_type, an_instance}
use Rattle.plan_package.specs.{PlanWhole.PlansWhole, PlanWhole.owners_in, PlanWhole.places_in, PlanWhole.shown_first, WholeInterfaces.Home}
use Rattle.plan_package.specs.Views.{views_of_members, views_of_part}
use Rattle.plan_laws.proofs.Sources.{one_under, number_given, owner_met, from_joined, all_of, partner, signed, view_among, mapped_cases, member_there, part_at}
use Rattle.plan_laws.proofs.{WorldKeys.world_member, MetNames.flat_cases, MetNames.name_same, ShownRules.rules_obeyed, ShownNames.names_are_shown}
use Rattle.plan_laws.proofs.ViewsAgree.{sight_there}
use Rattle.plan_laws.proofs.Owned.{first_there, home_alone, interface_there, shown_met, view_met, place_seen}
use Rattle.plan_laws.specs.{Whole.IsPackageInput, WholeReasons.AreShownAlike, WholeTypes.IsRuledInput, WholeTypes.PackagesAreRuled, WholeTypes.TypesAreWhole}
use Rattle.plan_laws.specs.{ShownRules.TypeObeys, ShownNames.IsInput, Owners.homes_in, Owners.owners_of}
use Rattle.read_exports.specs.Members.{numbered_members, numbered_member, numbered_part}
use Rattle.plan_types.specs.PlannedTypes.{number_in}
use Rattle.plan_types.specs.{Showings.NumberedShowing, Showings.showings_of_members, Showings.signatures_of_members, Used.function_parts, Used.signature_parts}
use Rattle.plan_type_laws.specs.{PlanTypes.NamesObey, ShownForms.FindsShown, ShownMarks.MarksStand, UsedParts.ShowingObeys}
use Rattle.plan_type_laws.proofs.{FirstFound.firsts_found, FormsObeyed.forms_obeyed, InnerForms.name_there, PlanTypes.types_are_kept, ShownMarks.names_marked}
use Rattle.plan_type_laws.proofs.{KeptMarks.marks_kept, KeptKinds.one_old}
use Rattle.plan_package.proofs.ReadPackageLaws.{number_at as number_there}
use Rattle.wit_model.specs.declared.model.TypeId.{TypeId}
use Rattle.plan_parts.specs.{Functions.KeptIfGiven, Functions.KeptParam, Functions.TakesAndGives, Interfaces.IsPlannedFunction}
use Rattle.read_exports.specs.declared.members.Part.TheVariants as parts
use Rattle.comp_meaning.specs.Reads as reads
use Rattle.comp_meaning.specs.Rules as rules
use Rattle.read_rules.specs.declared.scopes.Shown.TheVariants as shown
use Rattle.plan_laws.proofs.Sources as sources
use Rattle.plan_types.specs.Orders as orders

-- ---- What is exported at the top, by labels of which none stands twice.

-- ---- texts of which none stands twice

-- the first texts are some of the others, in order
pub data AreSome : List Text → List Text → Type 0 where
  none : AreSome [] []
  left_out : (x : Text) (xs ys : List Text) → AreSome xs ys → AreSome xs (x ∷ ys)
  taken : (x : Text) (xs ys : List Text) → AreSome xs ys → AreSome (x ∷ xs) (x ∷ ys)

pub not_some : (x : Text) (xs ys : List Text) → AreSome xs ys → list_any (text_eq x) ys ≡ false → list_any (text_eq x) xs ≡ false
not_some x xs ys none e = e
not_some x xs ys (left_out y a b more) e = not_some x a b more (later_false (text_eq x y) (list_any (text_eq x) b) e)
not_some x xs ys (taken y a b more) e = search (std_rules, first_false, later_false, not_some x a b more (later_false (text_eq x y) (list_any (text_eq x) b) e))

pub some_differ : (xs ys : List Text) → AreSome xs ys → distinct ys ≡ true → distinct xs ≡ true
some_differ xs ys none e = e
some_differ xs ys (left_out y a b more) e = some_differ a b more (second_true (not (list_any (text_eq y) b)) (distinct b) e)
some_differ xs ys (taken y a b more) e = search (std_rules, both, not_some, not_true, first_true, second_true, some_differ a b more (second_true (not (list_any (text_eq y) b)) (distinct b) e))

-- ---- labels

abbrev pub labels_of : List Member → List Text
labels_of ms = map (λ (m : Member). m.label.now) ms

-- ---- some of the labels

pub interface_labels : (ms : List Member) → AreSome (names_of (interfaces_in ms)) (labels_of ms)
interface_labels [] = none
interface_labels (m ∷ ms) = search (std_rules, left_out, taken, interface_labels ms)

pub world_labels : (ms : List Member) → AreSome (names_of (worlds_in ms)) (labels_of ms)
world_labels [] = none
world_labels (m ∷ ms) = search (std_rules, taken, left_out, world_labels ms)

-- ---- what is exported under a label

-- an interface of the place
pub record IsInterfaceOf (ms : List Member) (x : Text × ℕ) : Type 0 where
  pub member : Member
  pub among : Contains ms member
  pub label : member.label.now ≡ x.0
  pub view : View
  pub imports : Bor (List ImportedView)
  pub is : member.part ≡ parts.Interface x.1 view imports

pub interface_of : (ms : List Member) (x : Text × ℕ) → Contains (interfaces_in ms) x → IsInterfaceOf ms x
interface_of ms x c =
    let from = flat_cases (λ (m : Member). interface_in_part m.label.now m.part) ms x c in
    by from.0 from.1 from.0.part refl from.2
  where
    by : (m : Member) → Contains ms m → (a : Part) → m.part ≡ a → Contains (interface_in_part m.label.now a) x → IsInterfaceOf ms x
    by m among (parts.World w) is there = none-in x there
    by m among (parts.Interface q v imports) is there = search (std_rules, one-contained)

pub interface_among : (ms : List Member) (m : Member) → Contains ms m → (q : ℕ) (v : View) (imports : Bor (List ImportedView)) → m.part ≡ parts.Interface q v imports
    → Contains (interfaces_in ms) (m.label.now, q)
interface_among ms m c q v imports is = contains-flat (λ (x : Member). interface_in_part x.label.now x.part) ms m (m.label.now, q) c
    (subst (λ a. Contains (interface_in_part m.label.now a) (m.label.now, q)) (sym is) (contains-one (m.label.now, q)))

pub world_among : (ms : List Member) (m : Member) → Contains ms m → (w : Scope) → m.part ≡ parts.World w → Contains (worlds_in ms) (m.label.now, w)
world_among ms m c w is = contains-flat (λ (x : Member). world_in_part x.label.now x.part) ms m (m.label.now, w) c
    (subst (λ a. Contains (world_in_part m.label.now a) (m.label.now, w)) (sym is) (contains-one (m.label.now, w)))

module _ (ms : List Member) (differ : distinct (labels_of ms) ≡ true) where
  pub interfaces_differ : distinct (names_of (interfaces_in ms)) ≡ true
  interfaces_differ = some_differ (names_of (interfaces_in ms)) (labels_of ms) (interface_labels ms) differ

  pub worlds_differ : distinct (names_of (worlds_in ms)) ≡ true
  worlds_differ = some_differ (names_of (worlds_in ms)) (labels_of ms) (world_labels ms) differ

  -- no world has the label of an interface
  pub no_world : (x : Text × ℕ) → Contains (interfaces_in ms) x → list_any (text_eq x.0) (names_of (worlds_in ms)) ≡ false
  no_world x c = false_from_ne_true (list_any (text_eq x.0) (names_of (worlds_in ms))) (λ e.
      let found = any_get (text_eq x.0) (names_of (worlds_in ms)) e in
      let back = get_back (λ (w : Text × Scope). w.0) (worlds_in ms) found.0 found.1 found.2 in
      let there = interface_of ms x c in
      let world = world_member ms back.0 (get-contains (worlds_in ms) found.0 back.0 back.1) in
      let label : x.0 ≡ back.0.0 = (bytes_eq-Decides x.0 found.1).0 found.3 ∙ sym back.2 in
      let one : there.member ≡ world.0 = one_under (λ (m : Member). m.label.now) ms differ there.member world.0 there.among world.1 (there.label ∙ (label ∙ sym world.3)) in
      let wrong : parts.Interface x.1 there.view there.imports ≡ parts.World back.0.1 = sym there.is ∙ (ap (λ (m : Member). m.part) one ∙ world.2) in cc)

-- ---- what the page is for

-- ---- The types of a whole plan are those that were read.

-- ---- what is shown

module _ (t : Tables) where
  showing_obeys : (y : NumberedShowing) → TypeObeys t y → ShowingObeys t y
  showing_obeys y obeys = search (std_rules, name_there t y.part obeys.number obeys.place obeys.name obeys.part obeys.is.named)

module _ (t : Tables) (h : Homes) (ms : List Member) (members : List reads.Member) (ruled : IsRuledInput t h ms members) (main : ℕ) (p : Plan) (planned : PlansWhole t h.packages (home_at h) main ms p) where
  abbrev places : List ℕ
  places = places_in ms

  -- ---- places

  -- the package of this number
  pub package_there : (q : ℕ) (identity : PackageIdentity) → slice_get h.packages q ≡ Some identity → (k : PlannedPackage) × (package_in p q ≡ Some k) × (k.identity ≡ identity)
  package_there q identity at =
      let low : q < length p.packages = (let within = slice_get_within h.packages q identity at in let many = planned.packages.many in omega (arith, within, many)) in
      let found = slice_there p.packages q low in
      (found.0, found.1, by found.0 (planned.packages.each q found.0 found.1))
    where
      by : (k : PlannedPackage) → PlansPackage h.packages main places ms (entries_from (home_at h) q 0 places) q k → k.identity ≡ identity
      by k (the_main other is there made) = made.is ∙ same-some other identity (sym there ∙ at)
      by k (another other differs there made) = made.is ∙ same-some other identity (sym there ∙ at)

  -- the path of an interface of the plan
  pub path_planned : (i : PlannedInterface) (q : ℕ) (home : Option Home) → i.name ≡ option_map (λ (x : Home). x.1) home → i.package_ ≡ Some (option_map_or (λ (x : Home). x.0) home main)
      → home_at h q ≡ home → (o : Option Text) → path_at t q ≡ o → path_of_planned p i ≡ o
  path_planned i q home name package_ at (Some path) e =
      let is = ruled.input.homes.homes q path e in
      let same : home ≡ Some (is.package_, is.name) = sym at ∙ is.home in
      let found = package_there is.package_ is.identity is.stands in
      ap (λ o. option_and_then (λ name. option_and_then (λ n. option_map (λ (k : PlannedPackage). path_in k.identity name) (package_in p n)) i.package_) o)
      (name ∙ ap (option_map (λ (x : Home). x.1)) same)
      ∙ (ap (option_and_then (λ n. option_map (λ (k : PlannedPackage). path_in k.identity is.name) (package_in p n))) (package_ ∙ ap (λ o. Some (option_map_or (λ (x : Home). x.0) o main)) same)
      ∙ (ap (option_map (λ (k : PlannedPackage). path_in k.identity is.name)) found.1
      ∙ ap Some (ap (λ x. path_in x is.name) found.2 ∙ sym (read_path_is_spelled path is.identity is.name is.reads).spelled)))
  path_planned i q home name package_ at None e = search std_rules

  -- the place of an interface that is met
  interface_place : (m q : ℕ) → number_in places q ≡ Some m → place_in p (as_interface m) ≡ place_at t q
  interface_place m q e =
      let there = number_there places q m e in
      let found = interface_there t h ms members ruled.input main p planned m q there in
      let first = first_there t h ms members ruled.input main p planned m q there in
      let made = found.2 first.0 first.1 in
      ap place_of_path (ap (option_and_then (path_of_planned p)) found.1 ∙ path_planned found.0 q (home_at h q) made.name made.package_ refl (path_at t q) refl) ∙ (search std_rules)

  pub places_stand : (q : ℕ) → Contains places q ⊎ Contains (homes_in ms) q → place_in p (owners_of ms q) ≡ place_at t q
  places_stand q met = by (number_in places q) refl met
    where
      by : (o : Option ℕ) → number_in places q ≡ o → Contains places q ⊎ Contains (homes_in ms) q
          → place_in p (option_map_or as_interface o (option_map_or as_world (number_in (homes_in ms) q) (as_interface (length places + q)))) ≡ place_at t q
      by (Some m) e met = interface_place m q e
      by None e (inl among) = let given = number_given places q among in let wrong : ◌≡◌ {A = Option ℕ} None (Some given.0) = sym e ∙ given.1 in absurd cc
      by None e (inr among) = ap (λ o. place_in p (option_map_or as_world o (as_interface (length places + q)))) (number_given (homes_in ms) q among).1
          ∙ sym (ap instance_place (home_alone t h ms members ruled.input q among))

  -- ---- names

  name_obeys : NamesObey t p (owners_in ms) (shown_first ms) planned.kept_for.marks
  name_obeys n q name y mark at first =
      let found = (firsts_found (showings_of_members ms)).0 n y first in
      let obeys = all_at (TypeObeys t) (showings_of_members ms) ruled.rules.types y found.0 in
      let one : obeys.number ≡ n = (let a = obeys.part in let b = found.1 in omega (arith, a, b)) in
      let name_is = name_same t.shapes obeys.place q obeys.name name obeys.number n obeys.is.named at one in
      let shown = names_are_shown t h ms members ruled.input planned.kept_for.marks planned.kept_for.used n q name mark at in
      let met = shown_met ms t shown.0 shown.1 q n shown.2 in
      record {
        label = subst (λ (x : Text). is_label x ≡ true) name_is.1 obeys.label;
        behind = subst (λ k. AllOf (λ m. m < 14 + k) y.declared) one obeys.is.behind;
        obeys = subst (λ r. rules.is_declared (place_at t r) (declaration_of t y.declared) ≡ true) name_is.0 obeys.obeys;
        home = ap (place_in p) (owner_met places (homes_in ms) q met) ∙ places_stand q met;
      }

  -- ---- the types

  abbrev showings : List NumberedShowing
  showings = showings_of_members ms

  abbrev signatures : List ℕ
  signatures = signatures_of_members ms

  abbrev input : IsInput t h ms members
  input = ruled.input

  finds : FindsShown showings (shown_first ms)
  finds = (firsts_found showings).0

  marks : MarksStand t showings signatures
  marks = names_marked t input.tables h input.homes ms members input.shown input.stand ruled.kinds input.numbers ruled.placed

  pub planned_types_are_whole : TypesAreWhole t planned.kept ms p
  planned_types_are_whole = record {
    types = types_are_kept t input.tables showings (all_of (ShowingObeys t) showings (λ y c. showing_obeys t y (all_at (TypeObeys t) showings ruled.rules.types y c))) signatures ruled.rules.signatures
        (forms_obeyed t input.tables ruled.lengths h ms members input.shown input.stand) planned.kept_for.marks planned.kept_for.used planned.kept planned.kept_for.marked p (owners_in ms)
        (shown_first ms) finds planned.types name_obeys;
    marks = marks;
    marked = marks_kept t input.tables showings signatures marks planned.kept_for.marks planned.kept_for.used planned.kept planned.kept_for.marked p (owners_in ms) (shown_first ms) finds
        planned.types;
    places = places_stand;
  }

-- ---- packages

-- the four tests of what was followed
pub tests_hold : (t : Tables) (h : Homes) (known : ℕ → Fact) (n : ℕ) (ms : List Member) (members : List reads.Member) → IsPackageInput t h known n ms members
    → (list_all (λ (m : NumberedMember). n == m.package_) (numbered_members ms) ≡ true) × (list_all (stands_at_top h n (numbered_members ms)) (sights_of_members t (numbered_members ms)) ≡ true)
    × (agree_in_numbers (sights_of_members t (numbered_members ms)) ≡ true) × (are_interfaces t known (sights_of_members t (numbered_members ms)) ≡ true)
tests_hold t h known n ms members is = search std_rules

pub packages_are_ruled : PackagesAreRuled
packages_are_ruled t h known n ms members is = let tests = tests_hold t h known n ms members is in record {
  input = is.input;
  alone = is.alone;
  kinds = is.kinds;
  placed = is.placed;
  lengths = is.lengths;
  rules = rules_obeyed t is.input.tables h ms members is.input known is.sights tests.3;
  agree = tests.2;
}

-- ---- A part of a function that is shown is one of a function of the plan.

-- ---- parts of functions

module _ (t : Tables) (kept : List ℕ) (p : Plan) where
  -- a part of one is a part of the other, where both become this function
  same_part : (f shape : FunctionShape) (id : Option Text) (g : PlannedFunction) → TakesAndGives kept f g → FunctionBecomes t kept p shape id g → (old : ℕ) → Contains (signature_parts f) old
      → IsPartOfFunction shape old
  same_part f shape id g takes becomes old c = elim (Contains-append_cases (map (λ (x : Text × ℕ). x.1) f.params) (option_to_list f.result) old c) [
    | inl among ↦ (let x = from_map (λ (x : Text × ℕ). x.1) f.params old among in let j = contains-get f.params x.0 x.1 in let y = zip_at (KeptParam kept) f.params g.params takes.params j.0 x.0 j.1 in
        let z = zip_get (ParamBecomes t kept p) shape.params g.params becomes.params j.0 y.0 y.1 in
        a_parameter z.0.0 (subst (λ (n : ℕ). Contains shape.params (z.0.0, n)) (one_old kept z.0.1 x.0.1 y.0.1 z.2.1.part y.2.1 ∙ x.2) (get-contains shape.params j.0 z.0 z.1)))
    | inr last ↦ given f.result g.result shape.result refl takes.result becomes.result last
  ]
    where
      given : (a b d : Option ℕ) → shape.result ≡ d → KeptIfGiven kept a b → BecomesIfGiven t kept p d b → Contains (option_to_list a) old → IsPartOfFunction shape old
      given None b d e x y there = none-in old there
      given (Some k) None d e x y there = absurd x
      given (Some k) (Some m) None e x y there = absurd y
      given (Some k) (Some m) (Some l) e x y there = a_result (e ∙ ap Some (one_old kept l k m y.part x ∙ one-contained k old there))

abbrev planned_item : PlannedKey × PlannedItem → PlannedItem
planned_item e = e.1

-- the functions of a place are those of a whole view of it
pub record IsFirstWhole (q : ℕ) (seen : List NumberedSight) : Type 0 where
  pub sight : NumberedSight
  pub among : Contains seen sight
  pub place : sight.place ≡ q
  pub whole : sight.whole ≡ true
  pub functions : functions_seen q seen ≡ sight.view.functions

pub first_whole : (q : ℕ) (seen : List NumberedSight) (s : NumberedSight) → Contains seen s → s.place ≡ q → s.whole ≡ true → IsFirstWhole q seen
first_whole q [] s c place whole = none-in s c
first_whole q (r ∷ seen) s c place whole = by (r.place == q) refl r.whole refl c (λ later. first_whole q seen s later place whole)
  where
    further : (r.place == q && r.whole) ≡ false → IsFirstWhole q seen → IsFirstWhole q (r ∷ seen)
    further e found = search (std_rules, contains-later)

    past : (r.place == q && r.whole) ≡ false → Contains (r ∷ seen) s → Contains seen s
    past e (zero, low, same) =
        let own : (s.place == q) ≡ true = ap (λ k. k == q) place ∙ same-number q in
        let passes : (s.place == q && s.whole) ≡ true = λ i. own i && whole i in
        let wrong : false ≡ true = sym e ∙ (ap (λ (x : NumberedSight). x.place == q && x.whole) same ∙ passes) in
        absurd cc
    past e (suc i, low, same) = (i, omega (arith, low), same)

    by : (a : Bool) → (r.place == q) ≡ a → (b : Bool) → r.whole ≡ b → Contains (r ∷ seen) s → (Contains seen s → IsFirstWhole q seen) → IsFirstWhole q (r ∷ seen)
    by true e true f c later = search (std_rules, get-contains, eqb-true)
    by true e false f c later = let fails : (r.place == q && r.whole) ≡ false = λ i. e i && f i in further fails (later (past fails c))
    by false e b f c later = let fails : (r.place == q && r.whole) ≡ false = ap (λ a. a && r.whole) e in further fails (later (past fails c))

module _ (t : Tables) (h : Homes) (known : ℕ → Fact) (n : ℕ) (ms : List Member) (members : List reads.Member) (given : IsPackageInput t h known n ms members) (alike : AreShownAlike ms) (p : Plan)
    (planned : PlansWhole t h.packages (home_at h) n ms p) (b : Beside) (read : FunctionsAreRead t planned.kept p b) where
  abbrev kept : List ℕ
  kept = planned.kept

  abbrev views : List NumberedSight
  views = views_of_members (numbered_members ms)

  abbrev Kept : ℕ → Type 0
  Kept old = IsPartOfKept t h kept p b old

  -- ---- functions of views

  module _ (old : ℕ) where
    of_planned : (find : Text → Option TypeId) (m : ℕ) (i : PlannedInterface) (g : Text × NumberedFunction) → interface_in p m ≡ Some i → (e : Text × PlannedFunction) → Contains i.functions e
        → IsPlannedFunction t kept find g e → Contains (function_parts t g.1.signature) old → Kept old
    of_planned find m i g there e c is part =
        let among = contains-map (λ (x : Text × PlannedFunction). x.1) i.functions e c in
        let f = all_at (IsReadFunction t kept p b (as_interface m)) (functions_of i) (read.of_interfaces m i there) e.1 among in
        of_interface m i f.shape f.external_id e.1 there among f.kept_function.becomes
        (same_part t kept p (function_at t g.1.signature) f.shape f.external_id e.1 is.parts f.kept_function.becomes old part)

    by_view : (s : NumberedSight) → Contains views s → s.whole ≡ true → (f : Text × NumberedFunction) → Contains s.view.functions f → Contains (function_parts t f.1.signature) old → Kept old
    by_view s c whole f there part =
        let from = flat_cases (λ (m : NumberedMember). views_of_part m.part) (numbered_members ms) s c in
        let number = number_given (places_in ms) s.place (view_met ms from.0 from.1 s from.2) in
        let m = number.0 in
        let at = number_there (places_in ms) s.place m number.1 in
        let i = interface_there t h ms members given.input n p planned m s.place at in
        let first = first_there t h ms members given.input n p planned m s.place at in
        let is = i.2 first.0 first.1 in
        let r = first_whole s.place views s c refl whole in
        let g = alike.functions s r.sight c r.among (sym r.place) whole r.whole f there in
        let e = partner (IsPlannedFunction t kept is.find) (functions_seen s.place views) i.0.functions is.functions g.0 (subst (λ fs. Contains fs g.0) (sym r.functions) g.1) in
        of_planned is.find m i.0 g.0 i.1 e.0 e.1 e.2 (subst (λ k. Contains (function_parts t k) old) (sym g.2) part)

    -- ---- functions of worlds

    by_world : (m : Member) → Contains ms m → (w : Scope) → m.part ≡ parts.World w → (s : Seen) → Contains w.imports.now s ⊎ Contains w.exports.now s → (k : ℕ) → s.shown ≡ shown.Function k
        → Contains (function_parts t k) old → Kept old
    by_world m c w is s side k shows part =
        let j = contains-get (worlds_in ms) (m.label.now, w) (world_among ms m c w is) in
        let x = zip_at (PlansWorld t kept (places_in ms) n) (worlds_in ms) p.worlds planned.worlds j.0 (m.label.now, w) j.1 in
        in_world j.0 x.0 x.1 x.2 side
      where
        same_function : (a : ℕ) → shown.Function k ≡ shown.Function a → k ≡ a
        same_function a e = ap number e
          where
            number : Shown → ℕ
            number (shown.Function z) = z
            number _ = k

        of_item : (j : ℕ) (x : PlannedWorld) → world_in p j ≡ Some x → (find : Text → Option TypeId) (e : PlannedKey × PlannedItem) → Contains (items_of x) e.1
            → PlansItem t kept (places_in ms) find s e → Kept old
        of_item j x at find e there (an_instance key v other found) = let wrong : shown.Function k ≡ shown.Instance key v = sym shows ∙ other in absurd cc
        of_item j x at find e there (a_type d q l other entry is_part) = let wrong : shown.Function k ≡ shown.Declares d q = sym shows ∙ other in absurd cc
        of_item j x at find e there (a_function a other key f) =
            let g = f.function in
            let among = contains-filter_map _ _ _ g there (subst (λ i. Contains (option_to_list (item_function i)) g) (sym f.is) (contains-one g)) in
            let r = all_at _ _ (read.of_worlds j x at) g among in
            of_world j x r.shape r.external_id g at among r.kept_function.becomes
            (same_part t _ p _ _ _ g f.planned.parts r.kept_function.becomes _ (subst (λ z. Contains (function_parts t z) old) (same_function a (sym shows ∙ other)) part))

        in_world : (j : ℕ) (x : PlannedWorld) → world_in p j ≡ Some x → PlansWorld t kept (places_in ms) n (m.label.now, w) x → Contains w.imports.now s ⊎ Contains w.exports.now s → Kept old
        in_world j x at is (inl among) =
            let e = partner (PlansItem t kept (places_in ms) is.find) w.imports.now x.imports is.imports s among in
            of_item j x at is.find e.0 (Contains-append_left (map planned_item x.imports) (map planned_item x.exports) e.0.1 (contains-map planned_item x.imports e.0 e.1)) e.2
        in_world j x at is (inr among) =
            let e = partner (PlansItem t kept (places_in ms) is.find) w.exports.now x.exports is.exports s among in
            of_item j x at is.find e.0 (Contains-append_right (map planned_item x.imports) (map planned_item x.exports) e.0.1 (contains-map planned_item x.exports e.0 e.1)) e.2

    -- ---- all functions

    pub by_function : (k : ℕ) → Contains (signatures_of_members ms) k → Contains (function_parts t k) old → Kept old
    by_function k calls part = let from = signed t h ms members given.input k calls in by from.0 from.1 from.2
      where
        by : (m : Member) → Contains ms m → sources.IsSignedIn m.part k → Kept old
        by m c (sources.by_whole s there whole g among same) = by_view s (view_among ms m c s there) whole g among (subst (λ z. Contains (function_parts t z) old) (sym same) part)
        by m c (sources.by_world w is s side shows) = by_world m c w is s side k shows part

-- ---- views of places that have a path

module _ (t : Tables) where
  pub sight_of_place : (ms : List Member) (q : ℕ) → Contains (places_in ms) q → HasPath t q → (s : NumberedSight) × Contains (sights_of_members t (numbered_members ms)) s × (s.place ≡ q)
  sight_of_place ms q c path =
      let seen = place_seen ms q c in
      (seen.0, sight_there t (numbered_members ms) seen.0 seen.1 (path.0, ap (path_at t) seen.2 ∙ path.1), seen.2)

module _ (t : Tables) (h : Homes) (known : ℕ → Fact) (n : ℕ) (ms : List Member) (members : List reads.Member) (given : IsPackageInput t h known n ms members) where
  -- ---- members

  pub one_package : (m : Member) → Contains ms m → m.package_number ≡ n
  one_package m c = sym (eqb-true n _ (all-contained _ _ (numbered_member m) (tests_hold t h known n ms members given).0 (contains-map _ _ m c)))

  -- the package has an identity
  pub main_identity : (m : Member) → Contains ms m → (identity : PackageIdentity) × (slice_get h.packages n ≡ Some identity)
  main_identity m c =
      let there = member_there t h ms members given.input m c in
      (there.0.package_, ap (slice_get h.packages) (sym (one_package m c)) ∙ there.2.package_)

  -- an interface is under its path, whose home is the package under the label
  pub interface_home : (m : Member) → Contains ms m → (q : ℕ) (v : View) (imports : Bor (List ImportedView)) → m.part ≡ parts.Interface q v imports → HasPath t q
      × (home_at h q ≡ Some (n, m.label.now))
  interface_home m c q v imports is = search (std_rules, member_there t h ms members given.input m c, one_package m c)

  -- ---- the package's own

  -- an interface of the package that is seen is exported at the top
  pub record IsAtTop (q : ℕ) : Type 0 where
    pub member : Member
    pub among : Contains ms member
    pub view : View
    pub imports : Bor (List ImportedView)
    pub is : member.part ≡ parts.Interface q view imports

  pub at_top : (q : ℕ) (name : Text) → Contains (places_in ms) q → HasPath t q → home_at h q ≡ Some (n, name) → IsAtTop q
  at_top q name c path home =
      let seen = sight_of_place t ms q c path in
      let found = any_get (λ (m : NumberedMember). is_interface_of q m.part) (numbered_members ms)
      (ap (λ b. not b || list_any (λ (m : NumberedMember). is_interface_of q m.part) (numbered_members ms)) (sym (ap (λ o. option_map_or (λ (x : ℕ × Text). x.0 == n) o false) home ∙ eq-eqb n n refl))
      ∙ subst (λ (x : ℕ). (not (is_of_package h n x) || list_any (λ (m : NumberedMember). is_interface_of x m.part) (numbered_members ms)) ≡ true) seen.2
      (all-contained (stands_at_top h n (numbered_members ms)) (sights_of_members t (numbered_members ms)) seen.0 (tests_hold t h known n ms members given).1 seen.1)) in
      (let back = get_back numbered_member ms found.0 found.1 found.2 in
      by back.0 (get-contains ms found.0 back.0 back.1) back.0.part refl (ap (λ (x : NumberedMember). is_interface_of q x.part) back.2 ∙ found.3))
    where
      by : (m : Member) → Contains ms m → (a : Part) → m.part ≡ a → is_interface_of q (numbered_part a) ≡ true → IsAtTop q
      by m among (parts.World w) is e = no_true e
      by m among (parts.Interface p v imports) is e = record { member = m; among = among; view = v; imports = imports; is = is ∙ ap (λ x. parts.Interface x v imports) (sym (eqb-true q p e)) }

  -- ---- places without a path

  -- an instance of a world, in this place
  pub record IsOwnInstance (q : ℕ) : Type 0 where
    pub member : Member
    pub among : Contains ms member
    pub world : Scope
    pub is : member.part ≡ parts.World world
    pub instance : Contains (map (λ (i : NumberedInstance). i.place) (numbered_scope world).instances) q

  pub own_instance : (q : ℕ) → Contains (places_in ms) q → path_at t q ≡ None → IsOwnInstance q
  own_instance q c without = elim (from_joined [] (flat_map (λ (x : NumberedMember). orders.places_of_part x.part) (numbered_members ms)) q c) [
    | inl no_place ↦ none-in q no_place
    | inr among ↦ (let m = mapped_cases (λ (x : NumberedMember). orders.places_of_part x.part) numbered_member ms q among in
        of_part m.0 m.1 m.0.part refl (part_at t ms given.input.numbers m.0 m.1) m.2)
  ]
    where
      wrong : {A : Type 0} (p : ℕ) → p ≡ q → HasPath t p → A
      wrong p same path = let no : None ≡ Some path.0 = sym without ∙ (ap (path_at t) (sym same) ∙ path.1) in absurd cc

      of_part : (m : Member) → Contains ms m → (a : Part) → m.part ≡ a → IsPartIn t (numbered_part a) → Contains (orders.places_of_part (numbered_part a)) q → IsOwnInstance q
      of_part m among (parts.World w) is good there = record { member = m; among = among; world = w; is = is; instance = there }
      of_part m among (parts.Interface p v imports) is good there = elim (Contains-append_cases (map (λ (i : ℕ × NumberedView). i.0) (map numbered_import imports.now)) (p ∷ []) q there) [
        | inl among ↦ (let from = from_map (λ (i : ℕ × NumberedView). i.0) (map numbered_import imports.now) q among in
            wrong from.0.0 from.2 (all_at (λ (i : ℕ × NumberedView). HasPath t i.0 × IsViewIn t i.0 i.1) (map numbered_import imports.now) good.1 from.0 from.1).0)
        | inr last ↦ wrong p (one-contained p q last) good.0.0
      ]
