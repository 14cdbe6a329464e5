-- Types are numbered in the order in which they are declared.
use Rattle.std.proofs.Common.{rules as std_rules, ◌≡◌, refl, sym, ap, ◌∙◌, ℕ, zero, suc, arith, Bool, true, false, not, ◌&&◌, ◌==◌, cond, List, [], ◌∷◌, ◌++◌, map, Option, Some, None, is_none, subst, nat_lt, slice_get, option_map, append-nil, ◌+◌, ◌-◌, ◌<◌, take, unwrap_or, ◌≤◌, ◌⊎◌, inl, inr, length, option_and_then, option_to_list}
use Rattle.std.proofs.lemmas.Bool.{and_from as both, eqb-true, not-true, lt-ltb, cases_lt, le-ltb}
use Rattle.std.proofs.lemmas.{Grind.flat_map-append, Option.slice_get-map, Option.same_Some as same-some, Option.slice_get_within as found_below}
use Rattle.std.proofs.{ByRecursion.All-weaker as recursion_weaker, lemmas.List.Elements.Contains-append_left, lemmas.List.Elements.Contains-append_right}
use Rattle.std.specs.{List.AllByRecursion, List.AllZip, List.Contains, List.filter, List.flat_map, List.list_all, Option.option_map_or}
use Rattle.wit_model.specs.{Text.Text, Text.text_of, Uses.has, Uses.once}
use Rattle.wit_model.specs.{Lookup.interface_at, Lookup.path_of_interface, Lookup.world_at, Rules.interface_type_numbers, Rules.world_type_numbers}
use Rattle.wit_model.specs.{Parts.met_by, Parts.numbered_from, Parts.met_of, Tree.Form, Tree.Tree, Tree.children, Types.number_tree, Types.trees_of}
use Rattle.wit_model.proofs.{Chains.has_once, Elements.contains-has, Elements.none-in, Elements.contains-flat, Owners.numbered_at, Tables.grow_at}
use Rattle.comp_meaning.specs.Follow.{Instance, instance_place}
use Rattle.plan_meaning.specs.FollowedNumbers.{AreMembersIn, IsPartIn, IsViewIn}
use Rattle.plan_meaning.specs.{GatheredPlan.functions_seen, GatheredPlan.Becomes, Renumbering.IsPart, Renumbering.a_primitive, Renumbering.a_shape}
use Rattle.plan_meaning.specs.{Built.IsBuilt, Built.planned_function, Built.planned_interface, Built.planned_world, Built.planned_type, NumberedRules.Fact}
use Rattle.plan_meaning.specs.{PlanRules.are_rising, PlanRules.IsPlan, KeptTypes.IsKeptType, KeptTypes.unnamed, KeptTypes.declared, KeptTypes.TypesAreKept}
use Rattle.plan_meaning.specs.Plan.{Plan, PlannedInterface, PlannedWorld, numbers_of, path_of_planned, world_types, PlannedKind, PlannedType, kind_numbers, met_at, met_in, part_number, trees_in}
use Rattle.plan_meaning.specs.NumberedMembers.{Homes, IsMember, NumberedMember, NumberedPart, ShowsPart, interface, world, IsKnownSight, home_at, sights_of_members, sights_of_part}
use Rattle.plan_meaning.specs.NumberedViews.{AreTables, NumberedFunction, NumberedSight, NumberedView, Tables, path_at, shown_function, sight_of, HasNameIn, itself, inside, AreApart, IsOutside, place_at, tree_at}
use Rattle.plan_meaning.specs.NumberedWorlds.{HasPath, NumberedInstance, are_once, instance_of, sights_of_scope}
use Rattle.plan_meaning.specs.Shapes.{named_shape, node_shape, Shape, part_tree, shape_tree, shape_trees}
use Rattle.plan_types.specs.{Orders.places_of_part, PlannedTypes.number_in}
use Rattle.plan_type_laws.specs.ShownMarks.{has_no_path}
use Rattle.plan_package.specs.{Views.types_alone, Views.views_of_members, Views.views_of_part, Views.whole_view, PlanWhole.PlansWhole, PlanWhole.places_in}
use Rattle.plan_package.specs.{WholeInterfaces.PlansPlace, WholeWorlds.PlansWorld, WholeWorlds.world_in_part, WholeWorlds.worlds_in}
use Rattle.plan_package.proofs.{PlacedLaws.part_placed, ReadPackageLaws.number_at as number_there}
use Rattle.plan_laws.proofs.MetNames.{flat_cases}
use Rattle.plan_laws.proofs.{Owned.first_there, Owned.interface_there, WholeTypes.packages_are_ruled, WholeTypes.path_planned, Sources.number_given}
use Rattle.plan_laws.proofs.{PlannedFunctions.seen_same, WorldMeaning.functions_shown as functions_in_world, WorldMeaning.one_world, WorldMeaning.place_shown}
use Rattle.comp_read.specs.Order.{if_inline, inline_functions_shown, inline_shown, rise, FollowsParts, TypesRise, function_names, inline_function_names, once_by_path, packages_shown, shown_under, worlds_shown}
use Rattle.comp_read.specs.TypeOrder.{are_pathed, is_pathed, numbers_below, HasNumber, NumbersFollow}
use Rattle.comp_read.proofs.ShownOrder.{none_left, pathless, members_paths, names_alike, paths_once, scope_paths, joined_behind}
use Rattle.comp_read.proofs.PackageOrder.{built_identities}
use Rattle.comp_read.proofs.TypeNumbers.{zip_flat, IsOfSmaller, StandBehind, behind_mapped, below, counted_up}
use Rattle.base_lemmas.proofs.{Bools.left_of as first_true, Bools.right_of as second_true, Numbers.same-number}
use Rattle.base_lemmas.proofs.Lists.{append_of_map, flat_mapped, map_of_map, append_of_map as map_append, same_map as map_each, slice_take, within_there, get_back, length_of_map, mapped_get}
use Rattle.base_lemmas.proofs.Elements.{all_at, all_both, contains-later, contains-map, filter_keeps, first-contained, map_from, all_get, get-contains, zip_at_right, zip_each, zip_map as zip_names, filter_map_from, last_of, contains-one}
use Rattle.wit_model.specs.declared.model.{Interface.Interface, Resolve.Resolve, World.World}
use Rattle.plan_meaning.proofs.{TypeOrder.type_numbers_are, TypeOrder.world_types_are, KeptTypes.parts_before, KeptTypes.kept_types_pass}
use Rattle.plan_meaning.proofs.{NumberedMembers.all_sights, Words.path_of_planned_is, Words.plan_of, Words.behind, Words.met_are, Words.trees_are}
use Rattle.plan_meaning.proofs.{NumberedWorlds.path_is, Renumbering.trees_are_kept}
use Rattle.plan_meaning.proofs.ShapeLaws.{name_tree, node_tree, one_number_apart, part_behind, split_part, tree_at_number}
use Rattle.plan_parts.specs.Interfaces.{IsPlannedFunction}
use Rattle.read_exports.specs.Members.{numbered_members, numbered_part}
use Rattle.read_exports.specs.declared.members.{Member.Member, Part.Part}
use Rattle.read_rules.specs.Scopes.{numbered_scope}
use Rattle.read_rules.specs.declared.scopes.Scope.{Scope}
use Rattle.plan_laws.specs.{OneWorld.AreOwnInterfaces, Whole.IsPackageInput}
use Rattle.read_follow.specs.Numbering.{bare_parts, scoped_trees, CountUp, IsNext}
use Rattle.read_follow.proofs.NumberingLaws.{count_below}
use Rattle.read_numbers.specs.PlacedNumbers.{IsMetPart}
use Rattle.read_parts.specs.Members.{DeclaringScope}
use Rattle.comp_meaning.specs.Reads as reads
use Rattle.read_exports.specs.declared.members.Part.TheVariants as parts

-- ---- What is built of a plan stands in the order of what was followed.

-- ---- The functions of inline interfaces stand in the order of the one view of each.

-- ---- lists

flat_in : {A C : Type 0} (f g : A → List C) (xs : List A) → ((x : A) → Contains xs x → f x ≡ g x) → flat_map f xs ≡ flat_map g xs
flat_in f g [] same = refl
flat_in f g (x ∷ xs) same = λ i. same x (first-contained x xs) i ++ flat_in f g xs (λ y c. same y (contains-later x xs y c)) i

pub flat_each : {A C : Type 0} (f g : A → List C) → ((x : A) → f x ≡ g x) → (xs : List A) → flat_map f xs ≡ flat_map g xs
flat_each f g same xs = λ i. flat_map (λ x. same x i) xs

-- a number that gives nothing may be left out
left_out : {C : Type 0} (g : ℕ → List C) (n : ℕ) → g n ≡ [] → (ns : List ℕ) → flat_map g (filter (λ m. not (m == n)) ns) ≡ flat_map g ns
left_out g n none [] = refl
left_out g n none (m ∷ ms) = search (std_rules, eqb-true, left_out g n none ms)

-- ---- views

-- the names of the functions of a place, if it has no path
abbrev pub inline_at : Tables → List NumberedSight → ℕ → List (List Text)
inline_at t seen q = if_inline (path_at t q) (map (λ (f : Text × NumberedFunction). f.0) (functions_seen q seen))

-- those of a view
abbrev inline_of : Tables → NumberedSight → List (List Text)
inline_of t s = if_inline (path_at t s.place) (map (λ (f : Text × NumberedFunction). f.0) s.view.functions)

abbrev places : List NumberedSight → List ℕ
places seen = map (λ (s : NumberedSight). s.place) seen

nothing_under : (t : Tables) (q : ℕ) → HasPath t q → (names : List Text) → if_inline (path_at t q) names ≡ []
nothing_under t q path names = ap (λ o. if_inline o names) path.1

module _ (t : Tables) (tables : AreTables t) where
  -- places without a path stand once
  flat_once : {C : Type 0} (g : ℕ → List C) → ((q : ℕ) → HasPath t q → g q ≡ []) → (ns : List ℕ) → are_once (filter (has_no_path t) ns) ≡ true → flat_map g (once ns) ≡ flat_map g ns
  flat_once g nothing [] alone = refl
  flat_once g nothing (n ∷ ns) alone = by (path_at t n) refl alone (flat_once g nothing ns)
    where
      rest_of : Bool → List ℕ
      rest_of b = cond b (n ∷ filter (has_no_path t) ns) (filter (has_no_path t) ns)

      by : (o : Option Text) → path_at t n ≡ o → are_once (rest_of (is_none o)) ≡ true → (are_once (filter (has_no_path t) ns) ≡ true → flat_map g (once ns) ≡ flat_map g ns)
          → g n ++ flat_map g (filter (λ m. not (m == n)) (once ns)) ≡ g n ++ flat_map g ns
      by None e alone more = search (std_rules, none_left, has_once, pathless, not-true, first_true, second_true)
      by (Some path) e alone more = ap (λ xs. g n ++ xs) (left_out g n (nothing n (path, e)) (once ns) ∙ more alone)

  -- a view of a place without a path is the one of it
  module _ (rest : List NumberedSight) (s : NumberedSight) (none : path_at t s.place ≡ None) (whole : s.whole ≡ true) where
    one_view : (seen : List NumberedSight) → are_once (filter (has_no_path t) (places seen)) ≡ true → Contains seen s → functions_seen s.place (seen ++ rest) ≡ s.view.functions
    one_view [] alone c = none-in s c
    one_view (v ∷ vs) alone (zero, low, same) = search (std_rules, both, same-number)
    one_view (v ∷ vs) alone (suc j, low, same) = later (has_no_path t v.place) refl alone (λ rest_alone. one_view vs rest_alone (j, omega (arith, low), same))
      where
        among : Contains vs s
        among = (j, omega (arith, low), same)

        left : List ℕ
        left = filter (has_no_path t) (places vs)

        there : has left s.place ≡ true
        there = contains-has left s.place (filter_keeps (has_no_path t) (places vs) s.place (contains-map (λ (u : NumberedSight). u.place) vs s among) (ap is_none none))

        go : (v.place == s.place) ≡ false → functions_seen s.place (vs ++ rest) ≡ s.view.functions → functions_seen s.place ((v ∷ vs) ++ rest) ≡ s.view.functions
        go other found = ap (λ b. cond (b && v.whole) v.view.functions (functions_seen s.place (vs ++ rest))) other ∙ found

        differs : (b : Bool) → (v.place == s.place) ≡ b → has_no_path t v.place ≡ false → (v.place == s.place) ≡ false
        differs false e f = e
        differs true e f = let wrong : true ≡ false = sym (ap is_none none) ∙ (ap (has_no_path t) (sym (eqb-true v.place s.place e)) ∙ f) in absurd cc

        apart : (b : Bool) → (v.place == s.place) ≡ b → has left v.place ≡ false → (v.place == s.place) ≡ false
        apart false e f = e
        apart true e f = let wrong : true ≡ false = sym there ∙ (ap (has left) (sym (eqb-true v.place s.place e)) ∙ f) in absurd cc

        later : (b : Bool) → has_no_path t v.place ≡ b → are_once (cond b (v.place ∷ left) left) ≡ true → (are_once left ≡ true → functions_seen s.place (vs ++ rest) ≡ s.view.functions)
            → functions_seen s.place ((v ∷ vs) ++ rest) ≡ s.view.functions
        later true e all more = go (apart (v.place == s.place) refl (not-true (has left v.place) (first_true _ _ all))) (more (second_true _ _ all))
        later false e all more = go (differs (v.place == s.place) refl e) (more all)

  -- so the functions of places are those of the views
  pub views_inline : (seen rest : List NumberedSight) → are_once (filter (has_no_path t) (places seen)) ≡ true
      → ((s : NumberedSight) → Contains seen s → path_at t s.place ≡ None → s.whole ≡ true) → flat_map (inline_at t (seen ++ rest)) (once (places seen)) ≡ flat_map (inline_of t) seen
  views_inline seen rest alone wholes = flat_once (inline_at t (seen ++ rest)) (λ q path. nothing_under t q path (map (λ (f : Text × NumberedFunction). f.0) (functions_seen q (seen ++ rest))))
      (places seen) alone ∙ (sym (flat_mapped (inline_at t (seen ++ rest)) (λ (s : NumberedSight). s.place) seen)
      ∙ flat_in (λ (s : NumberedSight). inline_at t (seen ++ rest) s.place) (inline_of t) seen (λ s c. by s c (path_at t s.place) refl))
    where
      by : (s : NumberedSight) → Contains seen s → (o : Option Text) → path_at t s.place ≡ o
          → if_inline o (map (λ (f : Text × NumberedFunction). f.0) (functions_seen s.place (seen ++ rest))) ≡ if_inline o (map (λ (f : Text × NumberedFunction). f.0) s.view.functions)
      by s c None e = ap (λ (fs : List (Text × NumberedFunction)). map (λ (f : Text × NumberedFunction). f.0) fs ∷ []) (one_view rest s e (wholes s c e) seen alone c)
      by s c (Some path) e = refl

-- ---- members

module _ (t : Tables) where
  -- an interface at the top has a path, and what it imports
  pathed : (p : ℕ) (v : NumberedView) (imports : List (ℕ × NumberedView)) → IsPartIn t (interface p v imports)
      → AllByRecursion (λ (s : NumberedSight). HasPath t s.place) (views_of_part (interface p v imports))
  pathed p v imports is =
      all_both (λ (s : NumberedSight). HasPath t s.place) (map types_alone imports) (record { place = p; view = v; whole = true } ∷ []) (all_imports imports is.1) (is.0.0, tt)
    where
      all_imports : (ys : List (ℕ × NumberedView)) → AllByRecursion (λ (i : ℕ × NumberedView). HasPath t i.0 × IsViewIn t i.0 i.1) ys
          → AllByRecursion (λ (s : NumberedSight). HasPath t s.place) (map types_alone ys)
      all_imports [] all = tt
      all_imports (y ∷ ys) all = (all.0.0, all_imports ys all.1)

  nothing_inline : (seen : List NumberedSight) → AllByRecursion (λ (s : NumberedSight). HasPath t s.place) seen → flat_map (inline_of t) seen ≡ []
  nothing_inline [] all = refl
  nothing_inline (s ∷ seen) all = λ i. nothing_under t s.place all.0 (map (λ (f : Text × NumberedFunction). f.0) s.view.functions) i ++ nothing_inline seen all.1 i

  instance_inline : (i : NumberedInstance) → inline_of t (whole_view i) ≡ if_inline (instance_of t i).interface (map (λ f. f.0) (instance_of t i).view.functions)
  instance_inline i = ap (if_inline (path_at t i.place)) (sym (map_of_map (λ f. f.0) (shown_function t) i.view.functions))

  part_inline : (h : Homes) (m : NumberedMember) (x : reads.Member) (a : NumberedPart) (b : reads.Part) → ShowsPart t h m a b → IsPartIn t a
      → flat_map (inline_of t) (views_of_part a) ≡ inline_shown (record { label = x.label; package_ = x.package_; part = b })
  part_inline h m x (world w) (reads.Part.world scope) shows is = sym (flat_mapped (inline_of t) whole_view w.instances)
      ∙ (flat_each (λ i. inline_of t (whole_view i)) (λ i. if_inline (instance_of t i).interface (map (λ f. f.0) (instance_of t i).view.functions)) instance_inline w.instances
      ∙ (flat_mapped (λ (i : Instance). if_inline i.interface (map (λ f. f.0) i.view.functions)) (instance_of t) w.instances
      ∙ ap (flat_map (λ (i : Instance). if_inline i.interface (map (λ f. f.0) i.view.functions))) (sym shows.instances)))
  part_inline h m x (interface p v imports) (reads.Part.interface view views) shows is = nothing_inline (views_of_part (interface p v imports)) (pathed p v imports is)
  part_inline h m x _ _ shows is = absurd shows

  pub members_inline : (h : Homes) (ks : List NumberedMember) (members : List reads.Member) → AllZip (IsMember t h) ks members → AreMembersIn t ks
      → flat_map (inline_of t) (views_of_members ks) ≡ inline_functions_shown members
  members_inline h [] [] zip all = refl
  members_inline h (k ∷ ks) (x ∷ xs) zip all = flat_map-append (inline_of t) (views_of_part k.part) (views_of_members ks)
      ∙ (λ i. part_inline h k x k.part x.part zip.0.part all.0 i ++ members_inline h ks xs zip.1 all.1 i)
  members_inline h _ _ zip all = absurd zip

  -- a view without a path is whole
  pub inline_whole : (ks : List NumberedMember) → AreMembersIn t ks → (s : NumberedSight) → Contains (views_of_members ks) s → path_at t s.place ≡ None → s.whole ≡ true
  inline_whole ks all s c none =
      let from = flat_cases (λ (k : NumberedMember). views_of_part k.part) ks s c in
      by from.0.part (all_at (λ (k : NumberedMember). IsPartIn t k.part) ks all from.0 from.1) from.2
    where
      by : (a : NumberedPart) → IsPartIn t a → Contains (views_of_part a) s → s.whole ≡ true
      by (world w) is among = let from = map_from whole_view w.instances s among in ap (λ (y : NumberedSight). y.whole) (sym from.2)
      by (interface p v imports) is among =
          let path = all_at (λ (y : NumberedSight). HasPath t y.place) (views_of_part (interface p v imports)) (pathed p v imports is) s among in
          let wrong : None ≡ Some path.0 = sym none ∙ path.1 in absurd cc

pub views_placed : (ks : List NumberedMember) → places (views_of_members ks) ≡ flat_map (λ (k : NumberedMember). places_of_part k.part) ks
views_placed [] = refl
views_placed (k ∷ ks) = append_of_map (λ (s : NumberedSight). s.place) (views_of_part k.part) (views_of_members ks) ∙ (λ i. part_placed k.part i ++ views_placed ks i)

-- ---- what is shown, in numbers

-- These views are what is shown, of places with a path, interfaces are shown under these paths, and the places of the parts stand so, with the functions of
-- those that have a path.
pub record AreShown (t : Tables) (ms : List Member) (seen : List NumberedSight) (shown : List reads.Sight) (under : List (Option Text)) : Type 0 where
  pub are : shown ≡ map (sight_of t) seen
  pub paths : AllByRecursion (λ (s : NumberedSight). HasPath t s.place) seen
  pub order : map (path_at t) (places_in ms) ≡ once_by_path under
  pub functions : (q : ℕ) → Contains (places_in ms) q → HasPath t q → functions_seen q (sights_of_members t (numbered_members ms)) ≡ functions_seen q seen

-- the places of all interfaces that are shown, in order
abbrev pub places_shown : List Member → List ℕ
places_shown ms = flat_map (λ (m : NumberedMember). places_of_part m.part) (numbered_members ms)

-- those without a path differ
abbrev pub StandAlone : Tables → List Member → Type 0
StandAlone t ms = are_once (filter (has_no_path t) (places_shown ms)) ≡ true

module _ (t : Tables) (h : Homes) (known : ℕ → Fact) (n : ℕ) (ms : List Member) (members : List reads.Member) (given : IsPackageInput t h known n ms members) where
  abbrev sights : List NumberedSight
  sights = sights_of_members t (numbered_members ms)

  -- the views of a package are so
  pub package_shown : StandAlone t ms → AreShown t ms sights (flat_map reads.sights members) (flat_map shown_under members)
  package_shown alone = record {
    are = all_sights t given.input.tables h given.input.homes (numbered_members ms) members given.input.shown;
    paths = recursion_weaker (IsKnownSight t known) (λ (s : NumberedSight). HasPath t s.place) (λ s is. (is.0.path, is.0.home)) sights given.sights;
    order = ap (map (path_at t)) (joined_behind [] (places_shown ms)) ∙ (paths_once t given.input.tables (places_shown ms) alone
        ∙ ap once_by_path (members_paths t given.input.tables h given.input.homes (numbered_members ms) members given.input.shown given.input.numbers));
    functions = λ q c path. refl;
  }

  -- the functions of its inline interfaces stand as they are shown
  pub package_inline : StandAlone t ms → flat_map (inline_at t (views_of_members (numbered_members ms))) (places_in ms) ≡ inline_functions_shown members
  package_inline alone =
      let views = views_of_members (numbered_members ms) in
      ap (flat_map (inline_at t views)) (joined_behind [] (places_shown ms) ∙ ap once (sym (views_placed (numbered_members ms))))
      ∙ (ap (λ (seen : List NumberedSight). flat_map (inline_at t seen) (once (map (λ (s : NumberedSight). s.place) views))) (sym (append-nil views))
      ∙ (views_inline t given.input.tables views [] (ap (λ ps. are_once (filter (has_no_path t) ps)) (views_placed (numbered_members ms)) ∙ alone)
      (inline_whole t (numbered_members ms) given.input.numbers) ∙ members_inline t h (numbered_members ms) members given.input.shown given.input.numbers))

  module _ (p : Plan) (planned : PlansWhole t h.packages (home_at h) n ms p) (seen : List NumberedSight) (shown : List reads.Sight) (under : List (Option Text)) (are : AreShown t ms seen shown under) where
    abbrev IsMadeFor : ℕ → PlannedInterface → Type 0
    IsMadeFor q i = (path_of_planned p i ≡ path_at t q) × (map (λ f. f.0) i.functions ≡ map (λ f. f.0) (functions_seen q (views_of_members (numbered_members ms))))

    made_there : (k q : ℕ) (i : PlannedInterface) → slice_get (places_in ms) k ≡ Some q → slice_get p.interfaces k ≡ Some i → IsMadeFor q i
    made_there k q i at there =
        let found = interface_there t h ms members given.input n p planned k q at in
        let first = first_there t h ms members given.input n p planned k q at in
        let made = found.2 first.0 first.1 in
        subst (IsMadeFor q) (same-some found.0 i (sym found.1 ∙ there)) (
          path_planned t h ms members (packages_are_ruled t h known n ms members given) n p planned found.0 q (home_at h q) made.name made.package_ refl (path_at t q) refl,
          zip_names (IsPlannedFunction t planned.kept made.find) (λ f. f.0) (λ e. e.0) (λ f e is. is.under) (functions_seen q (views_of_members (numbered_members ms))) found.0.functions
              made.functions,
        )

    pub paths_planned : map (path_of_planned p) p.interfaces ≡ once_by_path under
    paths_planned = zip_names (λ q i. path_of_planned p i ≡ path_at t q) (path_at t) (path_of_planned p) (λ q i e. e) (places_in ms) p.interfaces
        (zip_each (PlansPlace t planned.kept n (home_at h) (views_of_members (numbered_members ms))) (λ q i. path_of_planned p i ≡ path_at t q) (places_in ms) p.interfaces planned.interfaces
        (λ k q i at there. (made_there k q i at there).0)) ∙ are.order

    pub functions_planned : (k : ℕ) (i : PlannedInterface) (path : Text) → slice_get p.interfaces k ≡ Some i → path_of_planned p i ≡ Some path
        → map (λ f. f.0) i.functions ≡ map (λ f. f.0) (reads.functions_of path shown)
    functions_planned k i path there at_path =
        let back = zip_at_right (PlansPlace t planned.kept n (home_at h) (views_of_members (numbered_members ms))) (places_in ms) p.interfaces planned.interfaces k i there in
        let made = made_there k back.0 i back.1 there in
        let has : HasPath t back.0 = (path, sym made.0 ∙ at_path) in
        made.1 ∙ (ap (map (λ f. f.0)) (seen_same t back.0 has (numbered_members ms) ∙ are.functions back.0 (get-contains (places_in ms) k back.0 back.1) has)
        ∙ (sym (names_alike t given.input.tables back.0 has seen are.paths) ∙ (λ j. map (λ f. f.0) (reads.functions_of (path_is t back.0 has j) (sym are.are j)))))

    pub inline_planned : flat_map (λ (i : PlannedInterface). if_inline (path_of_planned p i) (map (λ f. f.0) i.functions)) p.interfaces
        ≡ flat_map (inline_at t (views_of_members (numbered_members ms))) (places_in ms)
    inline_planned = sym (zip_flat (inline_at t (views_of_members (numbered_members ms))) (λ (i : PlannedInterface). if_inline (path_of_planned p i) (map (λ f. f.0) i.functions)) (places_in ms)
        p.interfaces (zip_each (PlansPlace t planned.kept n (home_at h) (views_of_members (numbered_members ms)))
        (λ q i. inline_at t (views_of_members (numbered_members ms)) q ≡ if_inline (path_of_planned p i) (map (λ f. f.0) i.functions)) (places_in ms) p.interfaces planned.interfaces
        (λ k q i at there. let made = made_there k q i at there in λ j. if_inline (sym made.0 j) (sym made.1 j))))

    pub worlds_planned : map (λ w. w.name) p.worlds ≡ map (λ w. w.0) (worlds_in ms)
    worlds_planned = zip_names (PlansWorld t planned.kept (places_in ms) n) (λ w. w.0) (λ w. w.name) (λ w x is. is.name) (worlds_in ms) p.worlds planned.worlds

-- ---- worlds

part_worlds : (t : Tables) (h : Homes) (m : NumberedMember) (x : reads.Member) → x.label ≡ m.label → (label : Text) → label ≡ m.label → (a : Part) (b : reads.Part)
    → ShowsPart t h m (numbered_part a) b → map (λ w. w.0) (world_in_part label a) ≡ map (λ w. w.0) (reads.worlds_of_member (record { label = x.label; package_ = x.package_; part = b }))
part_worlds t h m x under label same y z is = search std_rules

pub worlds_meant : (t : Tables) (h : Homes) (ms : List Member) (members : List reads.Member) → AllZip (IsMember t h) (numbered_members ms) members
    → map (λ w. w.0) (worlds_in ms) ≡ worlds_shown members
worlds_meant t h [] [] zip = refl
worlds_meant t h (m ∷ ms) (x ∷ xs) zip = search (std_rules, map_append, part_worlds, worlds_meant t h ms xs zip.1)
worlds_meant t h _ _ zip = absurd zip

-- ---- what is built

same_rise : (ns : List ℕ) → rise ns ≡ are_rising ns
same_rise [] = refl
same_rise (n ∷ ns) = ap (λ b. list_all (nat_lt n) ns && b) (same_rise ns)

module _ (p : Plan) (r : Resolve) (built : IsBuilt p r) where
  pub is_plan : p ≡ plan_of r p.main
  is_plan = λ i. record { packages = sym built.packages i; interfaces = sym built.interfaces i; worlds = sym built.worlds i; types = sym built.types i; main = p.main }

  path_built : (i : Interface) → path_of_planned p (planned_interface i) ≡ path_of_interface r i
  path_built i = ap (λ (q : Plan). path_of_planned q (planned_interface i)) is_plan ∙ path_of_planned_is r p.main i

  pub paths_built : map (path_of_interface r) r.interfaces.items ≡ map (path_of_planned p) p.interfaces
  paths_built = search (std_rules, map_each, path_built, map_of_map)

  pub built_at : (k : ℕ) (i : Interface) → interface_at r k ≡ Some i → slice_get p.interfaces k ≡ Some (planned_interface i)
  built_at k i at = ap (λ ks. slice_get ks k) (sym built.interfaces) ∙ (slice_get-map planned_interface r.interfaces.items k ∙ ap (option_map planned_interface) at)

  pub functions_built : (shown : List reads.Sight)
      → ((k : ℕ) (i : PlannedInterface) (path : Text) → slice_get p.interfaces k ≡ Some i → path_of_planned p i ≡ Some path
      → map (λ f. f.0) i.functions ≡ map (λ f. f.0) (reads.functions_of path shown))
      → (k : ℕ) (i : Interface) (path : Text) → interface_at r k ≡ Some i → path_of_interface r i ≡ Some path → function_names i ≡ map (λ f. f.0) (reads.functions_of path shown)
  functions_built shown planned k i path at under =
      sym (map_of_map (λ f. f.0) (λ e. (text_of e.0, planned_function e.1)) i.functions.entries) ∙ planned k (planned_interface i) path (built_at k i at) (path_built i ∙ under)

  names_built : (i : Interface) → function_names i ≡ map (λ f. f.0) (planned_interface i).functions
  names_built i = sym (map_of_map (λ f. f.0) (λ e. (text_of e.0, planned_function e.1)) i.functions.entries)

  pub inline_built : inline_function_names r ≡ flat_map (λ (i : PlannedInterface). if_inline (path_of_planned p i) (map (λ f. f.0) i.functions)) p.interfaces
  inline_built = flat_each (λ (i : Interface). if_inline (path_of_interface r i) (function_names i))
      (λ (i : Interface). if_inline (path_of_planned p (planned_interface i)) (map (λ f. f.0) (planned_interface i).functions)) (λ i j. if_inline (sym (path_built i) j) (names_built i j))
      r.interfaces.items ∙ (flat_mapped (λ (i : PlannedInterface). if_inline (path_of_planned p i) (map (λ f. f.0) i.functions)) planned_interface r.interfaces.items
      ∙ ap (flat_map (λ (i : PlannedInterface). if_inline (path_of_planned p i) (map (λ f. f.0) i.functions))) built.interfaces)

  pub worlds_built : map (λ w. text_of w.name) r.worlds.items ≡ map (λ w. w.name) p.worlds
  worlds_built = sym (map_of_map (λ (w : PlannedWorld). w.name) planned_world r.worlds.items) ∙ ap (map (λ w. w.name)) built.worlds

  pub world_built_at : (k : ℕ) (w : World) → world_at r k ≡ Some w → slice_get p.worlds k ≡ Some (planned_world w)
  world_built_at k w at = ap (λ ks. slice_get ks k) (sym built.worlds) ∙ (slice_get-map planned_world r.worlds.items k ∙ ap (option_map planned_world) at)

  -- the types of a plan that was read
  module _ (is : IsPlan p) (rises : are_rising (flat_map (λ (i : PlannedInterface). numbers_of i.types) p.interfaces) ≡ true) where
    numbers_built : flat_map interface_type_numbers r.interfaces.items ≡ flat_map (λ (i : PlannedInterface). numbers_of i.types) p.interfaces
    numbers_built = (λ j. flat_map (λ (i : Interface). sym (type_numbers_are i) j) r.interfaces.items)
        ∙ (flat_mapped (λ (i : PlannedInterface). numbers_of i.types) planned_interface r.interfaces.items ∙ ap (flat_map (λ (i : PlannedInterface). numbers_of i.types)) built.interfaces)

    pub types_built : TypesRise r
    types_built = record {
      interfaces = same_rise (flat_map interface_type_numbers r.interfaces.items) ∙ (ap are_rising numbers_built ∙ rises);
      worlds = λ k w at. same_rise (world_type_numbers w) ∙ (ap are_rising (sym (world_types_are w))
          ∙ all_get (λ x. are_rising (world_types x)) p.worlds k (planned_world w) is.world_types_rise (world_built_at k w at));
    }

pub package_follows : (t : Tables) (h : Homes) (known : ℕ → Fact) (n : ℕ) (ms : List Member) (members : List reads.Member) → IsPackageInput t h known n ms members → StandAlone t ms
    → h.packages ≡ packages_shown members → (p : Plan) → PlansWhole t h.packages (home_at h) n ms p → (r : Resolve) → IsBuilt p r → TypesRise r → FollowsParts members r
package_follows t h known n ms members given alone packages p planned r built types =
    let are = package_shown t h known n ms members given alone in
    let seen = sights_of_members t (numbered_members ms) in
    let shown = flat_map reads.sights members in
    let under = flat_map shown_under members in
    record {
      packages = built_identities t h.packages (home_at h) n ms p planned r built ∙ packages;
      interfaces = paths_built p r built ∙ paths_planned t h known n ms members given p planned seen shown under are;
      functions = functions_built p r built shown (functions_planned t h known n ms members given p planned seen shown under are);
      inline = inline_built p r built ∙ (inline_planned t h known n ms members given p planned seen shown under are ∙ package_inline t h known n ms members given alone);
      worlds = worlds_built p r built ∙ (worlds_planned t h known n ms members given p planned seen shown under are ∙ worlds_meant t h ms members given.input.shown);
      types = types;
    }

-- One world beside the interfaces of its package that it shows.
module _ (t : Tables) (h : Homes) (known : ℕ → Fact) (n : ℕ) (m : Member) (own : List Member) (members : List reads.Member) (given : IsPackageInput t h known n (m ∷ own) members) (w : Scope)
    (is : m.part ≡ parts.World w)
    (own_are : AreOwnInterfaces t h n (numbered_scope w) (numbered_members own)) (met : places_in (m ∷ own) ≡ once (map (λ (i : NumberedInstance). i.place) (numbered_scope w).instances))
    (ones : List reads.Member) (zip : AllZip (IsMember t h) (numbered_members (m ∷ [])) ones) (alone : StandAlone t (m ∷ [])) where
  abbrev world_seen : List NumberedSight
  world_seen = sights_of_scope t (numbered_scope w)

  abbrev world_views : List reads.Sight
  world_views = flat_map reads.sights ones

  one_places : places_shown (m ∷ []) ≡ map (λ (i : NumberedInstance). i.place) (numbered_scope w).instances
  one_places = ap (λ a. places_of_part (numbered_part a) ++ []) is ∙ append-nil (map (λ (i : NumberedInstance). i.place) (numbered_scope w).instances)

  -- the views of the world are so
  world_shown : AreShown t (m ∷ own) world_seen world_views (flat_map shown_under ones)
  world_shown = record {
    are = all_sights t given.input.tables h given.input.homes (numbered_members (m ∷ [])) ones zip
        ∙ ap (map (sight_of t)) (ap (λ a. sights_of_part t (numbered_part a) ++ []) is ∙ append-nil world_seen);
    paths = scope_paths t (numbered_scope w).instances;
    order = ap (map (path_at t)) (met ∙ ap once (sym one_places)) ∙ (paths_once t given.input.tables (places_shown (m ∷ [])) alone
        ∙ ap once_by_path (members_paths t given.input.tables h given.input.homes (numbered_members (m ∷ [])) ones zip (given.input.numbers.0, tt)));
    functions = λ q c path.
        let s = place_shown t h n m own w is own_are q c path in
        subst (λ k. functions_seen k (sights_of_members t (numbered_members (m ∷ own))) ≡ functions_seen k world_seen) s.2 (functions_in_world t h n m own w is own_are s.0 s.1);
  }

  -- the functions of its inline interfaces stand as it shows them
  world_inline : flat_map (inline_at t (views_of_members (numbered_members (m ∷ own)))) (places_in (m ∷ own)) ≡ inline_functions_shown ones
  world_inline =
      let views = views_of_members (numbered_members (m ∷ [])) in
      let others = views_of_members (numbered_members own) in
      let numbers = given.input.numbers.0 in
      ap (flat_map (inline_at t (views_of_members (numbered_members (m ∷ own))))) (met ∙ ap once (sym one_places ∙ sym (views_placed (numbered_members (m ∷ [])))))
      ∙ (ap (λ (seen : List NumberedSight). flat_map (inline_at t (seen ++ others)) (once (map (λ (s : NumberedSight). s.place) views))) (sym (append-nil (views_of_part (numbered_part m.part))))
      ∙ (views_inline t given.input.tables views others (ap (λ ps. are_once (filter (has_no_path t) ps)) (views_placed (numbered_members (m ∷ []))) ∙ alone)
      (inline_whole t (numbered_members (m ∷ [])) (numbers, tt)) ∙ members_inline t h (numbered_members (m ∷ [])) ones zip (numbers, tt)))

  pub world_follows : h.packages ≡ packages_shown ones → (p : Plan) → PlansWhole t h.packages (home_at h) n (m ∷ own) p → (r : Resolve) → IsBuilt p r → TypesRise r → FollowsParts ones r
  world_follows packages p planned r built types = record {
    packages = built_identities t h.packages (home_at h) n (m ∷ own) p planned r built ∙ packages;
    interfaces = paths_built p r built ∙ paths_planned t h known n (m ∷ own) members given p planned world_seen world_views (flat_map shown_under ones) world_shown;
    functions = functions_built p r built world_views (functions_planned t h known n (m ∷ own) members given p planned world_seen world_views (flat_map shown_under ones) world_shown);
    inline = inline_built p r built ∙ (inline_planned t h known n (m ∷ own) members given p planned world_seen world_views (flat_map shown_under ones) world_shown ∙ world_inline);
    worlds = worlds_built p r built ∙ (worlds_planned t h known n (m ∷ own) members given p planned world_seen world_views (flat_map shown_under ones) world_shown
        ∙ (search (std_rules, one_world t h n m own w is own_are, worlds_meant t h (m ∷ []) ones zip)));
    types = types;
  }

-- ---- what the page is for

-- ---- The named types that a type of the plan meets are names in the part that is kept for it.

module _ (t : Tables) (tables : AreTables t) (kept : List ℕ) (p : Plan) (are : TypesAreKept t kept p) where
  -- the type of this number is a name that stands in the part
  pub record IsNameInside (part m : ℕ) : Type 0 where
    pub number : ℕ
    pub place : ℕ
    pub name : Text
    pub kept_there : slice_get kept m ≡ Some number
    pub at : slice_get t.shapes number ≡ Some (named_shape place name)
    pub has : HasNameIn t.shapes part place

  -- so it is with each named type that is met at a type that is kept
  abbrev pub NamesAreInside : ℕ → ℕ → Type 0
  NamesAreInside j n = (x : PlannedType) → slice_get p.types j ≡ Some x → slice_get kept j ≡ Some n → (m : ℕ) → Contains (met_by (met_in p) j) m → IsNameInside (14 + n) m

  module _ (j n : ℕ) (smaller : (i m : ℕ) → i < j → NamesAreInside i m) (x : PlannedType) (there : slice_get p.types j ≡ Some x) (kept_at : slice_get kept j ≡ Some n) (m : ℕ) where
    abbrev before : List (List ℕ)
    before = take j (met_in p)

    abbrev MeetsAs : Option Text → PlannedKind → Type 0
    MeetsAs name kind = Contains (option_map_or (λ s. j ∷ []) name (flat_map (met_by before) (kind_numbers kind))) m

    -- met at a part
    through : (form : Form) (olds : List ℕ) → slice_get t.shapes n ≡ Some (node_shape form olds) → (i old new : ℕ) → slice_get olds i ≡ Some old → (k : ℕ) → part_number new ≡ Some k
        → Becomes t kept p old new → Contains (met_by before k) m → IsNameInside (14 + n) m
    through form olds at i old new old_at k new_is becomes c = by becomes.part
      where
        among : Contains olds old
        among = get-contains olds i old old_at

        by : IsPart kept old new → IsNameInside (14 + n) m
        by (a_primitive small same) = search (std_rules, lt-ltb)
        by (a_shape o l from old_kept to) =
            let less : l < j = are.rise l j o n old_kept kept_at (omega (arith, (all_at (λ (q : ℕ). q < 14 + n) olds (parts_before t tables kept p are n form olds at) old among), from)) in
            let there = within_there p.types l (omega (arith, becomes.range, to)) in
            let name = smaller l o less there.0 there.1 old_kept m (subst (λ (ms : List ℕ). Contains ms m)
            (ap (met_by before) (sym (same-some l k (sym (ap part_number to ∙ behind l) ∙ new_is))) ∙ ap (λ ns. unwrap_or ns []) (slice_take (met_in p) j l less)) c) in
            record {
              number = name.number;
              place = name.place;
              name = name.name;
              kept_there = name.kept_there;
              at = name.at;
              has = inside (14 + n) n old name.place form olds refl at among (subst (λ (q : ℕ). HasNameIn t.shapes q name.place) (sym from) name.has);
            }

    by_kind : IsKeptType t kept p n x → MeetsAs x.name x.kind → IsNameInside (14 + n) m
    by_kind (declared q name d at named own made late label obeys) c =
        let same : j ≡ m = last_of j m (subst (λ (s : Option Text). MeetsAs s x.kind) named c) in
        record { number = n; place = q; name = name; kept_there = subst (λ (k : ℕ). slice_get kept k ≡ Some n) same kept_at; at = at; has = itself (14 + n) n q name refl at }
    by_kind (unnamed place form olds news at zip none own made part few) c =
        let met = flat_cases (met_by before) (kind_numbers x.kind) m (subst (λ (s : Option Text). MeetsAs s x.kind) none c) in
        let new = filter_map_from part_number news met.0 (subst (λ (k : PlannedKind). Contains (kind_numbers k) met.0) made met.1) in
        let old = zip_at_right (Becomes t kept p) olds news zip new.0 new.1 new.2 in
        through form olds at new.0 old.0 new.1 old.1 met.0 new.3 old.2 met.2

    -- what is met at the type is met by its own kind, or is the type itself
    met_here : Contains (met_by (met_in p) j) m → Contains (met_at before (j, x)) m
    unfolding met_in
    met_here c =
        subst (λ (o : Option (List ℕ)). Contains (unwrap_or o []) m) (grow_at met_at (numbered_from 0 p.types) j (j, x) (numbered_at 0 p.types j x there ∙ ap (λ i. Some (i, x)) (omega arith))) c

    pub one_met : Contains (met_by (met_in p) j) m → IsNameInside (14 + n) m
    one_met c =
        let from = are.each j x there in
        by_kind (subst (λ (k : ℕ). IsKeptType t kept p k x) (same-some from.0 n (sym from.1 ∙ kept_at)) from.2) (met_here c)

  up_to : (many j n : ℕ) → j < many → NamesAreInside j n
  up_to zero j n low x there kept_at m c = absurd (omega (arith, low))
  up_to (suc many) j n low x there kept_at m c = one_met j n (λ i k less. up_to many i k (omega (arith, less, low))) x there kept_at m c

  pub names_are_inside : (j n : ℕ) → NamesAreInside j n
  names_are_inside j n = up_to (suc j) j n (omega arith)

-- ---- parts that count up

-- a part that is no primitive
abbrev IsBehind : ℕ → Type 0
IsBehind part = 14 ≤ part

-- each stands behind all smaller ones
counted_behind : (from : ℕ) (ps : List ℕ) (to : ℕ) → CountUp from ps to → (front : List ℕ) → ((c : ℕ) → 14 ≤ c → c < 14 + from → Contains front c) → StandBehind IsBehind front ps
counted_behind from [] to same front all = tt
counted_behind from (p ∷ ps) to u front all = ((λ c less low. all c low (before u.1 c less)), counted_behind u.0 ps to u.2 (front ++ p ∷ []) (wider u.1))
  where
    before : IsNext p from u.0 → (c : ℕ) → c < p → c < 14 + from
    before (inl (low, same)) c less = omega (arith, low, less)
    before (inr (part, more)) c less = omega (arith, part, less)

    wider : IsNext p from u.0 → (c : ℕ) → 14 ≤ c → c < 14 + u.0 → Contains (front ++ p ∷ []) c
    wider (inl (low, same)) c behind less = Contains-append_left front (p ∷ []) c (all c behind (omega (arith, less, same)))
    wider (inr (part, more)) c behind less = elim (cases_lt c (14 + from)) [
      | inl small ↦ Contains-append_left front (p ∷ []) c (all c behind small)
      | inr past ↦ subst (Contains (front ++ p ∷ [])) (omega (arith, past, less, part, more)) (Contains-append_right front (p ∷ []) p (contains-one p))
    ]

-- and all that come into the table are there
counted_has : (from : ℕ) (ps : List ℕ) (to : ℕ) → CountUp from ps to → (c : ℕ) → 14 + from ≤ c → c < 14 + to → Contains ps c
counted_has from [] to same c low high = absurd (omega (arith, same, low, high))
counted_has from (p ∷ ps) to u c low high = elim (cases_lt c (14 + u.0)) [ inl less ↦ here u.1 less | inr past ↦ contains-later p ps c (counted_has u.0 ps to u.2 c past high) ]
  where
    here : IsNext p from u.0 → c < 14 + u.0 → Contains (p ∷ ps) c
    here (inl (known, same)) less = absurd (omega (arith, same, low, less))
    here (inr (part, more)) less = let one : p ≡ c = omega (arith, part, more, low, less) in subst (Contains (p ∷ ps)) one (first-contained p ps)

-- ---- lists

zip_maps : {A B C : Type 0} (R : B → C → Type 0) (f : A → B) (g : A → C) → ((x : A) → R (f x) (g x)) → (xs : List A) → AllZip R (map f xs) (map g xs)
zip_maps R f g all [] = tt
zip_maps R f g all (x ∷ xs) = (all x, zip_maps R f g all xs)

same_below : (n : ℕ) → below n ≡ numbers_below n
same_below zero = refl
same_below (suc n) = ap (λ (ns : List ℕ). ns ++ n ∷ []) (same_below n)

-- ---- types over names of interfaces with a path

path_there : (o : Option Text) (name : Text) → is_pathed (Tree.named (instance_place o) name) ≡ true → (path : Text) × (o ≡ Some path)
path_there x name e = search std_rules

pathed_child : (ts : List Tree) (t : Tree) → are_pathed (children ts) ≡ true → Contains ts t → is_pathed t ≡ true
pathed_child [] t e c = none-in t c
pathed_child (u ∷ ts) t e (zero, low, same) = ap is_pathed (sym same) ∙ first_true (is_pathed u) (are_pathed (children ts)) e
pathed_child (u ∷ ts) t e (suc i, low, same) = pathed_child ts t (second_true (is_pathed u) (are_pathed (children ts)) e) (i, omega (arith, low), same)

module _ (t : Tables) (tables : AreTables t) where
  -- the tree of a number of the table
  tree_there : (n : ℕ) (s : Shape) → slice_get t.shapes n ≡ Some s → tree_at t (14 + n) ≡ shape_tree (place_at t) (shape_trees (place_at t) t.shapes) s
  tree_there n s e = search (std_rules, part_behind, unwrap_or, tree_at_number)

  pathed_outside : (k : ℕ) → is_pathed (tree_at t k) ≡ true → IsOutside t k
  pathed_outside k pathed p (itself _ n _ name is at) = path_there (path_at t p) name
      (sym (ap is_pathed (ap (tree_at t) is ∙ (tree_there n (named_shape p name) at ∙ name_tree (place_at t) (shape_trees (place_at t) t.shapes) p name))) ∙ pathed)
  pathed_outside k pathed p (inside _ n m _ form parts is at among deeper) =
      let trees = shape_trees (place_at t) t.shapes in
      let whole : tree_at t k ≡ Tree.node form (children (map (part_tree trees) parts)) = ap (tree_at t) is ∙ (tree_there n (node_shape form parts) at ∙ node_tree (place_at t) trees form parts) in
      pathed_outside m (pathed_child (map (part_tree trees) parts) (tree_at t m) (sym (ap is_pathed whole) ∙ pathed) (contains-map (part_tree trees) parts m among)) p deeper

  same_place : (o u : Option Text) (x y : Text) → o ≡ Some x → u ≡ Some y → instance_place o ≡ instance_place u → o ≡ u
  same_place o u x y eo eu h = search std_rules

  -- such a type stands once
  pathed_once : (a b : ℕ) → a < 14 + length t.shapes → b < 14 + length t.shapes → tree_at t a ≡ tree_at t b → is_pathed (tree_at t b) ≡ true → a ≡ b
  pathed_once a b low high same pathed = search (std_rules, one_number_apart, pathed_outside, same_place)

  -- two types of one scope stand apart
  pub met_apart : (h a b : ℕ) → IsMetPart t h a → IsMetPart t h b → AreApart (place_at t) t.shapes a b
  met_apart h a b over_a over_b p q p_in q_in e = search std_rules

  -- ---- the numbers of parts that are kept

  module _ (kept : List ℕ) (p : Plan) (are : TypesAreKept t kept p) (long : length kept ≡ length p.types) where
    abbrev number_for : ℕ → Option ℕ
    number_for part = option_and_then (number_in kept) (part_number part)

    number_there_is : (m j : ℕ) → slice_get kept j ≡ Some m → number_for (14 + m) ≡ Some j
    number_there_is m j e =
        let given = number_given kept m (get-contains kept j m e) in
        ap (option_and_then (number_in kept)) (ap (λ b. cond b None (Some (14 + m - 14))) (le-ltb (14 + m) 14 (omega arith)) ∙ ap Some (omega arith))
        ∙ (given.1 ∙ ap Some (are.once given.0 j m (number_there kept m given.0 given.1) e))

    number_back : (part d : ℕ) → number_for part ≡ Some d → (m : ℕ) × (part ≡ 14 + m) × (slice_get kept d ≡ Some m)
    number_back part d e = elim (split_part part) [
      | inl small ↦
          let wrong : None ≡ Some d = sym (ap (option_and_then (number_in kept)) (ap (λ b. cond b None (Some (part - 14))) (lt-ltb part 14 small))) ∙ e in absurd cc
      | inr m ↦
          let is : part_number part ≡ Some m.0 =
          ap (λ b. cond b None (Some (part - 14))) (le-ltb part 14 (let same = m.1 in omega (arith, same))) ∙ ap Some (let same = m.1 in omega (arith, same)) in
          (m.0, m.1, number_there kept m.0 d (sym (ap (option_and_then (number_in kept)) is) ∙ e))
    ]

    kept_low : (j m : ℕ) → slice_get kept j ≡ Some m → m < length t.shapes
    kept_low j m e =
        let x = within_there p.types j (omega (arith, found_below kept j m e, long)) in
        let from = are.each j x.0 x.1 in
        subst (λ (n : ℕ). n < length t.shapes) (same-some from.0 m (sym from.1 ∙ e)) (by from.0 x.0 from.2)
      where
        by : (n : ℕ) (x : PlannedType) → IsKeptType t kept p n x → n < length t.shapes
        by n x (unnamed place form olds news at zip none own made part few) = found_below t.shapes n (node_shape form olds) at
        by n x (declared q name d at named own made behind label obeys) = found_below t.shapes n (named_shape q name) at

    abbrev part_numbers : ℕ → List ℕ
    part_numbers part = option_to_list (number_for part)

    of_option : (o : Option ℕ) (d : ℕ) → Contains (option_to_list o) d → o ≡ Some d
    of_option None d c = none-in d c
    of_option (Some e) d c = ap Some (last_of e d c)

    to_option : (o : Option ℕ) (d : ℕ) → o ≡ Some d → Contains (option_to_list o) d
    to_option o d e = subst (λ (u : Option ℕ). Contains (option_to_list u) d) (sym e) (contains-one d)

    smaller : (part d : ℕ) → Contains (part_numbers part) d → (c : ℕ) → c < d → IsOfSmaller IsBehind part_numbers part c
    smaller part d d_in c less =
        let m = number_back part d (of_option (number_for part) d d_in) in
        let n = within_there kept c (omega (arith, found_below kept d m.0 m.2, less)) in
        let below : n.0 < m.0 = elim (cases_lt n.0 m.0) [
          | inl is ↦ is
          | inr past ↦ elim (cases_lt m.0 n.0) [
            | inl more ↦ (let wrong = are.rise d c m.0 n.0 m.2 n.1 more in absurd (omega (arith, wrong, less)))
            | inr le ↦
                let same : n.0 ≡ m.0 = omega (arith, past, le) in
                absurd (omega (arith, (are.once c d m.0 (n.1 ∙ ap Some same) m.2), less))
          ]
        ] in
        record {
          one = 14 + n.0;
          less = omega (arith, m.1, below);
          kind = omega arith;
          there = to_option (number_for (14 + n.0)) c (number_there_is n.0 c n.1);
        }

    module _ (r : Resolve) (built : IsBuilt p r) (scoped : List (DeclaringScope × ℕ)) (counted : CountUp 0 (bare_parts scoped) (length t.shapes)) (declares : List (DeclaringScope × Tree))
        (trees : scoped_trees (shape_trees (place_at t) t.shapes) scoped ≡ declares)
        (near : (c : DeclaringScope) (a b : ℕ) → Contains scoped (c, a) → Contains scoped (c, b) → AreApart (place_at t) t.shapes a b) where
      abbrev scoped_parts : List ℕ
      scoped_parts = bare_parts scoped

      many_types : length kept ≡ length r.types.items
      many_types = long ∙ (ap (λ (xs : List PlannedType). length xs) (sym built.types) ∙ length_of_map planned_type r.types.items)

      -- the tree of a number is that of the part that is kept for it
      tree_is : (m j : ℕ) → slice_get kept j ≡ Some m → number_tree r j ≡ tree_at t (14 + m)
      tree_is m j e =
          let pass = kept_types_pass t tables kept p are in
          sym (part_behind (trees_of r) j) ∙ (ap (λ ts. part_tree ts (14 + j)) (sym (trees_are r p.main))
          ∙ (ap (λ (q : Plan). part_tree (trees_in q) (14 + j)) (sym (is_plan p r built))
          ∙ trees_are_kept (place_at t) t.shapes kept p tables.shapes pass.0.types pass.0.fall (14 + m) (14 + j) (a_shape m j refl e refl) (omega (arith, found_below kept j m e, long))))

      has_number : (part : ℕ) → HasNumber r (tree_at t part) (number_for part)
      has_number part = by (number_for part) refl
        where
          by : (o : Option ℕ) → number_for part ≡ o → HasNumber r (tree_at t part) o
          by None e = tt
          by (Some d) e = search (std_rules, number_back, found_below, many_types, tree_is)

      abbrev found : List (Option ℕ)
      found = map number_for scoped_parts

      counts_up : once (flat_map option_to_list found) ≡ numbers_below (length r.types.items)
      counts_up = ap once (sym (flat_mapped option_to_list number_for scoped_parts))
          ∙ (counted_up (length kept) (flat_map part_numbers scoped_parts) (behind_mapped IsBehind part_numbers smaller [] scoped_parts
          (counted_behind 0 scoped_parts (length t.shapes) counted [] (λ c low less. absurd (omega (arith, low, less))))) (λ d d_in.
          let from = flat_cases part_numbers scoped_parts d d_in in
          let m = number_back from.0 d (of_option (number_for from.0) d from.2) in
          found_below kept d m.0 m.2) (λ c less.
          let n = within_there kept c less in
          contains-flat part_numbers scoped_parts (14 + n.0) c (counted_has 0 scoped_parts (length t.shapes) counted (14 + n.0) (omega arith) (omega (arith, kept_low c n.0 n.1)))
          (to_option (number_for (14 + n.0)) c (number_there_is n.0 c n.1))) ∙ (ap below many_types ∙ same_below (length r.types.items)))

      -- the part that is declared there
      part_there : (i : ℕ) (c : DeclaringScope) (u : Tree) → slice_get declares i ≡ Some (c, u)
          → (k : ℕ) × Contains scoped (c, k) × (slice_get scoped_parts i ≡ Some k) × (k < 14 + length t.shapes) × (tree_at t k ≡ u)
      part_there i c u at =
          let x = get_back (λ (s : DeclaringScope × ℕ). (s.0, tree_at t s.1)) scoped i (c, u) (ap (λ ds. slice_get ds i) trees ∙ at) in
          let here = mapped_get (λ (s : DeclaringScope × ℕ). s.1) scoped i x.0 x.1 in
          let one : x.0 ≡ (c, x.0.1) = λ k. ((x.2 k).0, x.0.1) in (
            x.0.1,
            get-contains scoped i (c, x.0.1) (x.1 ∙ ap Some one),
            here,
            (all_at (λ (q : ℕ). q < 14 + length t.shapes) scoped_parts (count_below 0 scoped_parts (length t.shapes) counted) x.0.1 (get-contains scoped_parts i x.0.1 here)),
            (λ k. (x.2 k).1),
          )

      one_part : (c d : DeclaringScope) (u : Tree) (a b : ℕ) → (c ≡ d) ⊎ (is_pathed u ≡ true) → Contains scoped (c, a) → Contains scoped (d, b) → a < 14 + length t.shapes
          → b < 14 + length t.shapes → tree_at t a ≡ u → tree_at t b ≡ u → a ≡ b
      one_part c d u a b (inl scope) a_in b_in a_low b_low ea eb =
          one_number_apart (place_at t) t.shapes tables.shapes a b a_low b_low (near c a b a_in (subst (λ (s : DeclaringScope). Contains scoped (s, b)) (sym scope) b_in)) (ea ∙ sym eb)
      one_part c d u a b (inr pathed) a_in b_in a_low b_low ea eb = pathed_once a b a_low b_low (ea ∙ sym eb) (ap is_pathed eb ∙ pathed)

      same_number : (i j : ℕ) (c d : DeclaringScope) (u : Tree) (a b : Option ℕ) → (c ≡ d) ⊎ (is_pathed u ≡ true) → slice_get declares i ≡ Some (c, u)
          → slice_get declares j ≡ Some (d, u) → slice_get found i ≡ Some a → slice_get found j ≡ Some b → a ≡ b
      same_number i j c d u a b tied i_at j_at a_at b_at =
          let x = part_there i c u i_at in
          let y = part_there j d u j_at in
          (same-some a (number_for x.0) (sym a_at ∙ mapped_get number_for scoped_parts i x.0 x.2))
          ∙ (ap number_for (one_part c d u x.0 y.0 tied x.1 y.1 x.3 y.3 x.4 y.4) ∙ sym (same-some b (number_for y.0) (sym b_at ∙ mapped_get number_for scoped_parts j y.0 y.2)))

      -- the name that is met at a number, as it stands in the part of the declaration
      met_in_part : (k a m : ℕ) → number_for k ≡ Some a → Contains (met_by (met_of r) a) m → IsNameInside t tables kept p are k m
      met_in_part k a m is c =
          let from = number_back k a is in
          let x = within_there p.types a (omega (arith, found_below kept a from.0 from.2, long)) in
          subst (λ (q : ℕ). IsNameInside t tables kept p are q m) (sym from.1)
          (names_are_inside t tables kept p are a from.0 x.0 x.1 from.2 m (subst (λ (table : List (List ℕ)). Contains (met_by table a) m)
          (sym (met_are r p.main) ∙ ap met_in (sym (is_plan p r built))) c))

      one_name : (c : DeclaringScope) (a b m n : ℕ) → Contains scoped (c, a) → Contains scoped (c, b) → IsNameInside t tables kept p are a m → IsNameInside t tables kept p are b n
          → number_tree r m ≡ number_tree r n → m ≡ n
      one_name c a b m n a_in b_in x y e =
          let trees = shape_trees (place_at t) t.shapes in
          let left = tree_is x.number m x.kept_there ∙ (tree_there x.number (named_shape x.place x.name) x.at ∙ name_tree (place_at t) trees x.place x.name) in
          let right = tree_is y.number n y.kept_there ∙ (tree_there y.number (named_shape y.place y.name) y.at ∙ name_tree (place_at t) trees y.place y.name) in
          let names : Tree.named (place_at t x.place) x.name ≡ Tree.named (place_at t y.place) y.name = sym left ∙ (e ∙ right) in
          let labels : x.name ≡ y.name = cc in
          let place : x.place ≡ y.place = near c a b a_in b_in x.place y.place x.has y.has cc in
          let shape : named_shape y.place y.name ≡ named_shape x.place x.name = λ k. named_shape (sym place k) (sym labels k) in
          let number : x.number ≡ y.number = tables.shapes.apart x.number y.number (named_shape x.place x.name) x.at (y.at ∙ ap Some shape) in
          are.once m n y.number (x.kept_there ∙ ap Some number) y.kept_there

      same_names : (i j : ℕ) (c : DeclaringScope) (u v : Tree) (a b m n : ℕ) → slice_get declares i ≡ Some (c, u) → slice_get declares j ≡ Some (c, v) → slice_get found i ≡ Some (Some a)
          → slice_get found j ≡ Some (Some b) → Contains (met_by (met_of r) a) m → Contains (met_by (met_of r) b) n → number_tree r m ≡ number_tree r n → m ≡ n
      same_names i j c u v a b m n i_at j_at a_at b_at m_in n_in e =
          let x = part_there i c u i_at in
          let y = part_there j c v j_at in
          one_name c x.0 y.0 m n x.1 y.1 (met_in_part x.0 a m (same-some (number_for x.0) (Some a) (sym (mapped_get number_for scoped_parts i x.0 x.2) ∙ a_at)) m_in)
          (met_in_part y.0 b n (same-some (number_for y.0) (Some b) (sym (mapped_get number_for scoped_parts j y.0 y.2) ∙ b_at)) n_in) e

      abbrev HasItsNumber : DeclaringScope × Tree → Option ℕ → Type 0
      HasItsNumber d o = HasNumber r d.1 o

      pub numbers_follow : NumbersFollow declares r
      numbers_follow = search (std_rules, map_of_map, zip_maps, has_number, counts_up, same_number, same_names)
