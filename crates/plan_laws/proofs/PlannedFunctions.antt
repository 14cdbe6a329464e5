-- All functions of a whole plan are those that were read, each in its own place.
use Rattle.plan_laws.proofs.Sources.{member_view_in, partner_back, owner_numbered, place_number, all_of}
use Rattle.plan_laws.proofs.{Viewed.zip_within, InterfaceFunctions.view_becomes, InterfaceFunctions.world_functions_are_read, InterfaceFunctions.view_function}
use Rattle.plan_laws.proofs.{WholeTypes.packages_are_ruled, WorldKeys.planned_worlds_stand}
use Rattle.plan_laws.proofs.{ViewsAgree.first_is, ViewsAgree.view_names, ViewsAgree.shown_so, Owned.first_there, Owned.interface_there}
use Rattle.std.proofs.Common.{rules as std_rules, ◌≡◌, refl, sym, ap, subst, ◌∙◌, ℕ, arith, Bool, true, false, ◌==◌, ◌&&◌, cond, List, [], ◌∷◌, ◌++◌, map, Option, Some, None, slice_get}
use Rattle.std.proofs.lemmas.{Bool.eqb-true, Option.same_Some as same-some}
use Rattle.std.specs.{List.AllZip, List.Contains, List.flat_map, List.AllByRecursion, Option.option_map_or}
use Rattle.wit_model.specs.{Text.Text, Valid.as_interface, Valid.as_world}
use Rattle.wit_model.specs.declared.model.TypeOwner.{TypeOwner}
use Rattle.wit_model.proofs.Elements.{none-in}
use Rattle.plan_meaning.specs.GatheredPlan.{FunctionBecomes, FunctionListed, functions_seen}
use Rattle.plan_meaning.specs.{NumberedRules.Fact, NumberedWorlds.HasPath, NumberedWorlds.NumberedInstance, NumberedWorlds.sights_of_instance}
use Rattle.plan_meaning.specs.{ReadFunctions.Beside, ReadFunctions.IsReadFunction, PlanRules.functions_of, PlanRules.world_functions}
use Rattle.plan_meaning.specs.NumberedMembers.{Homes, NumberedMember, NumberedPart, home_at, sights_of_members, sights_of_part}
use Rattle.plan_meaning.specs.NumberedViews.{NumberedFunction, NumberedSight, Tables, first_at, function_at, path_at, PartsOf}
use Rattle.plan_meaning.specs.Plan.{Plan, PlannedFunction, PlannedInterface, interface_in, PlannedWorld, world_in}
use Rattle.plan_parts.specs.Interfaces.{IsPlannedFunction}
use Rattle.read_exports.specs.Members.{numbered_members}
use Rattle.read_exports.specs.declared.members.Member.{Member}
use Rattle.plan_package.specs.{PlanWhole.PlansWhole, PlanWhole.places_in, WholeWorlds.PlansWorld, WholeWorlds.worlds_in}
use Rattle.plan_package.specs.{Views.views_of_members, Views.views_of_part, Views.whole_view, WholeInterfaces.PlansInterface, WholeInterfaces.PlansPlace}
use Rattle.plan_laws.specs.Owners.{owners_of}
use Rattle.plan_laws.specs.{ShownRules.ViewObeys, Whole.IsPackageInput, FirstViews.ViewsAreOrdered, WholeReasons.AreShownAlike, WorldItems.WorldsAreApart}
use Rattle.plan_laws.specs.{WholeTypes.IsRuledInput, WholeTypes.TypesAreWhole, WholeFunctions.PlannedFunctionsAreRead, WholeFunctions.beside_tables}
use Rattle.base_lemmas.proofs.Bools.{left_of as first_true, right_of as second_true}
use Rattle.base_lemmas.proofs.Elements.{all_at, contains-later, get-contains, map_from as from_map, zip_at_right as zip_get}
use Rattle.plan_types.specs.Showings.{signatures_of_members}
use Rattle.comp_meaning.specs.Reads as reads

-- ---- The functions of an interface of the plan are those of the first view of its place that shows some.

-- ---- the view that shows a function

pub record IsOfView (q : ℕ) (seen : List NumberedSight) (f : Text × NumberedFunction) : Type 0 where
  pub sight : NumberedSight
  pub among : Contains seen sight
  pub place : sight.place ≡ q
  pub whole : sight.whole ≡ true
  pub there : Contains sight.view.functions f

pub function_of_view : (q : ℕ) (seen : List NumberedSight) (f : Text × NumberedFunction) → Contains (functions_seen q seen) f → IsOfView q seen f
function_of_view q [] f c = none-in f c
function_of_view q (s ∷ seen) f c = by (s.place == q && s.whole) refl c (function_of_view q seen f)
  where
    by : (b : Bool) → (s.place == q && s.whole) ≡ b → Contains (cond b s.view.functions (functions_seen q seen)) f → (Contains (functions_seen q seen) f → IsOfView q seen f) → IsOfView q (s ∷ seen) f
    by true e here later = record { sight = s; among = (0, omega arith, refl); place = eqb-true _ q (first_true _ _ e); whole = second_true _ _ e; there = here }
    by false e here later = search (std_rules, contains-later)

-- ---- places with a path

module _ (t : Tables) (q : ℕ) (path : HasPath t q) where
  abbrev Same : List NumberedSight → List NumberedSight → Type 0
  Same xs ys = functions_seen q xs ≡ functions_seen q ys

  same_behind : (front xs ys : List NumberedSight) → Same xs ys → Same (front ++ xs) (front ++ ys)
  same_behind [] xs ys e = e
  same_behind (s ∷ front) xs ys e = ap (λ fs. cond (s.place == q && s.whole) s.view.functions fs) (same_behind front xs ys e)

  instances_same : (is : List NumberedInstance) (xs ys : List NumberedSight) → Same xs ys → Same (map whole_view is ++ xs) (flat_map (sights_of_instance t) is ++ ys)
  instances_same [] xs ys e = e
  instances_same (i ∷ is) xs ys e = by (path_at t i.place) refl (instances_same is xs ys e)
    where
      elsewhere : path_at t i.place ≡ None → (b : Bool) → (i.place == q) ≡ b → b ≡ false
      elsewhere none false f = refl
      elsewhere none true f = let wrong : None ≡ Some path.0 = sym none ∙ (ap (path_at t) (eqb-true i.place q f) ∙ path.1) in absurd cc

      by : (o : Option Text) → path_at t i.place ≡ o → Same (map whole_view is ++ xs) (flat_map (sights_of_instance t) is ++ ys)
          → Same (map whole_view (i ∷ is) ++ xs) ((option_map_or (λ (p : Text). whole_view i ∷ []) o [] ++ flat_map (sights_of_instance t) is) ++ ys)
      by (Some p) f rest = ap (λ fs. cond (i.place == q && true) i.view.functions fs) rest
      by None f rest = ap (λ b. cond (b && true) i.view.functions (functions_seen q (map whole_view is ++ xs))) (elsewhere f (i.place == q) refl) ∙ rest

  part_same : (a : NumberedPart) (xs ys : List NumberedSight) → Same xs ys → Same (views_of_part a ++ xs) (sights_of_part t a ++ ys)
  part_same x xs ys e = search (std_rules, instances_same, same_behind)

  -- all views of the place show the functions that those with a path do
  pub seen_same : (ms : List NumberedMember) → Same (views_of_members ms) (sights_of_members t ms)
  seen_same [] = refl
  seen_same (m ∷ ms) = part_same m.part (views_of_members ms) (sights_of_members t ms) (seen_same ms)

module _ (t : Tables) (h : Homes) (known : ℕ → Fact) (n : ℕ) (ms : List Member) (members : List reads.Member) (given : IsPackageInput t h known n ms members) (p : Plan)
    (planned : PlansWhole t h.packages (home_at h) n ms p) (b : Beside) (owned : b.owners ≡ owners_of ms) where
  abbrev views : List NumberedSight
  views = views_of_members (numbered_members ms)

  ruled : IsRuledInput t h ms members
  ruled = packages_are_ruled t h known n ms members given

  pub functions_listed : (m q : ℕ) → slice_get (places_in ms) m ≡ Some q → (i : PlannedInterface) → interface_in p m ≡ Some i
      → AllZip (FunctionListed t planned.kept p) (functions_seen q views) i.functions
  functions_listed m q at i there =
      let found = interface_there t h ms members given.input n p planned m q at in
      let first = first_there t h ms members given.input n p planned m q at in
      by first.0 first.1 (subst (λ x. PlansInterface t planned.kept n (home_at h q) first.0.view (functions_seen q views) x) (same-some found.0 i (sym found.1 ∙ there)) (found.2 first.0 first.1))
    where
      by : (first : NumberedSight) → first_at q views ≡ Some first → PlansInterface t planned.kept n (home_at h q) first.view (functions_seen q views) i
          → AllZip (FunctionListed t planned.kept p) (functions_seen q views) i.functions
      by first is_first plans = zip_within (IsPlannedFunction t planned.kept plans.find) (FunctionListed t planned.kept p) (functions_seen q views) (λ f c e made. (made.under, becomes f c e made))
          i.functions plans.functions
        where
          first_in : Contains views first
          first_in = (first_is q views first is_first).0

          becomes : (f : Text × NumberedFunction) → Contains (functions_seen q views) f → (e : Text × PlannedFunction) → IsPlannedFunction t planned.kept plans.find f e
              → FunctionBecomes t planned.kept p (function_at t f.1.signature) f.1.external_id e.1
          becomes f c e made =
              let of = function_of_view q views f c in
              view_becomes t h ms members ruled n p planned first first_in (member_view_in t ms given.input.numbers first first_in)
              (view_names t first (all_at (ViewObeys t) views ruled.rules.views first first_in)) plans.find
              plans.resources b of.sight of.among (of.place ∙ sym (first_is q views first is_first).1) (member_view_in t ms given.input.numbers of.sight of.among)
              (all_at (ViewObeys t) views ruled.rules.views of.sight of.among) (ap (λ (o : ℕ → TypeOwner). o first.place) owned) f of.there e made

-- ---- what the page is for

module _ (t : Tables) (h : Homes) (ms : List Member) (members : List reads.Member) (ruled : IsRuledInput t h ms members) (alike : AreShownAlike ms) (ordered : ViewsAreOrdered t ms)
    (worlds_apart : WorldsAreApart ms) (main : ℕ) (p : Plan) (planned : PlansWhole t h.packages (home_at h) main ms p) (whole : TypesAreWhole t planned.kept ms p) (known : ℕ → Fact) where
  abbrev all_views : List NumberedSight
  all_views = views_of_members (numbered_members ms)

  abbrev beside : Beside
  beside = beside_tables known whole.marks.marks ms

  abbrev AreValues : ℕ → Type 0
  AreValues f = PartsOf (λ k. whole.marks.marks k ≡ false) (function_at t f)

  -- a function of a view that shows functions is over values
  values_of : (s : NumberedSight) → Contains all_views s → s.whole ≡ true → (f : Text × NumberedFunction) → Contains s.view.functions f → AreValues f.1.signature
  values_of s c is_whole f there =
      let so = shown_so t h ms members ruled.input ruled.placed.apart s c in
      let g = alike.functions s so.other c so.among (sym so.place) is_whole (so.whole is_whole) f there in
      subst AreValues g.2 (all_at AreValues (signatures_of_members ms) whole.marks.values g.0.1.signature (so.functions is_whole g.0 g.1))

  -- ---- interfaces

  module _ (q n : ℕ) (owned : owners_of ms q ≡ as_interface n) (first : NumberedSight) (first_in : Contains all_views first) (place : first.place ≡ q) (i : PlannedInterface)
      (made : PlansInterface t planned.kept main (home_at h q) first.view (functions_seen q all_views) i) where
    entry_read : (e : Text × PlannedFunction) → Contains i.functions e → IsReadFunction t planned.kept p beside (as_interface n) e.1
    entry_read e e_in =
        let f = partner_back (IsPlannedFunction t planned.kept made.find) (functions_seen q all_views) i.functions made.functions e e_in in
        let of = function_of_view q all_views f.0 f.1 in
        subst (λ o. IsReadFunction t planned.kept p beside o e.1) (ap (owners_of ms) place ∙ owned)
        (view_function t h ms members ruled main p planned first first_in (member_view_in t ms ruled.input.numbers first first_in)
        (view_names t first (all_at (ViewObeys t) all_views ruled.rules.views first first_in)) made.find
        made.resources beside of.sight of.among (of.place ∙ sym place) (member_view_in t ms ruled.input.numbers of.sight of.among)
        (all_at (ViewObeys t) all_views ruled.rules.views of.sight of.among) refl
        f.0 of.there (values_of of.sight of.among of.whole f.0 of.there) e f.2)

    interface_read : AllByRecursion (IsReadFunction t planned.kept p beside (as_interface n)) (functions_of i)
    interface_read = all_of (IsReadFunction t planned.kept p beside (as_interface n)) (functions_of i) (λ g c.
        let e = from_map (λ (x : Text × PlannedFunction). x.1) i.functions g c in
        subst (IsReadFunction t planned.kept p beside (as_interface n)) e.2 (entry_read e.0 e.1))

  interfaces_read : (n : ℕ) (i : PlannedInterface) → interface_in p n ≡ Some i → AllByRecursion (IsReadFunction t planned.kept p beside (as_interface n)) (functions_of i)
  interfaces_read n i there =
      let from = zip_get (PlansPlace t planned.kept main (home_at h) all_views) (places_in ms) p.interfaces planned.interfaces n i there in
      let q = from.0 in
      let first = first_there t h ms members ruled.input main p planned n q from.1 in
      let is = first_is q all_views first.0 first.1 in
      interface_read q n (owner_numbered ms q n (place_number ms n q from.1)) first.0 is.0 is.1 i (from.2 first.0 first.1)

  -- ---- worlds

  worlds_read : (n : ℕ) (x : PlannedWorld) → world_in p n ≡ Some x → AllByRecursion (IsReadFunction t planned.kept p beside (as_world n)) (world_functions x)
  worlds_read n x there =
      let from = zip_get (PlansWorld t planned.kept (places_in ms) main) (worlds_in ms) p.worlds planned.worlds n x there in
      let stands = planned_worlds_stand t h ms members ruled.input ruled.agree ordered worlds_apart main p planned beside refl n from.0 from.1 in
      subst (λ o. AllByRecursion (IsReadFunction t planned.kept p beside o) (world_functions x)) stands.owned
      (world_functions_are_read t h ms members ruled main p planned whole known from.0 (get-contains (worlds_in ms) n from.0 from.1) x from.2)

pub planned_functions_are_read : PlannedFunctionsAreRead
planned_functions_are_read t h ms members ruled alike ordered apart main p planned whole known = search (std_rules, interfaces_read, worlds_read)
