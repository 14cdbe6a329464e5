-- The plan of one world, beside the interfaces of its package that it shows, means what the world does.
use Rattle.std.proofs.Common.{rules as std_rules, ◌≡◌, refl, sym, ap, subst, ◌∙◌, ℕ, zero, suc, ◌⊎◌, inl, inr, arith, Bool, true, false, ◌==◌, ◌&&◌, cond, List, [], ◌∷◌, ◌++◌, Some, slice_get}
use Rattle.std.proofs.lemmas.{List.Elements.Contains-append_cases, List.Elements.Contains-append_left, Bool.and_from as both, Option.same_Some as same-some}
use Rattle.std.specs.List.{AllByRecursion, Contains}
use Rattle.wit_model.proofs.{Elements.none-in, NameLaws.read_path_is_spelled, NameLaws.spelled_path_reads}
use Rattle.plan_meaning.specs.GatheredPlan.{functions_seen, IsGatheredWorld, WorldBecomes, under_path}
use Rattle.plan_meaning.specs.{NumberedViews.NumberedSight, NumberedViews.Tables, ReadFunctions.Beside, ReadWholes.IsReadWorldPlan, ReadWholes.IsShownByWorld}
use Rattle.plan_meaning.specs.{Plan.Plan, Plan.PlannedWorld, Plan.world_in, ReadPlans.FitsInput, ReadPlans.IsReadPlan, PlanMeaning.plan_world_meaning}
use Rattle.plan_meaning.specs.NumberedMembers.{Homes, NumberedMember, home_at, sights_of_members, sights_of_part, IsKnownSight}
use Rattle.plan_meaning.specs.NumberedWorlds.{HasPath, NumberedInstance, NumberedScope, sights_of_instance, sights_of_scope}
use Rattle.plan_meaning.specs.NumberedRules.{Fact}
use Rattle.plan_meaning.proofs.{Lists.no_true, GatheredPlan.gathered_world_is_meant, KeptTypes.kept_types_pass, ReadWholes.read_world_plan_stands}
use Rattle.read_exports.specs.Members.{numbered_members, numbered_part}
use Rattle.read_exports.specs.declared.members.Member.{Member}
use Rattle.read_rules.specs.declared.scopes.Scope.{Scope}
use Rattle.read_rules.specs.Scopes.{numbered_scope}
use Rattle.plan_package.specs.{PlanWhole.PlansWhole, PlanWhole.places_in, WholeWorlds.PlansWorld, WholeWorlds.world_in_part, WholeWorlds.worlds_in}
use Rattle.plan_package.specs.Views.{whole_view}
use Rattle.plan_laws.specs.{OneWorld.AreOwnInterfaces, OneWorld.IsOwnInterface, OneWorld.IsWorldInput, OneWorld.WorldPlanIsWhole, WholeFunctions.beside_tables}
use Rattle.plan_laws.specs.{ViewedInterfaces.views_read, WholeTypes.TypesAreWhole, Whole.IsPackageInput, FirstViews.ViewsAreOrdered, WorldItems.WorldsAreApart}
use Rattle.plan_laws.specs.WholePlan.{IsWholeInput}
use Rattle.plan_laws.proofs.{ViewsAgree.first_is, MetNames.flat_cases, WholePlan.plan_read, WholeCondition.main}
use Rattle.plan_laws.proofs.{ShownWhole.view_given, ShownWhole.whole_is_shown, Gathered.world_at, Gathered.all_gathered, Gathered.IsGatheredFrom}
use Rattle.plan_laws.proofs.{WholeTypes.sight_of_place, WholeTypes.packages_are_ruled, WholeTypes.planned_types_are_whole, Apart.whole_stands_apart}
use Rattle.base_lemmas.proofs.{Elements.all_at, Elements.last_of as one-contained, Numbers.same-number}
use Rattle.wit_model.specs.Names.{PackageIdentity, path_in, read_path}
use Rattle.comp_meaning.specs.Reads.{world_with}
use Rattle.plan_type_laws.proofs.Walks.{all_split}
use Rattle.read_exports.specs.declared.members.Part.TheVariants as parts
use Rattle.comp_meaning.specs.Reads as reads
use Rattle.comp_meaning.specs.Follow as follow

-- ---- One world beside the interfaces of its package that it shows: the views that it gives come first, and are of all places under a path.

-- ---- views

-- a view of a scope is that of an instance, whole
pub instance_of_view : (t : Tables) (w : NumberedScope) (s : NumberedSight) → Contains (sights_of_scope t w) s → (i : NumberedInstance) × Contains w.instances i × (whole_view i ≡ s)
instance_of_view t w s c = let from = flat_cases (sights_of_instance t) w.instances s c in (from.0, from.1, view_given t from.0 s from.2)

-- the functions of a place are those that the views in front show, where one of these shows some
functions_in_front : (xs ys : List NumberedSight) (s : NumberedSight) → s.whole ≡ true → Contains xs s → functions_seen s.place (xs ++ ys) ≡ functions_seen s.place xs
functions_in_front [] ys s whole c = none-in s c
functions_in_front (x ∷ xs) ys s whole c = by (x.place == s.place && x.whole) refl (λ later. functions_in_front xs ys s whole later) c
  where
    by : (b : Bool) → (x.place == s.place && x.whole) ≡ b → (Contains xs s → functions_seen s.place (xs ++ ys) ≡ functions_seen s.place xs) → Contains (x ∷ xs) s
        → cond b x.view.functions (functions_seen s.place (xs ++ ys)) ≡ cond b x.view.functions (functions_seen s.place xs)
    by true e more among = refl
    by false e more (zero, low, same) = no_true (sym e ∙ (ap (λ (y : NumberedSight). y.place == s.place && y.whole) same ∙ both (s.place == s.place) s.whole (same-number s.place) whole))
    by false e more (suc j, low, same) = more (j, omega (arith, low), same)

module _ (t : Tables) (h : Homes) (n : ℕ) (m : Member) (own : List Member) (w : Scope) (is : m.part ≡ parts.World w) (own_are : AreOwnInterfaces t h n (numbered_scope w) (numbered_members own)) where
  abbrev ms : List Member
  ms = m ∷ own

  abbrev shown : List NumberedSight
  shown = sights_of_scope t (numbered_scope w)

  abbrev others : List NumberedSight
  others = sights_of_members t (numbered_members own)

  -- the views of the world come first
  pub views_first : sights_of_members t (numbered_members ms) ≡ shown ++ others
  views_first = ap (λ a. sights_of_part t (numbered_part a) ++ others) is

  pub shown_among : (s : NumberedSight) → Contains shown s → Contains (sights_of_members t (numbered_members ms)) s
  shown_among s c = subst (λ ss. Contains ss s) (sym views_first) (Contains-append_left shown others s c)

  pub functions_shown : (s : NumberedSight) → Contains shown s → functions_seen s.place (sights_of_members t (numbered_members ms)) ≡ functions_seen s.place shown
  functions_shown s c = ap (functions_seen s.place) views_first ∙ functions_in_front shown others s (ap (λ (x : NumberedSight). x.whole) (sym (instance_of_view t (numbered_scope w) s c).2)) c

  -- the place of one of those interfaces is one that the world shows
  own_shown : (s : NumberedSight) → Contains others s → (r : NumberedSight) × Contains shown r × (r.place ≡ s.place)
  own_shown s c =
      let from = flat_cases (λ (x : NumberedMember). sights_of_part t x.part) _ s c in
      let one = all_at (IsOwnInterface t h n (numbered_scope w)) _ own_are.each _ from.1 in
      let first = first_is _ _ _ one.shown in
      (one.first, first.0, first.1 ∙ ap (λ (x : NumberedSight). x.place) (one-contained _ s (subst (λ a. Contains (sights_of_part t a) s) one.part from.2)))

  -- so is each place under a path
  pub place_shown : (q : ℕ) → Contains (places_in ms) q → HasPath t q → (s : NumberedSight) × Contains shown s × (s.place ≡ q)
  place_shown q c path =
      let seen = sight_of_place t ms q c path in
      by seen.0 seen.2 (Contains-append_cases shown others seen.0 (subst (λ ss. Contains ss seen.0) views_first seen.1))
    where
      by : (s : NumberedSight) → s.place ≡ q → Contains shown s ⊎ Contains others s → (r : NumberedSight) × Contains shown r × (r.place ≡ q)
      by s place (inl here) = (s, here, place)
      by s place (inr other) = let found = own_shown s other in (found.0, found.1, found.2 ∙ place)

  -- ---- the one world

  no_worlds : (xs : List Member) → AllByRecursion (IsOwnInterface t h n (numbered_scope w)) (numbered_members xs) → worlds_in xs ≡ []
  no_worlds [] all = refl
  no_worlds (x ∷ xs) all = search (std_rules, no_worlds xs all.1)

  pub one_world : worlds_in ms ≡ (m.label.now, w) ∷ []
  one_world = ap (λ a. world_in_part m.label.now a ++ worlds_in own) is ∙ ap (λ ws. (m.label.now, w) ∷ ws) (no_worlds own own_are.each)

  -- A plan of all this has it as its one world.
  pub record IsPlannedAlone (kept : List ℕ) (p : Plan) : Type 0 where
    pub world : PlannedWorld
    pub alone : p.worlds ≡ world ∷ []
    pub plans : PlansWorld t kept (places_in ms) n (m.label.now, w) world

  pub planned_alone : (p : Plan) (planned : PlansWhole t h.packages (home_at h) n ms p) → IsPlannedAlone planned.kept p
  planned_alone p planned = search (std_rules, one_world)

-- ---- The plan of one world, beside the interfaces of its package that it shows, is one that was read as one world.

module _ (t : Tables) (h : Homes) (known : ℕ → Fact) (n : ℕ) (m : Member) (own : List Member) (members : List reads.Member) (given : IsPackageInput t h known n (m ∷ own) members)
    (input : IsWholeInput t h n (m ∷ own)) (w : Scope) (is : m.part ≡ parts.World w) (own_are : AreOwnInterfaces t h n (numbered_scope w) (numbered_members own)) (p : Plan)
    (planned : PlansWhole t h.packages (home_at h) n (m ∷ own) p) (fits : FitsInput p) (whole : TypesAreWhole t planned.kept (m ∷ own) p) where
  abbrev b : Beside
  b = beside_tables known whole.marks.marks (m ∷ own)

  -- the world shows each place under a path
  shown_by_world : (read : IsReadPlan t h planned.kept p b (views_read (m ∷ own))) (q : ℕ) → HasPath t q → IsShownByWorld t h planned.kept p b (views_read (m ∷ own)) read q
  shown_by_world read q path =
      let apart = whole_stands_apart t h known n (m ∷ own) members given input.rise in
      let view = place_shown t h n m own w is own_are q (input.met q path) path in
      let from = instance_of_view t (numbered_scope w) view.0 view.1 in
      let place : from.0.place ≡ q = ap (λ (s : NumberedSight). s.place) from.2 ∙ view.2 in
      subst (IsShownByWorld t h planned.kept p b (views_read (m ∷ own)) read) place
      ((whole_is_shown t h known n (m ∷ own) members given apart.0 input.reached p planned b refl read).worlds m (0, omega arith, refl) w is from.0 from.1 (subst (HasPath t) (sym place) path))

  pub world_plan_read : IsReadWorldPlan t h planned.kept p b (views_read (m ∷ own))
  world_plan_read =
      let as_package = plan_read t h known n (m ∷ own) members given input p planned fits whole in
      let one = planned_alone t h n m own w is own_are p planned in
      record {
        read = as_package.read;
        kept_for = as_package.kept_for;
        world = one.world;
        alone = one.alone;
        home = one.plans.package_ ∙ ap Some (sym planned.main);
        shown = λ q k i path owned there. shown_by_world as_package.read q path;
      }

-- ---- what the page is for

module _ (t : Tables) (h : Homes) (known : ℕ → Fact) (n : ℕ) (m : Member) (own : List Member) (members : List reads.Member) (given : IsPackageInput t h known n (m ∷ own) members)
    (input : IsWholeInput t h n (m ∷ own)) (scope : follow.Scope) (world : IsWorldInput t h known n m own scope) (p : Plan) (planned : PlansWhole t h.packages (home_at h) n (m ∷ own) p)
    (whole : TypesAreWhole t planned.kept (m ∷ own) p) where
  abbrev sights : List NumberedSight
  sights = sights_of_scope t (numbered_scope world.world)

  -- views in order, and worlds in places of their own
  apart : ViewsAreOrdered t (m ∷ own) × WorldsAreApart (m ∷ own)
  apart = whole_stands_apart t h known n (m ∷ own) members given input.rise

  known_sights : AllByRecursion (IsKnownSight t known) sights
  known_sights = (all_split (IsKnownSight t known) sights (sights_of_members t (numbered_members own))
      (subst (AllByRecursion (IsKnownSight t known)) (views_first t h n m own world.world world.is world.own_) given.sights)).0

  -- the interfaces of the plan are gathered from what the world shows
  interfaces : IsGatheredFrom t planned.kept p sights (λ q. true) (under_path p) p.interfaces
  interfaces = all_gathered t h known n (m ∷ own) members given apart.0 p planned (beside_tables known whole.marks.marks (m ∷ own)) refl (λ q. true) (λ i. false) (λ k q at path i there. refl)
      sights (record {
        among = shown_among t h n m own world.world world.is world.own_;
        met = λ q c passes path. place_shown t h n m own world.world world.is world.own_ q c path;
        functions = functions_shown t h n m own world.world world.is world.own_;
      })

  gathered : IsGatheredWorld t h n m.label.now (numbered_scope world.world) p
  gathered =
      let own_package = main t h known n (m ∷ own) members given input p planned whole in
      let one = planned_alone t h n m own world.world world.is world.own_ p planned in
      let at = world_at t h known n (m ∷ own) members given apart.0 apart.1 input.followed p planned whole 0 (m.label.now, world.world)
      (ap (λ ws. slice_get ws 0) (one_world t h n m own world.world world.is world.own_)) in
      let first : world_in p 0 ≡ Some one.world = ap (λ ws. slice_get ws 0) one.alone in
      record {
        kept = planned.kept;
        keeps = (kept_types_pass t given.input.tables planned.kept p whole.types).0;
        main = own_package.package_;
        stands = ap (slice_get p.packages) planned.main ∙ own_package.there;
        identity = input.stands ∙ ap Some (sym own_package.made.is);
        world = one.world;
        first = first;
        named = one.plans.name;
        becomes = subst (WorldBecomes t planned.kept p (numbered_scope world.world)) (same-some at.world one.world (sym at.stands ∙ first)) at.becomes;
        chosen = interfaces.chosen;
        chosen_are = interfaces.chosen_are;
        shown = interfaces.zip;
      }

  -- the path of the world is read as its label in the package
  path_reads : read_path (path_in input.identity m.label.now) ≡ Some (input.identity, m.label.now)
  path_reads =
      let path = input.packages.read n input.identity input.stands in
      spelled_path_reads input.identity m.label.now (read_path_is_spelled path.path input.identity path.name path.reads).identity input.labels.labels.0

  pub world_plan_meant : plan_world_meaning p ≡ world_with input.identity m.label.now scope
  world_plan_meant =
      let same : gathered.main.identity ≡ input.identity = same-some gathered.main.identity input.identity (sym gathered.identity ∙ input.stands) in
      gathered_world_is_meant t given.input.tables h given.input.homes known n m.label.now (numbered_scope world.world) scope world.shows known_sights world.obeys p gathered
      (subst (λ (i : PackageIdentity). read_path (path_in i m.label.now) ≡ Some (i, m.label.now)) (sym same) path_reads) ∙ ap (λ (i : PackageIdentity). world_with i m.label.now scope) same

pub world_plan_is_whole : WorldPlanIsWhole
world_plan_is_whole t h known n m own members given input scope world p planned fits =
    let whole = planned_types_are_whole t h (m ∷ own) members (packages_are_ruled t h known n (m ∷ own) members given) n p planned in
    record {
      plan = read_world_plan_stands t given.input.tables h given.input.homes planned.kept p (beside_tables known whole.marks.marks (m ∷ own)) (views_read (m ∷ own))
          (world_plan_read t h known n m own members given input world.world world.is world.own_ p planned fits whole);
      means = world_plan_meant t h known n m own members given input scope world p planned whole;
    }
