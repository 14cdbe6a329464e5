-- The worlds of a plan show what worlds at the top do, and each view shows the types by which its place is read.
use Rattle.plan_laws.proofs.ViewsAgree.{own_once, instance_seen, views_told, first_is, told_types}
use Rattle.plan_laws.proofs.{MetNames.flat_cases, Owned.found_there, Sources.Side, Sources.partner, Sources.world_in as world_of, Sources.one_owner}
use Rattle.plan_laws.proofs.WholeTypes.{world_among, packages_are_ruled}
use Rattle.std.proofs.Common.{rules as std_rules, ◌≡◌, refl, sym, ap, subst, ◌∙◌, ℕ, inl, inr, ◌==◌, true, List, [], ◌++◌, map, Option, Some, None}
use Rattle.std.proofs.lemmas.{List.Elements.Contains-append_left, List.Elements.Contains-append_right, Option.same_Some as same-some}
use Rattle.std.specs.{List.AllByRecursion, List.AllZip, List.Contains, Option.option_map_or, Cmp.Lexicographic.pointwise}
use Rattle.wit_model.specs.{Text.Text, Valid.as_interface}
use Rattle.wit_model.specs.declared.model.{TypeId.TypeId, TypeOwner.TypeOwner}
use Rattle.wit_model.proofs.Elements.{contains-flat, contains-get}
use Rattle.plan_meaning.specs.NumberedMembers.{Homes, NumberedMember, NumberedPart, home_at, interface, sights_of_members, sights_of_part, world}
use Rattle.plan_meaning.specs.{NumberedRules.Fact, Plan.Plan, Plan.PlannedItem, Plan.PlannedKey, Plan.PlannedWorld, Plan.item_interface, Plan.world_in}
use Rattle.plan_meaning.specs.{ReadWholes.IsShownByWorld, ReadWholes.place_shown, NumberedWorlds.NumberedInstance, NumberedWorlds.sights_of_instance}
use Rattle.plan_meaning.specs.{NumberedViews.NumberedSight, NumberedViews.Tables, NumberedViews.same_shown, ReadFunctions.Beside, ReadPlans.IsReadPlan}
use Rattle.plan_meaning.specs.ReadWorlds.{IsReadItem, IsReadWorld, ReadItem, a_function, a_type, by_label, by_path, implementing_path}
use Rattle.read_exports.specs.Members.{numbered_members}
use Rattle.read_exports.specs.declared.members.Member.{Member}
use Rattle.read_rules.specs.declared.scopes.{Scope.Scope, Seen.Seen}
use Rattle.read_rules.specs.Scopes.{numbered_scope, numbered_shown}
use Rattle.plan_package.specs.{PlanWhole.PlansWhole, PlanWhole.places_in, WholeWorlds.PlansItem, WholeWorlds.PlansWorld, WholeWorlds.worlds_in}
use Rattle.plan_package.specs.Views.{views_of_members, views_of_part, whole_view}
use Rattle.plan_laws.specs.{FirstViews.ViewsAreOrdered, ShownWhole.WholeIsShown, ViewedInterfaces.views_read, Whole.IsPackageInput, Owners.owners_of}
use Rattle.base_lemmas.proofs.{Elements.all_at, Elements.contains-map, Elements.zip_at, Elements.map_from as from_map, Numbers.same-number}
use Rattle.comp_meaning.specs.Reads as reads
use Rattle.plan_meaning.specs.Plan as plan
use Rattle.read_exports.specs.declared.members.Part.TheVariants as parts

-- the view that an instance gives, if its place has a path
pub view_given : (t : Tables) (i : NumberedInstance) (s : NumberedSight) → Contains (sights_of_instance t i) s → whole_view i ≡ s
view_given t i s c = search std_rules

-- a view with a path that is seen is one of all
pub sight_viewed : (t : Tables) (ms : List NumberedMember) (s : NumberedSight) → Contains (sights_of_members t ms) s → Contains (views_of_members ms) s
sight_viewed t ms s c =
    let from = flat_cases (λ (m : NumberedMember). sights_of_part t m.part) ms s c in
    contains-flat (λ (m : NumberedMember). views_of_part m.part) ms from.0 s from.1 (of_part from.0.part from.2)
  where
    of_part : (a : NumberedPart) → Contains (sights_of_part t a) s → Contains (views_of_part a) s
    of_part (interface p v imports) there = there
    of_part (world w) there =
        let from = flat_cases (sights_of_instance t) w.instances s there in
        subst (Contains (map whole_view w.instances)) (view_given t from.0 s from.2) (contains-map whole_view w.instances from.0 from.1)

module _ (t : Tables) (h : Homes) (known : ℕ → Fact) (n : ℕ) (ms : List Member) (members : List reads.Member) (given : IsPackageInput t h known n ms members)
    (ordered : ViewsAreOrdered t ms) (p : Plan)
    (planned : PlansWhole t h.packages (home_at h) n ms p) (b : Beside) (owned : b.owners ≡ owners_of ms) (read : IsReadPlan t h planned.kept p b (views_read ms)) where
  -- ---- views

  pub views_agree : (s : NumberedSight) → Contains (sights_of_members t (numbered_members ms)) s → pointwise same_shown (views_read ms s.place).types s.view.types ≡ true
  views_agree s c =
      let there = sight_viewed t (numbered_members ms) s c in
      let first = found_there (λ (x : NumberedSight). s.place == x.place) (views_of_members (numbered_members ms)) s there (same-number s.place) in
      let is = first_is s.place (views_of_members (numbered_members ms)) first.0 first.1 in
      ap (λ o. pointwise same_shown (option_map_or (λ (x : NumberedSight). x.view.types) o []) s.view.types) first.1
      ∙ told_types first.0.view.types s.view.types (views_told t h ms members given.input (packages_are_ruled t h known n ms members given).agree ordered first.0 s is.0 there is.1)

  -- ---- worlds

  abbrev Read : ℕ → PlannedWorld → Type 0
  Read = IsReadWorld t planned.kept p b (views_read ms)

  -- the item that is the interface of a place shows the place
  item_shows : (o : TypeOwner) (home : ℕ) (x : ReadItem) → IsReadItem t planned.kept p b (views_read ms) o home x → (q k : ℕ) → b.owners q ≡ as_interface k → item_interface x.entry.1 ≡ Some k
      → place_shown x.seen.shown ≡ Some q
  item_shows o home x is q k own at = by is
    where
      one_place : (r m : ℕ) (key : PlannedKey) (id : Option Text) → b.owners r ≡ as_interface m → x.entry ≡ (key, plan.interface m id) → r ≡ q
      one_place r m key id other entry =
          one_owner ms b owned r q (as_interface k) (other ∙ ap as_interface (same-some m k (sym (ap (λ (e : PlannedKey × PlannedItem). item_interface e.1) entry) ∙ at))) own

      by : IsReadItem t planned.kept p b (views_read ms) o home x → place_shown x.seen.shown ≡ Some q
      by (by_path r m v id path shows text entry of_place) = ap place_shown shows ∙ ap Some (one_place r m (plan.path_of m) id of_place.owned entry)
      by (by_label r m v id shows label entry of_place) = ap place_shown shows ∙ ap Some (one_place r m (plan.label x.seen.key) id of_place.owned entry)
      by (implementing_path r m v id path shows label entry of_place) = ap place_shown shows ∙ ap Some (one_place r m (plan.label x.seen.key) id of_place.owned entry)
      by (a_function m g shows entry under) = let wrong : ◌≡◌ {A = Option ℕ} None (Some k) = sym (ap (λ (e : PlannedKey × PlannedItem). item_interface e.1) entry) ∙ at in absurd cc
      by (a_type d m shows entry under) = let wrong : ◌≡◌ {A = Option ℕ} None (Some k) = sym (ap (λ (e : PlannedKey × PlannedItem). item_interface e.1) entry) ∙ at in absurd cc

  -- an instance of the place becomes the interface of its number
  record IsPlannedAs (q : ℕ) (e : PlannedKey × PlannedItem) : Type 0 where
    number : ℕ
    own : b.owners q ≡ as_interface number
    is : item_interface e.1 ≡ Some number

  planned_as : (find : Text → Option TypeId) (s : Seen) (e : PlannedKey × PlannedItem) (q : ℕ) → PlansItem t planned.kept (places_in ms) find s e → place_shown (numbered_shown s.shown) ≡ Some q
      → IsPlannedAs q e
  planned_as find s e q y at = search std_rules

  -- what a list of imports or exports is read as shows the place
  listed_shows : (find : Text → Option TypeId) (o : TypeOwner) (home : ℕ) (ss : List Seen) (es : List (PlannedKey × PlannedItem)) → AllZip (PlansItem t planned.kept (places_in ms) find) ss es
      → (xs : List ReadItem) → map (λ (x : ReadItem). x.entry) xs ≡ es → AllByRecursion (IsReadItem t planned.kept p b (views_read ms) o home) xs → (q : ℕ) (s : Seen) → Contains ss s
      → place_shown (numbered_shown s.shown) ≡ Some q → (x : ReadItem) × Contains xs x × (place_shown x.seen.shown ≡ Some q)
  listed_shows find o home ss es zip xs listed all q s c at =
      let e = partner (PlansItem t planned.kept (places_in ms) find) ss es zip s c in
      let becomes = planned_as find s e.0 q e.2 at in
      let item = from_map (λ (x : ReadItem). x.entry) xs e.0 (subst (λ ys. Contains ys e.0) (sym listed) e.1) in
      (item.0, item.1, (item_shows o home item.0 (all_at _ _ all item.0 item.1) q becomes.number becomes.own (ap (λ (x : PlannedKey × PlannedItem). item_interface x.1) item.2 ∙ becomes.is)))

  pub worlds_show : (m : Member) → Contains ms m → (w : Scope) → m.part ≡ parts.World w → (i : NumberedInstance) → Contains (numbered_scope w).instances i
      → IsShownByWorld t h planned.kept p b (views_read ms) read i.place
  worlds_show m c w is i among =
      let j = contains-get (worlds_in ms) (m.label.now, w) (world_among ms m c w is) in
      let x = zip_at (PlansWorld t planned.kept (places_in ms) n) (worlds_in ms) p.worlds planned.worlds j.0 (m.label.now, w) j.1 in
      let seen = instance_seen t h ms members given.input w (world_of t h ms members given.input m c w is)
      (own_once t h ms members given.input given.placed.apart m c w is) i among in
      by j.0 x.0 x.1 x.2 (read.order.worlds j.0 x.0 x.1) refl seen.seen seen.among seen.place
    where
      by : (j : ℕ) (x : PlannedWorld) (there : world_in p j ≡ Some x) → PlansWorld t planned.kept (places_in ms) n (m.label.now, w) x → (r : Read j x) → read.order.worlds j x there ≡ r
          → (s : Seen) → Side w s → place_shown (numbered_shown s.shown) ≡ Some i.place → IsShownByWorld t h planned.kept p b (views_read ms) read i.place
      by j x there plans r same s side place = which side
        where
          shown_by : (y : ReadItem) → Contains (r.imports ++ r.exports) y → place_shown y.seen.shown ≡ Some i.place → IsShownByWorld t h planned.kept p b (views_read ms) read i.place
          shown_by y listed shows = record { number = j; world = x; there = there; item = y; listed = subst (λ (z : Read j x). Contains (z.imports ++ z.exports) y) (sym same) listed; shows = shows }

          which : Side w s → IsShownByWorld t h planned.kept p b (views_read ms) read i.place
          which (inl imported) = search (std_rules, listed_shows, shown_by, Contains-append_left)
          which (inr exported) = search (std_rules, listed_shows, shown_by, Contains-append_right)

pub whole_is_shown : WholeIsShown
whole_is_shown t h known n ms members given ordered reached p planned b owned read = search (std_rules, worlds_show, views_agree)
